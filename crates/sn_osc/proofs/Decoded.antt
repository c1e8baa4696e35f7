-- What the answer of decoding says, from what is read.
use Rattle.std.proofs.Common.{ℕ, ◌≤◌, List, length, Result, Ok, Err, IfOk, ◌&&◌, ltb, leb, eqb, ◌%◌}
use Rattle.std.proofs.lemmas.Bool.{leb-true}
use Rattle.sn_osc.specs.declared.packet.Packet.{Packet}
use Rattle.sn_osc.specs.declared.fault.Undecoded.{Undecoded}
use Rattle.sn_osc.specs.declared.fault.Undecoded.TheVariants as undecoded
use Rattle.sn_osc.specs.Shape.{shape}
use Rattle.sn_osc.specs.Grammar.{Spells}
use Rattle.sn_osc.specs.Reading.{Gives, IfBad, read}
use Rattle.sn_osc.specs.Faults.{FirstFault}
use Rattle.sn_osc.proofs.Fields.{IsBytes, and_yes}
use Rattle.sn_osc.proofs.PacketLaws.{read_takes}
use Rattle.sn_osc.proofs.PacketFaults.{read_faults}

pub is_found : (bytes : List ℕ) (r : Result Packet Undecoded) → IsBytes bytes → Gives shape r (read bytes) → IfOk r (λ p. (length bytes ≤ 65536) × Spells (shape p) bytes)
is_found bytes (Ok p) fits reads =
    let t = read_takes bytes (shape p) fits reads in
    let sizes = and_yes (ltb 0 (length bytes) && leb (length bytes) 65536) (eqb (length bytes % 4) 0) t.0 in
    (leb-true _ _ (and_yes (ltb 0 (length bytes)) (leb (length bytes) 65536) sizes.0).1, t.1)
is_found bytes (Err e) fits reads = tt

pub is_bad : (bytes : List ℕ) (r : Result Packet Undecoded) → IsBytes bytes → Gives shape r (read bytes) → IfBad r (λ f. FirstFault bytes f.kind f.place)
is_bad bytes (Ok p) fits reads = tt
is_bad bytes (Err undecoded.NoMemory) fits reads = tt
is_bad bytes (Err (undecoded.Bad f)) fits reads = read_faults bytes f fits reads
