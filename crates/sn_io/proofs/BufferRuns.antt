-- What a run of a unit on a buffer leaves, if its state and the buffers are apart.
use Rattle.std.proofs.Common.{◌≡◌, ◌<◌, ℕ, true, false, Option, List, ℤ, length, get_or, ap, sym, subst, ◌∙◌}
use Rattle.sn_def.specs.declared.kind.Kind.{Kind}
use Rattle.sn_def.specs.declared.control.Now.{Now}
use Rattle.sn_def.specs.declared.table.StateSize.{StateSize}
use Rattle.sn_def.specs.declared.table.StateSize.TheVariants.{Fixed}
use Rattle.sn_def.specs.Units.{row_of}
use Rattle.sn_def.specs.StateWords.{words_of}
use Rattle.sn_mem.specs.declared.extents.Foot.{Foot}
use Rattle.sn_mem.specs.declared.buffers.BufferPlace.{BufferPlace}
use Rattle.sn_mem.specs.Words.{MayWrite, writes, touches}
use Rattle.sn_mem.specs.Blocks.{window}
use Rattle.sn_mem.specs.Buffers.{buffers_of, AreApart}
use Rattle.sn_io.specs.BufferUnits.{is_buffer_unit, buffer_unit}
use Rattle.sn_io.specs.BuffersOverWords.{buffer_unit_over}
use Rattle.sn_io.specs.Conditions.{MayReachBuffer}
use Rattle.sn_io.proofs.Meaning.{state_inside}
use Rattle.sn_io.proofs.BufferMeaning.{BufferMeans, buffer_unit_means}
use Rattle.sn_io.proofs.BufferKeeping.{buffer_unit_long, buffer_unit_keeps}
use Rattle.sn_io.proofs.Standing.{stands}

fixed : (k : Kind) (len : ℕ) → (row_of k).words ≡ Fixed len → words_of (row_of k).words 0 ≡ len
fixed k len size = ap (λ (w : StateSize). words_of w 0) size

pub run_means : (k : Kind) (now : Now) (n at len : ℕ) (f : Foot) (places : List (Option BufferPlace)) (ws us : List ℕ) (inputs outputs : List (List ℤ)) → is_buffer_unit k ≡ true → (row_of k).words ≡ Fixed len → MayWrite f at len → MayReachBuffer k f inputs places → ((x : ℕ) → touches f x ≡ true → x < length ws)
    → us ≡ (buffer_unit_over k now n places ws at len inputs).0 → outputs ≡ (buffer_unit_over k now n places ws at len inputs).1 → AreApart (record { at = at; len = len }) places → BufferMeans at len places ws us outputs (buffer_unit k now n (window ws at len) inputs (buffers_of ws places))
run_means k now n at len f places ws us inputs outputs is size state may inside e o apart =
    let r = buffer_unit k now n (window ws at len) inputs (buffers_of ws places) in
    let w : List ℕ × List (List ℤ) = buffer_unit_over k now n places ws at len inputs in
    let P : List ℕ → Type 0 = λ (us : List ℕ). BufferMeans at len places ws us outputs r in
    let Q : List (List ℤ) → Type 0 = λ (outputs : List (List ℤ)). BufferMeans at len places ws w.0 outputs r in
    subst P (sym e) (subst Q (sym o) (buffer_unit_means k now n at len 0 places ws inputs is (fixed k len size) (stands k f at len (length ws) places inputs apart (state_inside f at len (length ws) state inside) inside may)))

pub run_keeps : (k : Kind) (now : Now) (n at len : ℕ) (f : Foot) (places : List (Option BufferPlace)) (ws us : List ℕ) (inputs : List (List ℤ)) → us ≡ (buffer_unit_over k now n places ws at len inputs).0 → (row_of k).words ≡ Fixed len → MayWrite f at len → MayReachBuffer k f inputs places → (j : ℕ) → writes f j ≡ false → get_or us j 0 ≡ get_or ws j 0
run_keeps k now n at len f places ws us inputs e size state may j off = ap (λ (us : List ℕ). get_or us j 0) e ∙ buffer_unit_keeps k now f n places ws at len 0 inputs j state (fixed k len size) may off

pub run_long : (k : Kind) (now : Now) (n at len : ℕ) (places : List (Option BufferPlace)) (ws us : List ℕ) (inputs : List (List ℤ)) → us ≡ (buffer_unit_over k now n places ws at len inputs).0 → length us ≡ length ws
run_long k now n at len places ws us inputs e = ap length e ∙ buffer_unit_long k now n places ws at len inputs
