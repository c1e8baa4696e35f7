-- What decoding a stream answers.
use Rattle.std.specs.Prelude.{◌≡◌, ◌<◌, ℕ, List, slice_index, Result, Ok, Err}
use Rattle.sn_osc.specs.declared.fault.StreamFault.{StreamFault}
use Rattle.sn_osc.specs.Shape.{Shape}
use Rattle.sn_osc.specs.Frames.{Frames}
use Rattle.sn_render.specs.declared.stream.BadFrame.{BadFrame}
use Rattle.sn_render.specs.declared.stream.NoPackets.{NoPackets}
use Rattle.sn_render.specs.declared.stream.NoPackets.TheVariants as no_packets

-- Some bytes are the frames of these packets.
abbrev pub AreFramed : List Shape → Type 0
AreFramed packets = (bytes : List ℕ) × ((i : ℕ) → slice_index bytes i < 256) × Frames packets bytes

-- a fact for a refused stream
abbrev pub IfBad : {X : Type 0} → Result X NoPackets → (BadFrame → Type 0) → Type 0
IfBad (Ok x) P = Unit {0}
IfBad (Err no_packets.NoMemory) P = Unit {0}
IfBad (Err (no_packets.Bad f)) P = P f

-- the answer is these packets, or `NoMemory`
abbrev pub IsFound : {X : Type 0} → (X → List Shape) → Result X NoPackets → List Shape → Type 0
IsFound view (Ok x) xs = view x ≡ xs
IsFound view (Err no_packets.NoMemory) xs = Unit {0}
IsFound view (Err (no_packets.Bad f)) xs = ⊥

-- the answer is this fault, or `NoMemory`
abbrev pub IsRefused : {X : Type 0} → Result X NoPackets → ℕ → ℕ → StreamFault → Type 0
IsRefused (Ok x) number place fault = ⊥
IsRefused (Err no_packets.NoMemory) number place fault = Unit {0}
IsRefused (Err (no_packets.Bad f)) number place fault = (f.packet ≡ number) × (f.place ≡ place) × (f.fault ≡ fault)
