-- Why a stream gives no packets.
use Rattle.std.specs.Prelude.{◌+◌, ◌≡◌, ◌⊎◌, ◌<◌, ◌≤◌, ℕ, List, length, Option, Result, Ok, Err, IfSome}
use Rattle.std.specs.Io.KnownBytes.{Consumes, IsAtEnd, Keeps}
use Rattle.sn_ports.specs.Limits.{most_stream}
use Rattle.sn_osc.specs.Frames.{StreamFaultAt}
use Rattle.sn_osc.specs.Shape.{Shape}
use Rattle.sn_render.specs.Outcomes.{Takes}
use Rattle.sn_render.specs.declared.gathering.Ungathered.{Ungathered}
use Rattle.sn_render.specs.declared.gathering.Ungathered.TheVariants.{NoMemory, ReadFault, LongStream, BadStream}

-- The refusal that the bytes of a stream have: it is too long, or has a first fault.
abbrev pub HasRefusal : List ℕ → Ungathered → Type 0
HasRefusal bytes (LongStream n) = (n ≡ most_stream + 1) × (most_stream < length bytes)
HasRefusal bytes (BadStream packet place fault) = (length bytes ≤ most_stream) × StreamFaultAt bytes packet place fault
HasRefusal bytes NoMemory = ⊥
HasRefusal bytes ReadFault = ⊥

-- A refusal of one of these two kinds is the stream's, if the source tells its bytes. `LongStream` has its number told
-- or not.
abbrev pub IsRefusalOf : Option (List ℕ) → Ungathered → Type 0
IsRefusalOf stream (LongStream n) = (n ≡ most_stream + 1) × IfSome stream (λ bytes. most_stream < length bytes)
IsRefusalOf stream (BadStream packet place fault) = IfSome stream (λ bytes. HasRefusal bytes (BadStream packet place fault))
IsRefusalOf stream NoMemory = Unit {0}
IsRefusalOf stream ReadFault = Unit {0}

-- What is taken of a stream that gives no packets. Of one at fault it is all. Of one that is too long it is as many
-- bytes as show it. Of one on which the source failed it is a prefix of fewer bytes. If memory ran out it is nothing,
-- or all of a stream that isn't too long.
abbrev pub TakesRefused : Ungathered → Option (List ℕ) → Option (List ℕ) → Type 0
TakesRefused (BadStream packet place fault) old new = IsAtEnd new
TakesRefused (LongStream n) old new = Takes n old new
TakesRefused ReadFault old new = (front : List ℕ) × Consumes old new front × (length front ≤ most_stream)
TakesRefused NoMemory old new = Keeps old new ⊎ (IsAtEnd new × IfSome old (λ bytes. length bytes ≤ most_stream))

-- the answer is these packets, or `NoMemory`
abbrev pub GathersOnly : {X : Type 0} → (X → List Shape) → Result X Ungathered → List Shape → Type 0
GathersOnly view (Ok x) packets = view x ≡ packets
GathersOnly view (Err NoMemory) packets = Unit {0}
GathersOnly view (Err ReadFault) packets = ⊥
GathersOnly view (Err (LongStream n)) packets = ⊥
GathersOnly view (Err (BadStream packet place fault)) packets = ⊥
