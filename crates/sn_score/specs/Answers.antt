-- What a reader answers, against what reading gives.
use Rattle.std.specs.Prelude.{◌≡◌, ◌≤◌, ◌<◌, ℕ, List, length, map, reverse, Option, Some, None, Result, Ok, Err, IsTrue}
use Rattle.sn_osc.specs.Bytes.{are_octets, packet_bytes, is_packet}
use Rattle.std.specs.Borrow.{Bor}
use Rattle.sn_ports.specs.Limits.{most_packet, most_bundles}
use Rattle.sn_osc.specs.Shape.{Shape, shape}
use Rattle.sn_score.specs.declared.fault.Refused.{Refused}
use Rattle.sn_score.specs.declared.fault.Refused.TheVariants as refused
use Rattle.sn_score.specs.declared.fault.Unscored.{Unscored}
use Rattle.sn_score.specs.declared.fault.Unscored.TheVariants as unscored
use Rattle.sn_score.specs.declared.draft.Level.{Level}
use Rattle.sn_score.specs.declared.draft.Draft.{Draft}
use Rattle.sn_score.specs.Reached.{Row, Reached, Read}

abbrev pub row_of : Level → Row
row_of l = record { tag = l.tag; around = l.around; elements = map shape l.elements.items }

-- the nearest first
abbrev pub rows_of : List Level → List Row
rows_of levels = reverse (map row_of levels)

abbrev pub reached : Draft → Reached
reached d = record { row = row_of d.level; outer = rows_of d.outer.items; room = d.room }

-- out of memory, or what reading gives
abbrev pub RefusedAs : Refused → Option Reached → Type 0
RefusedAs refused.NoMemory read = Unit {0}
RefusedAs refused.Fault read = read ≡ None

abbrev pub Gives : Result Draft Refused → Option Reached → Type 0
Gives (Ok d) read = read ≡ Some (reached d)
Gives (Err e) read = RefusedAs e read

abbrev pub UnscoredAs : Unscored → Read → Type 0
UnscoredAs unscored.NoMemory read = Unit {0}
UnscoredAs (unscored.Bad number) read = read ≡ Err number

abbrev pub Reads : {X : Type 0} → (X → List Shape) → Result X Unscored → Read → Type 0
Reads view (Ok x) read = read ≡ Ok (view x)
Reads view (Err e) read = UnscoredAs e read

-- what one more line gives, if it has this number
abbrev pub NextAs : ℕ → Unscored → Option Reached → Type 0
NextAs number unscored.NoMemory read = Unit {0}
NextAs number (unscored.Bad line) read = (line ≡ number) × (read ≡ None)

abbrev pub NextGives : ℕ → Result Draft Unscored → Option Reached → Type 0
NextGives number (Ok d) read = read ≡ Some (reached d)
NextGives number (Err e) read = NextAs number e read

-- how many bytes the packet spells in, if they are no more than a packet may have
abbrev pub IsSpellingLen : Option ℕ → Shape → Type 0
IsSpellingLen (Some n) x = IsTrue (is_packet most_bundles 1 x) × IsTrue (are_octets (packet_bytes x)) × (n ≡ length (packet_bytes x)) × (n ≤ most_packet)
IsSpellingLen None x = IsTrue (is_packet most_bundles 1 x) → most_packet < length (packet_bytes x)

abbrev pub texts : List (Bor (List ℕ)) → List (List ℕ)
texts pieces = map (λ p. p.now) pieces
