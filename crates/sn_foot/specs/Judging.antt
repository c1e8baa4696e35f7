-- Which of the audio buses of a synth are only mixed, by all uses that it has.
use Rattle.std.specs.Prelude.{ℕ, ◌+◌, ◌==◌, nat_lt, Bool, false, ◌&&◌, if◌then◌else◌, List, [], ◌∷◌, slice_index_or, slice_set}
use Rattle.sn_ports.specs.Limits.{control_bus_count}
use Rattle.sn_foot.specs.declared.resource.Resource.{Resource}
use Rattle.sn_foot.specs.declared.resource.Resource.TheVariants.{Audio, Control, Buffer}
use Rattle.sn_foot.specs.declared.uses.Role.{Role}
use Rattle.sn_foot.specs.declared.uses.Role.TheVariants.{Read, Write, Mix}
use Rattle.sn_foot.specs.declared.uses.Use.{Use}
use Rattle.sn_foot.specs.Uses.{is_same}

-- how often uses name a resource
abbrev pub times : List Use → Resource → ℕ
times [] r = 0
times (u ∷ us) r = (if is_same u.resource r then 1 else 0) + times us r

-- it is an audio bus that they name once, of the numbers that a use may have
abbrev pub is_alone : List Use → Resource → Bool
is_alone all (Audio n) = nat_lt n control_bus_count && (times all (Audio n) == 1)
is_alone all (Control n) = false
is_alone all (Buffer n) = false

-- what is mixed, if nothing else names it, and written otherwise
abbrev pub role_if : Bool → Role → Role
role_if alone Read = Read
role_if alone Write = Write
role_if alone Mix = if alone then Mix else Write

abbrev pub judged_one : (Resource → Bool) → Use → Use
judged_one alone u = record { role = role_if (alone u.resource) u.role; resource = u.resource }

-- all uses, of which a test says what nothing else names
abbrev pub judged : (Resource → Bool) → List Use → List Use
judged alone [] = []
judged alone (u ∷ us) = judged_one alone u ∷ judged alone us

-- ---- counts of audio buses, by their numbers

-- one more, up to two
abbrev pub more : ℕ → ℕ
more n = if nat_lt n 2 then n + 1 else 2

abbrev pub counted : Resource → List ℕ → List ℕ
counted (Audio n) counts = slice_set counts n (more (slice_index_or counts n 0))
counted (Control n) counts = counts
counted (Buffer n) counts = counts

abbrev pub counted_all : List Use → List ℕ → List ℕ
counted_all [] counts = counts
counted_all (u ∷ us) counts = counted_all us (counted u.resource counts)

abbrev pub is_counted : List ℕ → Resource → Bool
is_counted counts (Audio n) = slice_index_or counts n 0 == 1
is_counted counts (Control n) = false
is_counted counts (Buffer n) = false
