-- Marks of how resources are used, in a list by their places.
use Rattle.std.specs.Prelude.{◌≡◌, ◌<◌, length, ℕ, ◌+◌, ◌*◌, ◌==◌, nat_lt, Bool, true, false, ◌&&◌, ◌||◌, if◌then◌else◌, List, [], ◌∷◌, slice_set, slice_index_or, Option, Some, None}
use Rattle.sn_foot.specs.declared.resource.Resource.{Resource}
use Rattle.sn_foot.specs.declared.resource.Resource.TheVariants.{Audio, Control, Buffer}
use Rattle.sn_foot.specs.Footprints.{Footprint, number_of}
use Rattle.sn_foot.specs.declared.uses.Role.{Role}
use Rattle.sn_foot.specs.declared.uses.Role.TheVariants.{Read, Write, Mix}
use Rattle.sn_foot.specs.declared.uses.Use.{Use}
use Rattle.sn_foot.specs.Uses.{uses_in}
use Rattle.sn_clash.specs.declared.marks.Mark.{Mark}

-- ---- marks

-- the sorts take turns, so that each resource has a place of its own
abbrev pub place : Resource → ℕ
place (Audio n) = 3 * n
place (Control n) = 3 * n + 1
place (Buffer n) = 3 * n + 2

abbrev pub unmarked : Mark
unmarked = record { read = false; written = false; mixed = false }

abbrev pub mark_of : List Mark → Resource → Mark
mark_of marks r = slice_index_or marks (place r) unmarked

-- the mark of what is used once more
abbrev pub more : Role → Mark → Mark
more Read m = record { read = true; written = m.written; mixed = m.mixed }
more Write m = record { read = m.read; written = true; mixed = m.mixed }
more Mix m = record { read = m.read; written = m.written; mixed = true }

-- it is marked that something is used in this way
abbrev pub is_marked : Role → Mark → Bool
is_marked Read m = m.read
is_marked Write m = m.written
is_marked Mix m = m.mixed

-- one more use is marked, if its resource has a place
abbrev pub mark_use : Use → List Mark → List Mark
mark_use u marks = slice_set marks (place u.resource) (more u.role (mark_of marks u.resource))

abbrev pub mark_uses : List Use → List Mark → List Mark
mark_uses [] marks = marks
mark_uses (u ∷ us) marks = mark_uses us (mark_use u marks)

-- of the resources that are there, those that are marked
abbrev pub marked_in : (Resource → Bool) → List Mark → Footprint
marked_in there marks = record { reads = λ r. there r && (mark_of marks r).read; writes = λ r. there r && (mark_of marks r).written; mixes = λ r. there r && (mark_of marks r).mixed }

-- ---- uses that clash with what is marked

-- one of the two writes, or one mixes and the other does more
abbrev pub meets : Role → Mark → Bool
meets Read m = m.written || m.mixed
meets Write m = (m.read || m.written) || m.mixed
meets Mix m = m.read || m.written

abbrev pub hits : (Resource → Bool) → List Mark → Use → Bool
hits there marks u = meets u.role (mark_of marks u.resource) && there u.resource

abbrev pub rank : Resource → ℕ
rank (Audio n) = 0
rank (Control n) = 1
rank (Buffer n) = 2

-- audio buses, control buses, and buffers, each by their numbers
abbrev pub comes_before : Resource → Resource → Bool
comes_before a b = nat_lt (rank a) (rank b) || ((rank a == rank b) && nat_lt (number_of a) (number_of b))

abbrev pub first_of : Option Resource → Resource → Resource
first_of None r = r
first_of (Some least) r = if comes_before least r then least else r

-- the first resource on which uses clash with what is marked, or an earlier one
abbrev pub first_hit : (Resource → Bool) → List Mark → List Use → Option Resource → Option Resource
first_hit there marks [] least = least
first_hit there marks (u ∷ us) least = first_hit there marks us (if hits there marks u then Some (first_of least u.resource) else least)

-- ---- without repeats

-- uses that say the same as others, of which those with a place are just what is marked
pub record IsThinned (marks : List Mark) (kept uses : List Use) : Type 0 where
  pub long : length marks ≡ 3072
  pub same : (a : Role) (r : Resource) → uses_in a kept r ≡ uses_in a uses r
  pub marked : (a : Role) (r : Resource) → place r < 3072 → is_marked a (mark_of marks r) ≡ uses_in a kept r

-- an answer as a list
abbrev pub listed : {A : Type 0} → Option A → List A
listed None = []
listed (Some x) = x ∷ []
