-- What a contract sees of a pool.
use Rattle.std.specs.Prelude.{◌≡◌, ℕ, ◌+◌, ◌-◌, ◌≤◌, ◌<◌, Bool, true, ◌&&◌, nat_eq, nat_lt, if◌then◌else◌, List, [], ◌∷◌, Option, Some, None, Result, Ok, Err}
use Rattle.sn_mem.specs.declared.extents.Extent.{Extent}
use Rattle.sn_mem.specs.Words.{covers}
use Rattle.sn_pool.specs.declared.pool.Mark.{Mark}
use Rattle.sn_pool.specs.declared.pool.Untaken.{Untaken}
use Rattle.sn_pool.specs.declared.pool.Untaken.TheVariants.{Full, NoMemory}

-- An open journal: its mark, the extents that were live when it began, and for how many more calls of `give_back` it
-- has room.
pub record Journal : Type 0 where
  pub mark : Mark
  pub saved : List Extent
  pub room : ℕ

-- A pool: its region, the live extents in the order of their places, and the open journal.
pub record PoolState : Type 0 where
  pub region : Extent
  pub live : List Extent
  pub journal : Option Journal

-- A region's words, its live extents in the order of their places, and for how many there is room.
pub record RegionState : Type 0 where
  pub words : Extent
  pub live : List Extent
  pub room : ℕ

-- Each extent has a word, begins where the one before it ends or later, and all lie between the two places.
abbrev pub AreLaidOut : ℕ → ℕ → List Extent → Type 0
AreLaidOut from to [] = from ≤ to
AreLaidOut from to (e ∷ es) = (from ≤ e.at) × (1 ≤ e.len) × AreLaidOut (e.at + e.len) to es

-- The extent in its place among the others.
abbrev pub with_extent : Extent → List Extent → List Extent
with_extent e [] = e ∷ []
with_extent e (x ∷ xs) = if nat_lt e.at x.at then e ∷ x ∷ xs else x ∷ with_extent e xs

abbrev pub same_extent : Extent → Extent → Bool
same_extent a b = nat_eq a.at b.at && nat_eq a.len b.len

-- The others without the extent.
abbrev pub without_extent : Extent → List Extent → List Extent
without_extent e [] = []
without_extent e (x ∷ xs) = if same_extent e x then xs else x ∷ without_extent e xs

-- How often the extent is in the list.
unfoldable pub times : Extent → List Extent → ℕ
times e [] = 0
times e (x ∷ xs) = (if same_extent e x then 1 else 0) + times e xs

-- No word is in both.
abbrev pub AreDisjoint : Extent → Extent → Type 0
AreDisjoint a b = (x : ℕ) → covers a x ≡ true → covers b x ≡ true → ⊥

-- It lies in the region.
abbrev pub LiesIn : Extent → Extent → Type 0
LiesIn region e = (region.at ≤ e.at) × (e.at + e.len ≤ region.at + region.len)

-- The mark, the saved extents and the room of an open journal.
abbrev pub mark_of : Option Journal → Option Mark
mark_of None = None
mark_of (Some j) = Some j.mark

abbrev pub saved_of : Option Journal → List Extent
saved_of None = []
saved_of (Some j) = j.saved

abbrev pub room_of : Option Journal → ℕ
room_of None = 0
room_of (Some j) = j.room

-- An open journal has room for a call of `give_back`.
abbrev pub HasRoom : Option Journal → Type 0
HasRoom None = Unit {0}
HasRoom (Some j) = 0 < j.room

-- The journal with room for one call fewer.
abbrev pub one_given : Option Journal → Option Journal
one_given None = None
one_given (Some j) = Some (record j { room = j.room - 1 })

-- The answer of `take` if the least place is known: its extent, or Full if there is none.
abbrev pub GivesPlace : Result Extent Untaken → Option ℕ → Type 0
GivesPlace (Ok e) place = place ≡ Some e.at
GivesPlace (Err Full) place = place ≡ None
GivesPlace (Err NoMemory) place = Unit {0}
