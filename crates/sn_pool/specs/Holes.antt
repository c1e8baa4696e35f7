-- Runs of free words.
use Rattle.std.specs.Prelude.{◌≡◌, ◌≢◌, ℕ, ◌+◌, ◌≤◌, ◌<◌, ◌^◌, ◌⊎◌, ◌||◌, true, List, [], ◌∷◌, length, Option, Some, None, min, nat_le, if◌then◌else◌}
use Rattle.sn_mem.specs.declared.extents.Extent.{Extent}
use Rattle.sn_mem.specs.Words.{covers, has}
use Rattle.sn_pool.specs.Pools.{times}

-- The runs in the order of their places, and for how many there is room.
pub record HolesState : Type 0 where
  pub runs : List Extent
  pub room : ℕ

-- At least one word lies between the two.
abbrev pub AreParted : Extent → Extent → Type 0
AreParted a b = (a.at + a.len < b.at) ⊎ (b.at + b.len < a.at)

-- Each run has a word, and at least one word lies between any two of them. So each is as long as it can be.
pub record AreRuns (runs : List Extent) : Type 0 where
  pub each : (e : Extent) → 0 < times e runs → (1 ≤ e.len) × (e.at + e.len < 2 ^ 32)
  pub once : (e : Extent) → times e runs ≤ 1
  pub parted : (a b : Extent) → 0 < times a runs → 0 < times b runs → a ≢ b → AreParted a b

-- Each of the n words from p is in one of the runs.
abbrev pub AreIn : List Extent → ℕ → ℕ → Type 0
AreIn runs p n = (x : ℕ) → p ≤ x → x < p + n → has runs x ≡ true

-- The least p for which the n words from p are in the runs, or none if there is no such p.
abbrev pub IsLeastIn : List Extent → ℕ → Option ℕ → Type 0
IsLeastIn runs n None = (p : ℕ) → AreIn runs p n → ⊥
IsLeastIn runs n (Some p) = AreIn runs p n × ((q : ℕ) → AreIn runs q n → p ≤ q)

-- The longest stretch of words in the runs has n words.
pub record IsLongestIn (runs : List Extent) (n : ℕ) : Type 0 where
  pub place : (n ≡ 0) ⊎ ((p : ℕ) × AreIn runs p n)
  pub longest : (m p : ℕ) → 1 ≤ m → AreIn runs p m → m ≤ n

-- The last run that begins at the place or before it, or none if there is no such run.
abbrev pub IsLastTo : ℕ → List Extent → Option Extent → Type 0
IsLastTo place runs None = (x : Extent) → 0 < times x runs → place < x.at
IsLastTo place runs (Some e) = (0 < times e runs) × (e.at ≤ place) × ((x : Extent) → 0 < times x runs → x.at ≤ place → x.at ≤ e.at)

-- The run that ends at the place, or none if there is no such run.
abbrev pub IsEndingAt : ℕ → List Extent → Option Extent → Type 0
IsEndingAt place runs None = (x : Extent) → 0 < times x runs → x.at + x.len ≢ place
IsEndingAt place runs (Some e) = (0 < times e runs) × (e.at + e.len ≡ place)

-- The run that begins at the place, or none if there is no such run.
abbrev pub IsBeginningAt : ℕ → List Extent → Option Extent → Type 0
IsBeginningAt place runs None = (x : Extent) → 0 < times x runs → x.at ≢ place
IsBeginningAt place runs (Some e) = (0 < times e runs) × (e.at ≡ place)

-- Each run ends where the extent begins or before it, or begins where it ends or after it.
abbrev pub IsBeside : List Extent → Extent → Type 0
IsBeside runs e = (x : Extent) → 0 < times x runs → (x.at + x.len ≤ e.at) ⊎ (e.at + e.len ≤ x.at)

-- Each run ends before the extent, with a word between, or begins where it ends or after it.
abbrev pub IsPartedBefore : List Extent → Extent → Type 0
IsPartedBefore runs e = (x : Extent) → 0 < times x runs → (x.at + x.len < e.at) ⊎ (e.at + e.len ≤ x.at)

-- The new runs and the joined one have the words that the old runs and the one before had.
pub record IsJoined (old : List Extent) (run : Extent) (new : List Extent) (joined : Extent) : Type 0 where
  pub words : (x : ℕ) → (covers joined x || has new x) ≡ (covers run x || has old x)
  pub len : length new ≤ length old

-- The place of the first run of at least n words.
unfoldable pub first_of : ℕ → List Extent → Option ℕ
first_of n [] = None
first_of n (e ∷ es) = if nat_le n e.len then Some e.at else first_of n es

-- The least of a place and the places of the runs.
unfoldable pub least_of : ℕ → List Extent → ℕ
least_of p [] = p
least_of p (e ∷ es) = least_of (min p e.at) es

abbrev pub least_place_of : List Extent → Option ℕ
least_place_of [] = None
least_place_of (e ∷ es) = Some (least_of e.at es)

-- The place of the first run of all that have at least n words.
abbrev pub IsLeastRun : List Extent → ℕ → Option ℕ → Type 0
IsLeastRun runs n None = (x : Extent) → 0 < times x runs → x.len < n
IsLeastRun runs n (Some p) = ((e : Extent) × (0 < times e runs) × (n ≤ e.len) × (e.at ≡ p)) × ((x : Extent) → 0 < times x runs → n ≤ x.len → p ≤ x.at)
