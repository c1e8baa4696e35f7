-- Free words of a region, and the least place for a run of them.
use Rattle.std.specs.Prelude.{◌≡◌, ℕ, ◌+◌, ◌-◌, ◌≤◌, ◌<◌, Bool, true, false, ◌&&◌, not, zero, suc, if◌then◌else◌, List, Option, Some, None}
use Rattle.sn_mem.specs.declared.extents.Extent.{Extent}
use Rattle.sn_mem.specs.Words.{has}

-- The n words from p lie in the region, and none of them in a live extent.
pub record IsFree (region : Extent) (live : List Extent) (n p : ℕ) : Type 0 where
  pub from : region.at ≤ p
  pub to : p + n ≤ region.at + region.len
  pub unused : (x : ℕ) → p ≤ x → x < p + n → has live x ≡ false

pub record IsLeastPlace (region : Extent) (live : List Extent) (n p : ℕ) : Type 0 where
  pub free : IsFree region live n p
  pub least : (q : ℕ) → IsFree region live n q → p ≤ q

abbrev pub HasNoPlace : Extent → List Extent → ℕ → Type 0
HasNoPlace region live n = (p : ℕ) → IsFree region live n p → ⊥

-- The least p for which the n words from p lie in the region and in no live extent, or none if there is no such p.
abbrev pub LeastPlace : Extent → List Extent → ℕ → Option ℕ → Type 0
LeastPlace region live n None = HasNoPlace region live n
LeastPlace region live n (Some p) = IsLeastPlace region live n p

-- The longest run of free words has n words.
pub record IsLongestRun (region : Extent) (live : List Extent) (n : ℕ) : Type 0 where
  pub place : (p : ℕ) × IsFree region live n p
  pub longest : (m p : ℕ) → IsFree region live m p → m ≤ n

-- How many of the n words from p are in no live extent.
unfoldable pub count_free : List Extent → ℕ → ℕ → ℕ
count_free live p zero = 0
count_free live p (suc n) = (if has live p then 0 else 1) + count_free live (p + 1) n

-- The least place found by trying every place of the region in order.
unfoldable pub are_free : List Extent → ℕ → ℕ → Bool
are_free live p zero = true
are_free live p (suc n) = not (has live p) && are_free live (p + 1) n

unfoldable pub first_free : List Extent → ℕ → ℕ → ℕ → Option ℕ
first_free live n p zero = None
first_free live n p (suc places) = if are_free live p n then Some p else first_free live n (p + 1) places

abbrev pub least_place : Extent → List Extent → ℕ → Option ℕ
least_place region live n = first_free live n region.at (region.len + 1 - n)
