-- Time tags and blocks. A tag counts in units of 2 ^ -32 seconds, a block has 64 frames, and block 0 begins at the
-- base.
use Rattle.std.specs.Prelude.{◌≡◌, ◌≤◌, ◌<◌, ◌^◌, ◌+◌, ◌-◌, ◌*◌, ◌/◌, ◌⊎◌, ◌==◌, ℕ, max, nat_le, if◌then◌else◌}
use Rattle.std.specs.Int.{div_ceil}

-- the number of the boundary at which a tag is due
abbrev pub due : ℕ → ℕ → ℕ → ℕ
due tag base rate = if nat_le tag base then 0 else (tag - base) * rate / 2 ^ 38

-- the tag of a boundary
abbrev pub at : ℕ → ℕ → ℕ → ℕ
at block base rate = base + div_ceil (block * 2 ^ 38) rate

-- its due number is no greater than 64 bits hold
abbrev pub IsInReach : ℕ → ℕ → ℕ → Type 0
IsInReach tag base rate = (tag ≤ base) ⊎ ((tag - base) * rate < 2 ^ 102)

-- tag is the least of all tags that are due at the block
abbrev pub IsLeastDue : ℕ → ℕ → ℕ → ℕ → Type 0
IsLeastDue tag block base rate = (due tag base rate ≡ block) × ((other : ℕ) → block ≤ due other base rate → tag ≤ other)

-- a tag of 1 counts as the time of the arrival boundary
abbrev pub counted_tag : ℕ → ℕ → ℕ
counted_tag tag arrival = if tag == 1 then arrival else tag

-- no entry acts before the arrival boundary
abbrev pub key_of : ℕ → ℕ → ℕ → ℕ → ℕ
key_of tag boundary base rate = let arrival = at boundary base rate in max (counted_tag tag arrival) arrival

-- the boundary at which an entry acts: its tag's, but not before that of its arrival
abbrev pub acts_at : ℕ → ℕ → ℕ → ℕ → ℕ
acts_at tag boundary base rate = if tag == 1 then boundary else max (due tag base rate) boundary
