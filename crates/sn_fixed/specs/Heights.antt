-- A table of the half wave's heights.
use Rattle.std.specs.Prelude.{◌≡◌, ◌<◌, List, slice_index, ℕ}
use Rattle.sn_fixed.specs.Sine.{height}

-- the first n entries are the heights at their places
abbrev pub AreHeights : List ℕ → ℕ → Type 0
AreHeights heights n = (h : ℕ) → h < n → slice_index heights h ≡ height h
