-- Straight lines between two samples.
use Rattle.std.specs.Prelude.{ℕ, ℤ, pos, ◌+ℤ◌, ◌-ℤ◌, ◌*ℤ◌, ◌≤ℤ◌}
use Rattle.sn_fixed.specs.Fixed.{floor}

-- the sample at frame k of a line of n frames
unfoldable pub line_at : ℤ → ℤ → ℕ → ℕ → ℤ
line_at start end k n = start +ℤ floor ((end -ℤ start) *ℤ pos k) n

-- y lies between 0 and z
abbrev pub IsBetween : ℤ → ℤ → Type 0
IsBetween y z = (pos 0 ≤ℤ z → (pos 0 ≤ℤ y) × (y ≤ℤ z)) × (z ≤ℤ pos 0 → (z ≤ℤ y) × (y ≤ℤ pos 0))
