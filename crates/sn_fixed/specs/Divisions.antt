-- Divisions with remainder.
use Rattle.std.specs.Prelude.{◌≡◌, ◌<◌, ℕ, ℤ, pos, ◌+ℤ◌, ◌*ℤ◌}

-- q is the quotient of z by n, rounded down, and r the remainder
pub record IsDivided (z : ℤ) (n : ℕ) (q : ℤ) (r : ℕ) : Type 0 where
  pub parts : z ≡ q *ℤ pos n +ℤ pos r
  pub small : r < n
