-- The done word of a unit that ends: 0 before its end, 1 from the frame of the end until the block is settled, and 2
-- after that.
use Rattle.std.specs.Prelude.{ℕ, ◌==◌, cond}

-- a unit ends once
abbrev pub ended : ℕ → ℕ
ended done = cond (done == 0) 1 done
