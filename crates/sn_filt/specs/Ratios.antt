-- Quotients and remainders, rounded down. Where b is negative they are found with the other sign of a and of b.
use Rattle.std.specs.Prelude.{ℕ, List, ℤ, pos, negsuc, neg_ℤ, ◌*ℤ◌, int_lt, unsigned_abs, cond}
use Rattle.std.specs.Int.{int_rem_euclid}
use Rattle.std.specs.Ordering.{int_eq}
use Rattle.sn_fixed.specs.Fixed.{floor, sat}
use Rattle.sn_mem.specs.Blocks.{sample}

-- a, or -a where b is negative
abbrev pub turned : ℤ → ℤ → ℤ
turned a b = cond (int_lt b (pos 0)) (neg_ℤ a) a

-- a divided by 0: the end of the samples on the side of a, and 0 for 0
abbrev pub end_of : ℤ → ℤ
end_of a = cond (int_lt (pos 0) a) (pos 2147483647) (cond (int_lt a (pos 0)) (negsuc 2147483647) (pos 0))

-- a over b as a sample
abbrev pub ratio : ℤ → ℤ → ℤ
ratio a b = cond (int_eq b (pos 0)) (end_of a) (sat (floor (turned a b *ℤ pos 16777216) (unsigned_abs b)))

-- a less a whole number of b: from 0 up to b, or down to it, without b itself
abbrev pub modulo : ℤ → ℤ → ℤ
modulo a b = cond (int_eq b (pos 0)) (pos 0) (turned (int_rem_euclid (turned a b) (pos (unsigned_abs b))) b)

-- Div a b, Mod a b
abbrev pub div : List (List ℤ) → ℕ → ℤ
div inputs k = ratio (sample inputs 0 k) (sample inputs 1 k)

abbrev pub mod_of : List (List ℤ) → ℕ → ℤ
mod_of inputs k = modulo (sample inputs 0 k) (sample inputs 1 k)
