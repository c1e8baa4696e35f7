-- Natural numbers in decimal.
use Rattle.std.specs.Prelude.{ℕ, cond, nat_lt, List, Option, Some, None}
use Rattle.std.specs.Str.Parse.{digits_value}
use Rattle.sn_fixed.specs.Literal.{is_zero, is_positive}

-- the number, if 32 bits hold it
abbrev pub fits_32 : ℕ → Option ℕ
fits_32 n = cond (nat_lt n 4294967296) (Some n) None

-- The number of decimal digits without a leading zero, if it is below 2^32.
unfoldable pub natural : List ℕ → Option ℕ
natural text = cond (is_zero text) (Some 0) (cond (is_positive text) (fits_32 (digits_value 10 text)) None)
