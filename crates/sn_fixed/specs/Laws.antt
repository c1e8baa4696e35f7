-- Laws about literals.
use Rattle.std.specs.Prelude.{◌≡◌, ℤ, pos, negsuc, ◌≤ℤ◌, ℕ, Bool, true, ◌||◌, ◌==◌, List, Some}
use Rattle.std.specs.List.{list_all}
use Rattle.std.specs.Char.{is_ascii_digit}
use Rattle.std.specs.Fmt.{signed_decimal}
use Rattle.sn_fixed.specs.Literal.{literal}

-- The decimal digits of a sample, after a `-` if it is negative, are a literal of it.
abbrev pub ReadsBack : ℤ → Type 0
ReadsBack z = negsuc 2147483647 ≤ℤ z → z ≤ℤ pos 2147483647 → literal (signed_decimal z) ≡ Some z

-- 45 is `-`, and 46 is `.`
abbrev pub is_literal_byte : ℕ → Bool
is_literal_byte byte = is_ascii_digit byte || (byte == 45) || (byte == 46)

-- A literal has no other bytes: so it holds neither a space nor a line feed.
abbrev pub HasLiteralBytes : List ℕ → Type 0
HasLiteralBytes text = (z : ℤ) → literal text ≡ Some z → list_all is_literal_byte text ≡ true
