-- The literals of a definition text: whole numbers, which are raw values, and decimal fractions.
use Rattle.std.specs.Prelude.{ℕ, ◌+◌, ◌*◌, ◌^◌, ℤ, pos, negsuc, neg_ℤ, Bool, true, false, cond, not, ◌&&◌, ◌==◌, nat_le, int_le, List, length, slice_index, take, drop, position, Option, Some, None, ◌||◌}
use Rattle.std.specs.List.{list_all}
use Rattle.std.specs.Char.{is_ascii_digit}
use Rattle.std.specs.Str.Parse.{digits_value}
use Rattle.sn_fixed.specs.Fixed.{floor}

-- the one digit `0`
abbrev pub is_zero : List ℕ → Bool
is_zero digits = (length digits == 1) && (slice_index digits 0 == 48)

-- a digit from 1 to 9 and further digits
abbrev pub is_positive : List ℕ → Bool
is_positive digits = list_all is_ascii_digit digits && nat_le 49 (slice_index digits 0)

-- the digits before the point: `0`, or one to three without a leading zero
abbrev pub is_front : List ℕ → Bool
is_front digits = is_zero digits || (is_positive digits && nat_le (length digits) 3)

-- the digits after the point: one to eight
abbrev pub is_places : List ℕ → Bool
is_places digits = list_all is_ascii_digit digits && nat_le 1 (length digits) && nat_le (length digits) 8

-- the number with its sign
abbrev pub signed : Bool → ℕ → ℤ
signed negative n = cond negative (neg_ℤ (pos n)) (pos n)

-- the number, if it is a sample
abbrev pub sample : ℤ → Option ℤ
sample z = cond (int_le (negsuc 2147483647) z && int_le z (pos 2147483647)) (Some z) None

-- A whole number is `0`, or an optional `-`, a digit from 1 to 9 and further digits.
abbrev pub whole : Bool → List ℕ → Option ℤ
whole negative digits =
    cond (is_positive digits) (sample (signed negative (digits_value 10 digits)))
    (cond (is_zero digits && not negative) (Some (pos 0)) None)

-- A fraction is an optional `-`, the digits before the point, `.`, and the places after it. Its value is the floor of
-- the number times 2^24.
abbrev pub fraction : Bool → List ℕ → List ℕ → Option ℤ
fraction negative front places =
    cond (is_front front && is_places places)
    (sample (floor (signed negative ((digits_value 10 front * 10 ^ length places + digits_value 10 places) * 16777216)) (10 ^ length places)))
    None

-- A text without its sign, divided at its point or not: 46 is `.`
abbrev pub divided : Bool → List ℕ → Option ℕ → Option ℤ
divided negative text (Some point) = fraction negative (take point text) (drop (point + 1) text)
divided negative text None = whole negative text

abbrev pub unsigned : Bool → List ℕ → Option ℤ
unsigned negative text = divided negative text (position (λ byte. byte == 46) text)

-- The value of a literal, if the text is one. 45 is `-`.
unfoldable pub literal : List ℕ → Option ℤ
literal text = cond (slice_index text 0 == 45) (unsigned true (drop 1 text)) (unsigned false text)
