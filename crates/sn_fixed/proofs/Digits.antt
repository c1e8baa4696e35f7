-- Texts of decimal digits and their numbers.
use Rattle.std.proofs.Common.{◌≡◌, ◌<◌, ◌≤◌, ℕ, ◌+◌, ◌-◌, ◌*◌, ◌^◌, true, List, length, get_or, take, min, arith, rules}
use Rattle.std.proofs.Math.Nat.{one-le-pow, pow-le-pow_right}
use Rattle.std.specs.List.{list_all}
use Rattle.std.specs.Char.{is_ascii_digit}
use Rattle.std.specs.Int.{IsInRange}
use Rattle.std.specs.Str.Parse.{digits_value}
use Rattle.std.proofs.lemmas.Str.{digit_value_digit}
use Rattle.std.proofs.lemmas.Str.Parse.{IsDigitsTest, IsNumeralModel, numerals_by_value, digits_value_short}
use Rattle.std.proofs.lemmas.Int.Digits.{digits_value_more}
use Rattle.std.proofs.lemmas.List.Sums.{AllPass-from_list_all}
use Rattle.std.proofs.lemmas.List.Elements.{All-get_or}
use Rattle.std.proofs.lemmas.Bool.Decides.{nat_tests}

-- std's name for digits
pub tells : IsDigitsTest (λ ds. list_all is_ascii_digit ds ≡ true)
tells = search rules

pub own : IsNumeralModel (λ ds. list_all is_ascii_digit ds ≡ true) (digits_value 10)
own = numerals_by_value _ tells

range_of : (c : ℕ) → is_ascii_digit c ≡ true → IsInRange 48 57 c
range_of c e = grind (arith, nat_tests)

pub digit_here : (ds : List ℕ) (i : ℕ) → list_all is_ascii_digit ds ≡ true → i < length ds → IsInRange 48 57 (get_or ds i 0)
digit_here ds i e h = range_of (get_or ds i 0) (All-get_or (λ c. is_ascii_digit c ≡ true) ds i 0 h (AllPass-from_list_all is_ascii_digit ds e))

-- one more digit of a number that stops at a bound
pub number_step : (ds : List ℕ) (i n : ℕ) → list_all is_ascii_digit ds ≡ true → i < length ds → n ≡ min (digits_value 10 (take i ds)) 1000000000000 → min (n * 10 + (get_or ds i 0 - 48)) 1000000000000 ≡ min (digits_value 10 (take (i + 1) ds)) 1000000000000
number_step ds i n e h is = let m = digits_value_more 10 ds i h in let d = digit_here ds i e h in let v = digit_value_digit (get_or ds i 0) d in omega arith

-- at most eight digits stay below the bound
pub short_number : (ds : List ℕ) (n : ℕ) → list_all is_ascii_digit ds ≡ true → length ds ≤ 8 → n ≡ min (digits_value 10 ds) 1000000000000 → (n ≡ digits_value 10 ds) × (n < 100000000)
short_number ds n e h is = let s : digits_value 10 ds < 10 ^ 8 = digits_value_short own ds 8 e h in (omega arith, omega arith)

pub scale_bounds : (k : ℕ) → k ≤ 8 → (1 ≤ 10 ^ k) × (10 ^ k ≤ 100000000)
scale_bounds k h = let a : 1 ≤ 10 ^ k = one-le-pow k 10 (omega arith) in let b : 10 ^ k ≤ 10 ^ 8 = pow-le-pow_right (omega arith) h in (a, b)
