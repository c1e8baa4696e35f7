-- Digits are read as what they are written of.
use Rattle.std.proofs.Common.{◌≡◌, ℕ, ℤ, pos, negsuc, suc, ◌+◌, ◌-◌, ◌*◌, ◌/◌, ◌%◌, ◌^◌, ◌<◌, ◌≤◌, min, Bool, true, false, not, ltb, ◌==◌, ◌⊎◌, List, [], ◌∷◌, length, refl, sym, ap, ◌∙◌, arith, inl, inr, ⊎_elim, rules, ne_eqb, lit<}
use Rattle.std.specs.List.{list_all}
use Rattle.std.specs.Char.{is_ascii_digit, digit_value}
use Rattle.std.specs.Fmt.{decimal, signed_decimal}
use Rattle.std.specs.Int.{w32, IsInRange, cast_signed, cast_unsigned}
use Rattle.std.specs.Str.Parse.{digits_value, digits_value_after}
use Rattle.std.proofs.lemmas.Bool.{cases_lt, ltb-true, lt-ltb, le-ltb}
use Rattle.std.proofs.lemmas.Bool.Decides.{nat_tests}
use Rattle.std.proofs.lemmas.Fmt.{digits_decimal, digits_value-decimal}
use Rattle.std.proofs.lemmas.Int.{to_z-of_z, ints}
use Rattle.std.proofs.lemmas.Str.{digit_value_digit}
use Rattle.std.proofs.lemmas.Str.Parse.{IsDigitsTest, IsNumeralModel, numerals_by_value}
use Rattle.sn_osc.specs.Bytes.{are_octets, begins_with, fits_int}
use Rattle.sn_osc.proofs.Fields.{and_yes, fits-from_test}
use Rattle.sn_score.specs.Words.{digit, hex}
use Rattle.sn_score.specs.Fields.{nibble, hex_value, unhex, natural_after, natural, signed}

-- a list with an element is not empty
pub not_empty : {X : Type 0} (x : X) (xs : List X) → (length (x ∷ xs) == 0) ≡ false
not_empty x xs = ne_eqb _ _ (λ e. omega (arith, e))

-- ---- hexadecimal

nibble-digit : (n : ℕ) → n < 16 → nibble (digit n) ≡ n
nibble-digit n few =
    elim (cases_lt n 10) [
      | inl lt ↦ let small : ltb (48 + n) 58 ≡ true = lt-ltb _ _ (omega arith) in rw (lt-ltb n 10 lt, small) (omega arith)
      | inr le ↦ let large : ltb (87 + n) 58 ≡ false = le-ltb _ _ (omega arith) in rw (le-ltb n 10 le, large) (omega arith)
    ]

pub hex_again : (b : ℕ) → b < 256 → hex_value (digit (b / 16)) (digit (b % 16)) ≡ b
hex_again b few = rw (nibble-digit (b / 16) (omega arith), nibble-digit (b % 16) (omega arith)) (omega arith)

pub unhex_again : (bytes : List ℕ) → are_octets bytes ≡ true → unhex (hex bytes) ≡ bytes
unhex_again [] h = refl
unhex_again (b ∷ bytes) h =
    let both = and_yes (ltb b 256) (are_octets bytes) h in
    rw (hex_again b (ltb-true b 256 both.0), unhex_again bytes both.1) refl

-- ---- bytes that do not occur

-- the byte does not occur
abbrev pub has_no : ℕ → List ℕ → Bool
has_no c bytes = list_all (λ b. not (b == c)) bytes

pub not_that : (c b : ℕ) → (c < b) ⊎ (b < c) → not (b == c) ≡ true
not_that c b h = ap not (ne_eqb b c (λ e. elim h [ inl lt ↦ omega (arith, e, lt) | inr gt ↦ omega (arith, e, gt) ]))

digit_large : (n : ℕ) → 48 ≤ digit n
digit_large n = elim (cases_lt n 10) [
  | inl lt ↦ rw (lt-ltb n 10 lt) (omega arith)
  | inr le ↦ rw (le-ltb n 10 le) (omega arith)
]

pub no_in_digit : (c n : ℕ) → c < 48 → not (digit n == c) ≡ true
no_in_digit c n few = not_that c (digit n) (inl (omega (arith, digit_large n)))

pub no_in_hex : (c : ℕ) (bytes : List ℕ) → c < 48 → has_no c (hex bytes) ≡ true
no_in_hex c [] few = refl
no_in_hex c (b ∷ bytes) few = rw (no_in_digit c (b / 16) few, no_in_digit c (b % 16) few, no_in_hex c bytes few) refl

-- ---- decimal

-- std's word for digits
tells : IsDigitsTest (λ ds. list_all is_ascii_digit ds ≡ true)
tells = search rules

own : IsNumeralModel (λ ds. list_all is_ascii_digit ds ≡ true) (digits_value 10)
own = numerals_by_value _ tells

range_of : (c : ℕ) → is_ascii_digit c ≡ true → IsInRange 48 57 c
range_of c e = grind (arith, nat_tests)

no_in_digits : (c : ℕ) (ds : List ℕ) → c < 48 → list_all is_ascii_digit ds ≡ true → has_no c ds ≡ true
no_in_digits c [] few h = refl
no_in_digits c (d ∷ ds) few h =
    let both = and_yes (is_ascii_digit d) (list_all is_ascii_digit ds) h in
    let range = range_of d both.0 in
    rw (not_that c d (inl (omega (arith, range))), no_in_digits c ds few both.1) refl

pub no_in_decimal : (c n : ℕ) → c < 48 → n < 2 ^ 64 → has_no c (decimal n) ≡ true
no_in_decimal c n few small = no_in_digits c (decimal n) few (digits_decimal own n small)

step : (n m b : ℕ) → m ≡ min n 4294967295 → IsInRange 48 57 b → min (m * 10 + b % 16) 4294967295 ≡ min (n * 10 + digit_value b) 4294967295
step n m b is range = let v = digit_value_digit b range in omega (arith, range)

natural_value : (ds : List ℕ) (n m : ℕ) → m ≡ min n 4294967295 → list_all is_ascii_digit ds ≡ true → natural_after m ds ≡ min (digits_value_after 10 n ds) 4294967295
unfolding natural_after
natural_value [] n m is h = is
natural_value (d ∷ ds) n m is h =
    let both = and_yes (is_ascii_digit d) (list_all is_ascii_digit ds) h in
    natural_value ds (n * 10 + digit_value d) (min (m * 10 + d % 16) 4294967295) (step n m d is (range_of d both.0)) both.1

pub natural_again : (n : ℕ) → n < 2 ^ 32 → natural (decimal n) ≡ n
natural_again n few =
    let small : n < 2 ^ 64 = omega arith in
    let value : digits_value 10 (decimal n) ≡ n = digits_value-decimal own n small in
    natural_value (decimal n) 0 0 (omega arith) (digits_decimal own n small) ∙ ap (λ k. min k 4294967295) value ∙ omega arith

-- ---- first bytes

first_digit : (c : ℕ) (ds : List ℕ) → (c < 48) ⊎ (57 < c) → list_all is_ascii_digit ds ≡ true → begins_with c ds ≡ false
first_digit c [] other h = refl
first_digit c (d ∷ ds) other h =
    let both = and_yes (is_ascii_digit d) (list_all is_ascii_digit ds) h in
    let range = range_of d both.0 in
    ne_eqb d c (λ e. elim other [ inl lt ↦ omega (arith, e, lt, range) | inr gt ↦ omega (arith, e, gt, range) ])

pub first_of_decimal : (c n : ℕ) → (c < 48) ⊎ (57 < c) → n < 2 ^ 64 → begins_with c (decimal n) ≡ false
first_of_decimal c n other small = first_digit c (decimal n) other (digits_decimal own n small)

-- ---- signed

pub signed_again : (n : ℤ) → fits_int n ≡ true → signed (signed_decimal n) ≡ n
unfolding signed
signed_again (pos n) h =
    let few : n < 2 ^ 31 = ltb-true n (2 ^ 31) h in
    let same : cast_unsigned w32 (pos n) ≡ n = omega (arith, ints) in
    rw (first_of_decimal 45 n (inl (lit< tt)) (omega arith), natural_again n (omega arith)) (ap (cast_signed w32) (sym same) ∙ to_z-of_z w32 (pos n) (fits-from_test (pos n) h))
signed_again (negsuc n) h =
    let few : n < 2 ^ 31 = ltb-true n (2 ^ 31) h in
    let same : cast_unsigned w32 (negsuc n) ≡ (4294967296 - suc n) % 4294967296 = omega (arith, ints) in
    rw (natural_again (suc n) (omega arith)) (ap (cast_signed w32) (sym same) ∙ to_z-of_z w32 (negsuc n) (fits-from_test (negsuc n) h))

pub no_in_signed : (c : ℕ) (n : ℤ) → c < 45 → fits_int n ≡ true → has_no c (signed_decimal n) ≡ true
no_in_signed c (pos n) few h = no_in_decimal c n (omega arith) (omega (arith, ltb-true n (2 ^ 31) h))
no_in_signed c (negsuc n) few h = rw (not_that c 45 (inl few), no_in_decimal c (suc n) (omega arith) (omega (arith, ltb-true n (2 ^ 31) h))) refl

pub first_of_signed : (c : ℕ) (n : ℤ) → (c < 45) ⊎ (57 < c) → fits_int n ≡ true → begins_with c (signed_decimal n) ≡ false
first_of_signed c (pos n) other h = first_of_decimal c n (⊎_elim (λ lt. inl (omega (arith, lt))) (λ gt. inr gt) other) (omega (arith, ltb-true n (2 ^ 31) h))
first_of_signed c (negsuc n) other h = ne_eqb 45 c (λ e. elim other [ inl lt ↦ omega (arith, e, lt) | inr gt ↦ omega (arith, e, gt) ])
