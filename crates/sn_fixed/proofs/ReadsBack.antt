-- What is shown reads back.
use Rattle.std.proofs.Common.{◌≡◌, ◌<◌, ◌≤◌, ℕ, zero, suc, ◌^◌, ◌==◌, ℤ, pos, negsuc, ◌≤ℤ◌, Bool, true, false, List, ◌∷◌, length, get_or, Some, None, ◌∙◌, arith}
use Rattle.std.specs.List.{list_all, position, position_or_len}
use Rattle.std.specs.Int.{IsInRange}
use Rattle.std.specs.Char.{is_ascii_digit}
use Rattle.std.specs.Fmt.{decimal}
use Rattle.std.specs.Str.Parse.{digits_value}
use Rattle.std.proofs.lemmas.Fmt.{digits_decimal, digits_value-decimal, first_decimal, decimal_digit}
use Rattle.std.proofs.lemmas.List.Sums.{position_or_len_is}
use Rattle.std.proofs.lemmas.Bool.Decides.{nat_tests}
use Rattle.std.proofs.lemmas.Int.{ints}
use Rattle.sn_fixed.specs.Literal.{literal, unsigned, sample, signed}
use Rattle.sn_fixed.specs.Laws.{ReadsBack}
use Rattle.sn_fixed.proofs.Digits.{own, digit_here}

not_point : (c : ℕ) → IsInRange 48 57 c → (c == 46) ≡ false
not_point c r = grind (arith, nat_tests)

no_point : (ds : List ℕ) → list_all is_ascii_digit ds ≡ true → position (λ byte. byte == 46) ds ≡ None
no_point ds e =
    let at : position_or_len (λ byte. byte == 46) ds ≡ length ds = position_or_len_is (λ byte. byte == 46) ds (length ds) 0 (omega arith) (λ k h. not_point (get_or ds k 0) (digit_here ds k e h)) (λ h. absurd (omega arith)) in
    grind (arith, nat_tests)

whole_digits : (negative : Bool) (n : ℕ) → 0 < n → n < 2 ^ 64 → unsigned negative (decimal n) ≡ sample (signed negative n)
whole_digits negative n some small =
    let ds : List ℕ = decimal n in
    let all : list_all is_ascii_digit ds ≡ true = digits_decimal own n small in
    let value : digits_value 10 ds ≡ n = digits_value-decimal own n small in
    let first : 48 < get_or ds 0 0 = first_decimal n some small in
    let none : position (λ byte. byte == 46) ds ≡ None = no_point ds all in
    rw none (grind (arith, nat_tests))

fits : (z : ℤ) → negsuc 2147483647 ≤ℤ z → z ≤ℤ pos 2147483647 → sample z ≡ Some z
fits z low high = grind (arith, ints)

zero_reads : literal (decimal 0) ≡ Some (pos 0)
unfolding literal
zero_reads = rw (decimal_digit 0 (omega arith))

positive_first : (n : ℕ) → 0 < n → n < 2 ^ 64 → (get_or (decimal n) 0 0 == 45) ≡ false
positive_first n some small = let first : 48 < get_or (decimal n) 0 0 = first_decimal n some small in grind (arith, nat_tests)

positive_reads : (n : ℕ) → 0 < n → n ≤ 2147483647 → literal (decimal n) ≡ Some (pos n)
unfolding literal
positive_reads n some small =
    let sign : (get_or (decimal n) 0 0 == 45) ≡ false = positive_first n some (omega arith) in
    rw sign (whole_digits false n some (omega arith) ∙ fits (pos n) (omega (arith, ints)) (omega (arith, ints)))

negative_reads : (n : ℕ) → n ≤ 2147483647 → literal (45 ∷ decimal (suc n)) ≡ Some (negsuc n)
unfolding literal
negative_reads n small = whole_digits true (suc n) (omega arith) (omega arith) ∙ fits (negsuc n) (omega (arith, ints)) (omega (arith, ints))

pub reads_back : (z : ℤ) → ReadsBack z
reads_back (pos zero) low high = zero_reads
reads_back (pos (suc n)) low high = positive_reads (suc n) (omega arith) (omega (arith, ints))
reads_back (negsuc n) low high = negative_reads n (omega (arith, ints))
