-- A place that goes a part of the way to another.
use Rattle.std.proofs.Common.{◌≡◌, ◌≤◌, ℤ, pos, negsuc, ◌+ℤ◌, ◌-ℤ◌, ◌≤ℤ◌, unsigned_abs, arith, FitsSigned}
use Rattle.std.specs.Int.{w64}
use Rattle.std.proofs.lemmas.Int.{ints, by_lt_z}
use Rattle.sn_fixed.specs.Lines.{IsBetween}

low_word : (x : ℤ) → FitsSigned w64 x → negsuc 9223372036854775807 ≤ℤ x
low_word (pos n) f = omega (arith, ints)
low_word (negsuc n) f = let h = f.sfits in omega (arith, ints)

high_word : (x : ℤ) → FitsSigned w64 x → x ≤ℤ pos 9223372036854775807
high_word (pos n) f = let h = f.sfits in omega (arith, ints)
high_word (negsuc n) f = omega (arith, ints)

word_between : (y : ℤ) → y ≤ℤ pos 9223372036854775807 → negsuc 9223372036854775807 ≤ℤ y → FitsSigned w64 y
word_between (pos n) high low = record { sfits = omega (arith, ints) }
word_between (negsuc n) high low = record { sfits = omega (arith, ints) }

pub place_fits : (g p d y : ℤ) → FitsSigned w64 g → FitsSigned w64 p → d ≡ p -ℤ g → IsBetween y d → FitsSigned w64 (g +ℤ y)
place_fits g p d y fg fp is b =
    let gl = low_word g fg in let gh = high_word g fg in let pl = low_word p fp in let ph = high_word p fp in
    by_lt_z d (pos 0)
    (λ lt. let le : d ≤ℤ pos 0 = omega (arith, ints, lt) in let h = b.1 le in word_between (g +ℤ y) (omega (arith, ints, is, h.0, h.1, gl, gh, pl, ph)) (omega (arith, ints, is, h.0, h.1, gl, gh, pl, ph)))
    (λ le. let h = b.0 le in word_between (g +ℤ y) (omega (arith, ints, is, h.0, h.1, gl, gh, pl, ph)) (omega (arith, ints, is, h.0, h.1, gl, gh, pl, ph)))

pub way_small : (d y : ℤ) → unsigned_abs d ≤ 18446744073709551616 → IsBetween y d → unsigned_abs y ≤ 18446744073709551616
way_small (pos n) y small b = let h = b.0 (omega (arith, ints)) in short y h.0 h.1
  where
    short : (y : ℤ) → pos 0 ≤ℤ y → y ≤ℤ pos n → unsigned_abs y ≤ 18446744073709551616
    short (pos m) low high = omega (arith, ints, low, high, small)
    short (negsuc m) low high = omega (arith, ints, low, high, small)
way_small (negsuc n) y small b = let h = b.1 (omega (arith, ints)) in short y h.0 h.1
  where
    short : (y : ℤ) → negsuc n ≤ℤ y → y ≤ℤ pos 0 → unsigned_abs y ≤ 18446744073709551616
    short (pos m) low high = omega (arith, ints, low, high, small)
    short (negsuc m) low high = omega (arith, ints, low, high, small)
