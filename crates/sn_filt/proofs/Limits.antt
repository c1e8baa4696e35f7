-- Products in the scale of samples.
use Rattle.std.proofs.Common.{◌≡◌, ◌<◌, ◌≤◌, ℕ, suc, ◌*◌, ℤ, pos, negsuc, ◌*ℤ◌, ◌≤ℤ◌, FitsSigned, arith, sym, ap, ◌∙◌, ⊎_elim}
use Rattle.std.specs.Int.{w32, int_min, int_max}
use Rattle.std.proofs.lemmas.Int.{ints, clamps}
use Rattle.sn_fixed.specs.Fixed.{floor, sat, mul}
use Rattle.std.proofs.lemmas.Bool.{cases_lt}
use Rattle.std.proofs.lemmas.Nat.{mul-le}
use Rattle.sn_filt.proofs.Unlimited.{in_scale, sat_same}

-- what is clamped before it is scaled is a sample
abbrev pub limited : ℤ → ℤ
limited z = int_max (negsuc 36028797018963967) (int_min z (pos 36028797018963967))

within : (z : ℤ) → limited z ≡ z → FitsSigned w32 (floor z 16777216) → floor (limited z) 16777216 ≡ sat (floor z 16777216)
within z e f = ap (λ (y : ℤ). floor y 16777216) e ∙ sym (sat_same (floor z 16777216) f)

above : (a : ℕ) → 36028797018963967 < a → floor (limited (pos a)) 16777216 ≡ sat (floor (pos a) 16777216)
unfolding sat
above a lt =
    let e : limited (pos a) ≡ pos 36028797018963967 = omega (arith, ints, clamps, lt) in
    let top : pos 2147483647 ≡ int_max (negsuc 2147483647) (int_min (pos 2147483647) (floor (pos a) 16777216)) = omega (arith, ints, clamps, lt) in
    ap (λ (y : ℤ). floor y 16777216) e ∙ top

below : (a : ℕ) → 36028797018963967 < a → floor (limited (negsuc a)) 16777216 ≡ sat (floor (negsuc a) 16777216)
unfolding sat
below a lt =
    let e : limited (negsuc a) ≡ negsuc 36028797018963967 = omega (arith, ints, clamps, lt) in
    let bottom : negsuc 2147483647 ≡ int_max (negsuc 2147483647) (int_min (pos 2147483647) (floor (negsuc a) 16777216)) = omega (arith, ints, clamps, lt) in
    ap (λ (y : ℤ). floor y 16777216) e ∙ bottom

pub limited_is : (z : ℤ) → floor (limited z) 16777216 ≡ sat (floor z 16777216)
limited_is (pos a) = ⊎_elim
    (λ (lt : 36028797018963967 < a). above a lt)
    (λ (le : a ≤ 36028797018963967). within (pos a) (omega (arith, ints, clamps, le)) (in_scale (pos a) (omega (arith, ints)) (omega (arith, ints, le))))
    (cases_lt 36028797018963967 a)
limited_is (negsuc a) = ⊎_elim
    (λ (lt : 36028797018963967 < a). below a lt)
    (λ (le : a ≤ 36028797018963967). within (negsuc a) (omega (arith, ints, clamps, le)) (in_scale (negsuc a) (omega (arith, ints, le)) (omega (arith, ints))))
    (cases_lt 36028797018963967 a)

-- a part of a sample is a sample
part_fits : (x g : ℤ) → FitsSigned w32 x → pos 0 ≤ℤ g → g ≤ℤ pos 16777216 → FitsSigned w32 (floor (x *ℤ g) 16777216)
part_fits x (negsuc n) f low high = absurd (omega (arith, ints, low))
part_fits (pos k) (pos n) f low high =
    let h = f.sfits in
    let b : k ≤ 2147483647 = omega (arith, h) in
    let c : n ≤ 16777216 = omega (arith, ints, high) in
    let le : k * n ≤ 2147483647 * 16777216 = mul-le k n 2147483647 16777216 b c in
    in_scale (pos k *ℤ pos n) (omega (arith, ints)) (omega (arith, ints, le))
part_fits (negsuc k) (pos n) f low high =
    let h = f.sfits in
    let b : suc k ≤ 2147483648 = omega (arith, h) in
    let c : n ≤ 16777216 = omega (arith, ints, high) in
    let le : suc k * n ≤ 2147483648 * 16777216 = mul-le (suc k) n 2147483648 16777216 b c in
    in_scale (negsuc k *ℤ pos n) (omega (arith, ints, le)) (omega (arith, ints))

pub part_is : (x g : ℤ) → FitsSigned w32 x → pos 0 ≤ℤ g → g ≤ℤ pos 16777216 → floor (x *ℤ g) 16777216 ≡ mul x g
unfolding mul
part_is x g f low high = sym (sat_same (floor (x *ℤ g) 16777216) (part_fits x g f low high))
