-- A portion lies between nothing and the whole.
use Rattle.std.proofs.Common.{◌≡◌, ◌≤◌, ◌<◌, ℕ, zero, suc, ◌*◌, ◌/◌, ℤ, pos, negsuc, neg_ℤ, ◌*ℤ◌, ◌≤ℤ◌, arith, subst}
use Rattle.std.proofs.lemmas.Int.{ints}
use Rattle.std.proofs.lemmas.Nat.{div_below}
use Rattle.std.proofs.Math.Nat.{div-le_of_le-mul, mul-le-mul_left}
use Rattle.sn_fixed.specs.Fixed.{floor}
use Rattle.sn_fixed.specs.Lines.{IsBetween}

up_part : (a k n : ℕ) → k ≤ n → a * k / n ≤ a
up_part a k n le = div-le_of_le-mul n {m = a * k} {n = a} (omega (arith, mul-le-mul_left a le))

down_part : (m w n : ℕ) → 0 < n → m ≤ w * n → (neg_ℤ (pos w) ≤ℤ floor (neg_ℤ (pos m)) n) × (floor (neg_ℤ (pos m)) n ≤ℤ pos 0)
down_part zero w n some le = let e : 0 / n ≡ 0 = omega arith in (omega (arith, ints), omega (arith, ints))
down_part (suc m) w n some le = let b : m / n < w = div_below m n w some (omega arith) in (omega (arith, ints), omega (arith, ints))

pub portion_between : (z : ℤ) (k n : ℕ) → k ≤ n → 0 < n → IsBetween (floor (z *ℤ pos k) n) z
portion_between (pos a) k n le some = let u = up_part a k n le in let zero_whole : pos a ≤ℤ pos 0 → a * k / n ≡ 0 = λ h. omega (arith, ints, u, h) in (λ _. (omega (arith, ints), omega (arith, ints, u)), λ h. (omega (arith, ints, zero_whole h, h), omega (arith, ints, zero_whole h)))
portion_between (negsuc a) k n le some = let d = down_part (suc a * k) (suc a) n some (mul-le-mul_left (suc a) le) in (λ (h : pos 0 ≤ℤ negsuc a). absurd (omega (arith, ints, h)), λ _. d)

pub part_between : (z : ℤ) (n : ℕ) → 0 < n → IsBetween (floor z n) z
part_between z n some =
    let e : z *ℤ pos 1 ≡ z = omega (arith, ints) in
    subst (λ y. IsBetween (floor y n) z) e (portion_between z 1 n some some)
