-- The half wave is at most 1.0 high.
use Rattle.std.proofs.Common.{◌≡◌, ◌≤◌, ◌<◌, ℕ, ◌+◌, ◌-◌, ◌*◌, ◌/◌, ap, ⊎_elim, arith}
use Rattle.std.proofs.lemmas.Bool.{cases_lt}
use Rattle.std.proofs.Math.Nat.{div-le_of_le-mul, mul-le-mul_left}
use Rattle.sn_fixed.specs.Sine.{height}

square : (a b : ℕ) → a ≡ b → a * a ≡ b * b
square a b e = ap (λ n. n * n) e

near : (h d : ℕ) → h + d ≡ 32768 → h * (h + 2 * d) ≤ 1073741824
near h d e = omega (arith, square (h + d) 32768 e)

-- a product of two parts of the half turn
pub product_small : (h : ℕ) → h ≤ 65536 → h * (65536 - h) ≤ 1073741824
product_small h le = ⊎_elim
    (λ (l : h < 32768). let d : ℕ = 32768 - h in let e : h + d ≡ 32768 = omega arith in let s : 65536 - h ≡ h + 2 * d = omega arith in rw s (near h d e))
    (λ (g : 32768 ≤ h). let d : ℕ = h - 32768 in let k : ℕ = 65536 - h in let e : k + d ≡ 32768 = omega arith in let s : h ≡ k + 2 * d = omega arith in let b = near k d e in let m : h * k ≡ (k + 2 * d) * k = ap (λ n. n * k) s in omega arith)
    (cases_lt h 32768)

pub height_small : (h : ℕ) → h ≤ 65536 → height h ≤ 16777216
height_small h le = let b = product_small h le in let q : ℕ = h * (65536 - h) in
    div-le_of_le-mul (5 * 4294967296 - 4 * q) {m = 16 * q * 16777216} {n = 16777216} (omega arith)

-- a guess is the quotient if the rest is below the divisor
pub guessed : (n d g : ℕ) → 0 < d → g * d ≤ n → n - g * d < d → g ≡ n / d
guessed n d g some le lt = ⊎_elim
    (λ (h : g < n / d). let s : g + 1 ≤ n / d = omega arith in absurd (omega (arith, mul-le-mul_left d s)))
    (λ (h : n / d ≤ g). ⊎_elim
    (λ (k : n / d < g). let s : n / d + 1 ≤ g = omega arith in absurd (omega (arith, mul-le-mul_left d s)))
    (λ (k : g ≤ n / d). omega arith)
    (cases_lt (n / d) g))
    (cases_lt g (n / d))
