-- Remainders that take no division.
use Rattle.std.proofs.Common.{◌≡◌, ◌<◌, ℕ, ◌+◌, ◌-◌, ◌*◌, ◌%◌, ℤ, pos, negsuc, ◌-ℤ◌, ◌≤ℤ◌, ◌<ℤ◌, arith, ap, sym, ◌∙◌}
use Rattle.std.specs.Int.{int_rem_euclid}
use Rattle.std.proofs.lemmas.Int.{ints}
use Rattle.std.proofs.lemmas.Nat.{mod-mul-add}
use Rattle.std.proofs.Math.Nat.{mod-eq_of_lt}

pub within : (x r : ℤ) → pos 0 ≤ℤ x → x <ℤ r → x ≡ int_rem_euclid x r
within (pos m) (pos n) low high = let lt : m < n = omega (arith, ints, high) in ap pos (sym (mod-eq_of_lt lt))
within (pos m) (negsuc n) low high = absurd (omega (arith, ints, high))
within (negsuc m) r low high = absurd (omega (arith, ints, low))

pub above : (x r : ℤ) → pos 0 <ℤ r → r ≤ℤ x → (x -ℤ r) <ℤ r → x -ℤ r ≡ int_rem_euclid x r
above (pos m) (pos n) some low high =
    let k : ℕ = m - n in
    let e : m ≡ 1 * n + k = omega (arith, ints, low) in
    let lt : k < n = omega (arith, ints, low, high) in
    let d : pos m -ℤ pos n ≡ pos k = omega (arith, ints, low) in
    d ∙ ap pos (sym (ap (λ z. z % n) e ∙ mod-mul-add 1 n k lt))
above (negsuc m) (pos n) some low high = absurd (omega (arith, ints, low))
above x (negsuc n) some low high = absurd (omega (arith, ints, some))
