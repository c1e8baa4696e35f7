-- Sums of products that are samples without a limit.
use Rattle.std.proofs.Common.{◌≡◌, ◌≤◌, ℕ, suc, ◌+◌, ◌*◌, ℤ, pos, negsuc, ◌+ℤ◌, ◌-ℤ◌, ◌*ℤ◌, ◌≤ℤ◌, unsigned_abs, FitsSigned, arith, sym, ap, ◌∙◌, to_z, of_z}
use Rattle.std.specs.Int.{w32, w64}
use Rattle.std.proofs.lemmas.Int.{ints, clamps, to_z-of_z}
use Rattle.std.proofs.Math.Nat.{mul-le-mul_left}
use Rattle.sn_fixed.specs.Fixed.{floor, sat}
use Rattle.sn_filt.specs.Poles.{pole}
use Rattle.sn_filt.proofs.Widths.{in_64}

pub in_scale : (z : ℤ) → pos 0 ≤ℤ (z +ℤ pos 36028797018963968) → z ≤ℤ pos 36028797018963967 → FitsSigned w32 (floor z 16777216)
in_scale (pos a) low high = record { sfits = omega (arith, ints, high) }
in_scale (negsuc a) low high = record { sfits = omega (arith, ints, low) }

pub sat_same : (z : ℤ) → FitsSigned w32 z → sat z ≡ z
unfolding sat
sat_same (pos n) f = let h = f.sfits in omega (arith, ints, clamps, h)
sat_same (negsuc n) f = let h = f.sfits in omega (arith, ints, clamps, h)

-- a weight times a sample lies between that weight times the least sample and times the greatest one
by_weight : (n : ℕ) (x : ℤ) → FitsSigned w32 x → (pos 0 ≤ℤ (pos n *ℤ x +ℤ pos (n * 2147483648))) × ((pos n *ℤ x) ≤ℤ pos (n * 2147483647))
by_weight n (pos k) f = let h = f.sfits in let b : k ≤ 2147483647 = omega (arith, h) in let le : n * k ≤ n * 2147483647 = mul-le-mul_left n b in (omega (arith, ints), omega (arith, ints, le))
by_weight n (negsuc k) f = let h = f.sfits in let b : suc k ≤ 2147483648 = omega (arith, h) in let le : n * suc k ≤ n * 2147483648 = mul-le-mul_left n b in (omega (arith, ints, le), omega (arith, ints))

by_negative : (m : ℕ) (x : ℤ) → FitsSigned w32 x → (pos 0 ≤ℤ (negsuc m *ℤ x +ℤ pos (suc m * 2147483647))) × ((negsuc m *ℤ x) ≤ℤ pos (suc m * 2147483648))
by_negative m (pos k) f = let h = f.sfits in let b : k ≤ 2147483647 = omega (arith, h) in let le : suc m * k ≤ suc m * 2147483647 = mul-le-mul_left (suc m) b in (omega (arith, ints, le), omega (arith, ints))
by_negative m (negsuc k) f = let h = f.sfits in let b : suc k ≤ 2147483648 = omega (arith, h) in let le : suc m * suc k ≤ suc m * 2147483648 = mul-le-mul_left (suc m) b in (omega (arith, ints), omega (arith, ints, le))

-- the sum of shares of samples, where the last one's isn't -1.0 of it
pub pole_fits : (r c : ℤ) (x last : ℤ) → r ≡ pos 16777216 -ℤ pos (unsigned_abs c) → negsuc 16777214 ≤ℤ c → c ≤ℤ pos 16777216 → FitsSigned w32 x → FitsSigned w32 last → FitsSigned w32 (floor (r *ℤ x +ℤ c *ℤ last) 16777216)
pole_fits (negsuc a) (pos n) x last e low high f g = absurd (omega (arith, ints, e, high))
pole_fits (negsuc a) (negsuc n) x last e low high f g = absurd (omega (arith, ints, e, low))
pole_fits (pos a) (pos n) x last e low high f g =
    let p = by_weight a x f in
    let q = by_weight n last g in
    let p0 = p.0 in let p1 = p.1 in let q0 = q.0 in let q1 = q.1 in
    let w : a + n ≡ 16777216 = omega (arith, ints, e, high) in
    in_scale (pos a *ℤ x +ℤ pos n *ℤ last) (omega (arith, ints, p0, q0, w)) (omega (arith, ints, p1, q1, w))
pole_fits (pos a) (negsuc n) x last e low high f g =
    let p = by_weight a x f in
    let q = by_negative n last g in
    let p0 = p.0 in let p1 = p.1 in let q0 = q.0 in let q1 = q.1 in
    let w : a + suc n ≡ 16777216 = omega (arith, ints, e, low) in
    let b : suc n ≤ 16777215 = omega (arith, ints, low) in
    in_scale (pos a *ℤ x +ℤ negsuc n *ℤ last) (omega (arith, ints, p0, q0, w)) (omega (arith, ints, p1, q1, w, b))

pub pole_is : (last x r c : ℤ) → r ≡ pos 16777216 -ℤ pos (unsigned_abs c) → negsuc 16777214 ≤ℤ c → c ≤ℤ pos 16777216 → FitsSigned w32 x → FitsSigned w32 last → floor (r *ℤ x +ℤ c *ℤ last) 16777216 ≡ pole last x c
pole_is last x r c e low high f g =
    sym (sat_same (floor (r *ℤ x +ℤ c *ℤ last) 16777216) (pole_fits r c x last e low high f g)) ∙ ap (λ (s : ℤ). sat (floor (s *ℤ x +ℤ c *ℤ last) 16777216)) e

-- a sum of two shares
sum_64 : (a b : ℤ) → unsigned_abs a ≤ 36028797018963968 → unsigned_abs b ≤ 36028797018963968 → FitsSigned w64 (a +ℤ b)
sum_64 a b p q = in_64 (a +ℤ b) (omega (arith, ints, p, q))

share_64 : (a : ℤ) → unsigned_abs a ≤ 36028797018963968 → to_z w64 (of_z w64 a) ≡ a
share_64 a p = to_z-of_z w64 a (in_64 a (omega (arith, p)))

pub read_sum : (a b : ℤ) → unsigned_abs a ≤ 36028797018963968 → unsigned_abs b ≤ 36028797018963968 → to_z w64 (of_z w64 (to_z w64 (of_z w64 a) +ℤ to_z w64 (of_z w64 b))) ≡ a +ℤ b
read_sum a b p q =
    ap (λ (z : ℤ). to_z w64 (of_z w64 (z +ℤ to_z w64 (of_z w64 b)))) (share_64 a p)
    ∙ (ap (λ (z : ℤ). to_z w64 (of_z w64 (a +ℤ z))) (share_64 b q) ∙ to_z-of_z w64 (a +ℤ b) (sum_64 a b p q))

-- the sum of two shares, as it is computed
pub read_shares : (r c x last a b : ℤ) → FitsSigned w32 r → FitsSigned w32 c → FitsSigned w32 x → FitsSigned w32 last
    → a ≡ to_z w32 (of_z w32 r) *ℤ to_z w32 (of_z w32 x) → b ≡ to_z w32 (of_z w32 c) *ℤ to_z w32 (of_z w32 last) → unsigned_abs a ≤ 36028797018963968 → unsigned_abs b ≤ 36028797018963968
    → to_z w64 (of_z w64 (to_z w64 (of_z w64 a) +ℤ to_z w64 (of_z w64 b))) ≡ r *ℤ x +ℤ c *ℤ last
read_shares r c x last a b fr fc fx fl ea eb p q =
    let one : a ≡ r *ℤ x = ea ∙ (ap (λ (z : ℤ). z *ℤ to_z w32 (of_z w32 x)) (to_z-of_z w32 r fr) ∙ ap (λ (z : ℤ). r *ℤ z) (to_z-of_z w32 x fx)) in
    let other : b ≡ c *ℤ last = eb ∙ (ap (λ (z : ℤ). z *ℤ to_z w32 (of_z w32 last)) (to_z-of_z w32 c fc) ∙ ap (λ (z : ℤ). c *ℤ z) (to_z-of_z w32 last fl)) in
    read_sum a b p q ∙ (ap (λ (z : ℤ). z +ℤ b) one ∙ ap (λ (z : ℤ). r *ℤ x +ℤ z) other)
