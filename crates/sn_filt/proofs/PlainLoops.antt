-- Sums and products frame by frame.
use Rattle.std.proofs.Common.{◌≡◌, ◌<◌, ◌≤◌, inl, inr, ℕ, ◌*◌, List, ℤ, pos, ◌+ℤ◌, ◌*ℤ◌, get_or, replicate, unsigned_abs, FitsSigned, SFits, to_z, of_z, arith, sym, ap, ◌∙◌, subst}
use Rattle.std.specs.Int.{w32, w64}
use Rattle.std.proofs.lemmas.Int.{ints, to_z-of_z, unsigned_abs-mul}
use Rattle.std.proofs.lemmas.Nat.{mul-le}
use Rattle.sn_fixed.specs.Fixed.{floor, sat, mul}
use Rattle.sn_mem.specs.Blocks.{block, sample}
use Rattle.sn_filt.specs.Products.{IsSmall}
use Rattle.sn_filt.proofs.Widths.{half_word, product_fits}
use Rattle.sn_filt.proofs.SteadyPoles.{weight_at}
use Rattle.sn_filt.proofs.Unlimited.{in_scale, sat_same}

-- what is made of two samples that were read
pub frame_of : (f : ℤ → ℤ → ℤ) (r : ℤ) (xs ys : List ℤ) (inputs : List (List ℤ)) (i j k : ℕ) → SFits w32 r → SFits w32 (get_or xs k (pos 0)) → SFits w32 (get_or ys k (pos 0))
    → r ≡ f (to_z w32 (of_z w32 (get_or xs k (pos 0)))) (to_z w32 (of_z w32 (get_or ys k (pos 0)))) → xs ≡ block inputs i → ys ≡ block inputs j → to_z w32 (of_z w32 r) ≡ f (sample inputs i k) (sample inputs j k)
frame_of f r xs ys inputs i j k fr fx fy e ex ey =
    to_z-of_z w32 r fr
    ∙ (e
    ∙ (ap (λ (z : ℤ). f z (to_z w32 (of_z w32 (get_or ys k (pos 0))))) (to_z-of_z w32 (get_or xs k (pos 0)) fx)
    ∙ (ap (λ (z : ℤ). f (get_or xs k (pos 0)) z) (to_z-of_z w32 (get_or ys k (pos 0)) fy)
    ∙ (ap (λ (zs : List ℤ). f (get_or zs k (pos 0)) (get_or ys k (pos 0))) ex ∙ ap (λ (zs : List ℤ). f (sample inputs i k) (get_or zs k (pos 0))) ey))))

-- what lies below 128.0 is a sample
in_size : (z : ℤ) → unsigned_abs z < 36028797018963968 → FitsSigned w32 (floor z 16777216)
in_size z lt = in_scale z (omega (arith, ints, lt)) (omega (arith, ints, lt))

by_sizes : (a b : ℤ) → unsigned_abs a * unsigned_abs b < 36028797018963968 → FitsSigned w32 (floor (a *ℤ b) 16777216)
by_sizes a b lt = in_size (a *ℤ b) (let e = unsigned_abs-mul a b in omega (arith, e, lt))

by_second : (a b : ℤ) → FitsSigned w32 a → unsigned_abs b < 16777216 → FitsSigned w32 (floor (a *ℤ b) 16777216)
by_second a b f lt =
    let h : unsigned_abs a ≤ 2147483648 = half_word a f in
    let m : unsigned_abs a * unsigned_abs b ≤ 2147483648 * 16777215 = mul-le (unsigned_abs a) (unsigned_abs b) 2147483648 16777215 h (omega (arith, lt)) in
    by_sizes a b (omega (arith, m))

pub small_fits : (a b : ℤ) → FitsSigned w32 a → IsSmall a b → FitsSigned w32 (floor (a *ℤ b) 16777216)
small_fits a b f (inl lt) = by_second a b f lt
small_fits a b f (inr lt) = by_sizes a b lt

pub small_is : (a b : ℤ) → FitsSigned w32 a → IsSmall a b → floor (a *ℤ b) 16777216 ≡ mul a b
unfolding mul
small_is a b f small = sym (sat_same (floor (a *ℤ b) 16777216) (small_fits a b f small))

-- the product, as it is computed
pub read_times : (a b r : ℤ) → FitsSigned w32 a → FitsSigned w32 b → r ≡ to_z w32 (of_z w32 a) *ℤ to_z w32 (of_z w32 b) → to_z w64 (of_z w64 r) ≡ a *ℤ b
read_times a b r f g e =
    let is : r ≡ a *ℤ b = e ∙ (ap (λ (z : ℤ). z *ℤ to_z w32 (of_z w32 b)) (to_z-of_z w32 a f) ∙ ap (λ (z : ℤ). a *ℤ z) (to_z-of_z w32 b g)) in
    ap (λ (z : ℤ). to_z w64 (of_z w64 z)) is ∙ to_z-of_z w64 (a *ℤ b) (product_fits a b f g)

pub size_of_equal : (inputs : List (List ℤ)) (number : ℕ) (value : ℤ) (n : ℕ) → block inputs number ≡ replicate 64 value → n ≡ unsigned_abs value → (k : ℕ) → k < 64 → unsigned_abs (sample inputs number k) ≤ n
size_of_equal inputs number value n e is k inside =
    let at : sample inputs number k ≡ value = weight_at value inputs number k inside e in
    let size : unsigned_abs (sample inputs number k) ≡ n = ap unsigned_abs at ∙ sym is in
    omega (arith, size)

pub small_as_read : (xs ys : List ℤ) (inputs : List (List ℤ)) (k : ℕ) → SFits w32 (get_or xs k (pos 0)) → SFits w32 (get_or ys k (pos 0)) → xs ≡ block inputs 0 → ys ≡ block inputs 1 → IsSmall (sample inputs 0 k) (sample inputs 1 k)
    → IsSmall (to_z w32 (of_z w32 (get_or xs k (pos 0)))) (to_z w32 (of_z w32 (get_or ys k (pos 0))))
small_as_read xs ys inputs k fx fy ex ey small =
    let first : to_z w32 (of_z w32 (get_or xs k (pos 0))) ≡ sample inputs 0 k = to_z-of_z w32 (get_or xs k (pos 0)) fx ∙ ap (λ (zs : List ℤ). get_or zs k (pos 0)) ex in
    let second : to_z w32 (of_z w32 (get_or ys k (pos 0))) ≡ sample inputs 1 k = to_z-of_z w32 (get_or ys k (pos 0)) fy ∙ ap (λ (zs : List ℤ). get_or zs k (pos 0)) ey in
    let F : ℤ → Type 0 = λ z. IsSmall z (sample inputs 1 k) in
    let G : ℤ → Type 0 = λ z. IsSmall (to_z w32 (of_z w32 (get_or xs k (pos 0)))) z in
    subst G (sym second) (subst F (sym first) small)

-- what is made of a product and a sample that was read
pub sum_frame : (r p : ℤ) (xs ys zs : List ℤ) (inputs : List (List ℤ)) (k : ℕ) → SFits w32 r → SFits w32 p → SFits w32 (get_or xs k (pos 0)) → SFits w32 (get_or ys k (pos 0)) → SFits w32 (get_or zs k (pos 0))
    → p ≡ floor (to_z w32 (of_z w32 (get_or xs k (pos 0))) *ℤ to_z w32 (of_z w32 (get_or ys k (pos 0)))) 16777216 → r ≡ sat (to_z w32 (of_z w32 p) +ℤ to_z w32 (of_z w32 (get_or zs k (pos 0)))) → xs ≡ block inputs 0 → ys ≡ block inputs 1 → zs ≡ block inputs 2
    → to_z w32 (of_z w32 r) ≡ sat (floor (sample inputs 0 k *ℤ sample inputs 1 k) 16777216 +ℤ sample inputs 2 k)
sum_frame r p xs ys zs inputs k fr fp fx fy fz ep er ex ey ez =
    let product : to_z w32 (of_z w32 p) ≡ floor (sample inputs 0 k *ℤ sample inputs 1 k) 16777216 = frame_of (λ x y. floor (x *ℤ y) 16777216) p xs ys inputs 0 1 k fp fx fy ep ex ey in
    let last : to_z w32 (of_z w32 (get_or zs k (pos 0))) ≡ sample inputs 2 k = to_z-of_z w32 (get_or zs k (pos 0)) fz ∙ ap (λ (bs : List ℤ). get_or bs k (pos 0)) ez in
    to_z-of_z w32 r fr ∙ (er ∙ (ap (λ (z : ℤ). sat (z +ℤ to_z w32 (of_z w32 (get_or zs k (pos 0))))) product ∙ ap (λ (z : ℤ). sat (floor (sample inputs 0 k *ℤ sample inputs 1 k) 16777216 +ℤ z)) last))
