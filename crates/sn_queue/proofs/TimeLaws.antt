-- Which tag is the first that is due at a block.
use Rattle.std.proofs.Common.{◌≡◌, ◌≤◌, ◌<◌, ◌^◌, ◌+◌, ◌-◌, ◌*◌, ◌/◌, ℕ, cond, eqb, max, true, false, arith, ap, subst, ◌∙◌, inr, ⊎_elim}
use Rattle.std.proofs.lemmas.Grind.{div_ceil_times}
use Rattle.std.proofs.lemmas.Bool.{cases_lt, lt-leb, le-leb}
use Rattle.std.proofs.Math.Nat.{mul-le-mul_right, le-div_iff_mul-le, div-lt_iff_lt-mul}
use Rattle.std.specs.Int.{div_ceil}
use Rattle.sn_queue.specs.Time.{due, at, key_of, acts_at, IsInReach, IsLeastDue}

-- at every tag, since `-` stops at 0
pub due-is : (tag base rate : ℕ) → due tag base rate ≡ (tag - base) * rate / 2 ^ 38
due-is tag base rate = ⊎_elim
    (λ (h : base < tag). rw (lt-leb tag base h))
    (λ (h : tag ≤ base). let none : tag - base ≡ 0 = omega arith in rw (le-leb tag base h) (rw none (omega arith)))
    (cases_lt base tag)

-- the quotient, rounded up, is at most every number whose product reaches
pub div_ceil-least : (n rate other : ℕ) → 0 < rate → n ≤ other * rate → div_ceil n rate ≤ other
div_ceil-least n rate other positive reaches =
    let bounds = div_ceil_times n rate positive in
    ⊎_elim
    (λ (h : other < div_ceil n rate).
    let more : (other + 1) * rate ≤ div_ceil n rate * rate = mul-le-mul_right rate (omega arith) in
    let split : (other + 1) * rate ≡ other * rate + rate = omega arith in
    absurd (omega (arith, bounds, more, split, reaches)))
    (λ (h : div_ceil n rate ≤ other). h)
    (cases_lt other (div_ceil n rate))

pub due-at : (block base rate : ℕ) → 0 < rate → rate ≤ 2 ^ 38 → due (at block base rate) base rate ≡ block
due-at block base rate positive small =
    let bounds = div_ceil_times (block * 2 ^ 38) rate positive in
    let product = div_ceil (block * 2 ^ 38) rate * rate in
    let from_base : at block base rate - base ≡ div_ceil (block * 2 ^ 38) rate = omega arith in
    let low : block ≤ product / 2 ^ 38 = (le-div_iff_mul-le {k = 2 ^ 38} (omega arith)).1 bounds.0 in
    let high : product / 2 ^ 38 < block + 1 = (div-lt_iff_lt-mul {k = 2 ^ 38} (omega arith)).1 (omega (arith, bounds)) in
    due-is (at block base rate) base rate ∙ ap (λ n. n * rate / 2 ^ 38) from_base ∙ omega (arith, low, high)

pub at-least : (block base rate other : ℕ) → 0 < rate → 1 ≤ block → block ≤ due other base rate → at block base rate ≤ other
at-least block base rate other positive later here =
    let reached : block ≤ (other - base) * rate / 2 ^ 38 = subst (λ n. block ≤ n) (due-is other base rate) here in
    let reaches : block * 2 ^ 38 ≤ (other - base) * rate = (le-div_iff_mul-le {k = 2 ^ 38} (omega arith)).0 reached in
    let least = div_ceil-least (block * 2 ^ 38) rate (other - base) positive reaches in
    ⊎_elim
    (λ (h : base < other). omega (arith, least))
    (λ (h : other ≤ base).
    let none : other - base ≡ 0 = omega arith in
    let zero_product : block * 2 ^ 38 ≤ 0 * rate = subst (λ n. block * 2 ^ 38 ≤ n * rate) none reaches in
    absurd (omega (arith, zero_product, later)))
    (cases_lt base other)

pub at-is_least : (block base rate : ℕ) → 0 < rate → rate ≤ 2 ^ 38 → 1 ≤ block → IsLeastDue (at block base rate) block base rate
at-is_least block base rate positive small later =
    (due-at block base rate positive small, λ other here. at-least block base rate other positive later here)

pub due-monotone : (tag later base rate : ℕ) → tag ≤ later → due tag base rate ≤ due later base rate
due-monotone tag later base rate h = grind arith

pub due-max : (a b base rate : ℕ) → due (max a b) base rate ≡ max (due a base rate) (due b base rate)
due-max a b base rate = ⊎_elim
    (λ (h : a < b).
    let up = due-monotone a b base rate (omega arith) in
    let e : max a b ≡ b = omega arith in
    ap (λ n. due n base rate) e ∙ omega (arith, up))
    (λ (h : b ≤ a).
    let up = due-monotone b a base rate h in
    let e : max a b ≡ a = omega arith in
    ap (λ n. due n base rate) e ∙ omega (arith, up))
    (cases_lt a b)

pub due-key : (tag boundary base rate : ℕ) → 0 < rate → rate ≤ 2 ^ 38 → due (key_of tag boundary base rate) base rate ≡ acts_at tag boundary base rate
due-key tag boundary base rate positive small =
    let arrival = due-at boundary base rate positive small in
    elim (eqb tag 1) as (λ b. due (max (cond b (at boundary base rate) tag) (at boundary base rate)) base rate ≡ cond b boundary (max (due tag base rate) boundary)) [
      | true ↦ due-max (at boundary base rate) (at boundary base rate) base rate ∙ omega (arith, arrival)
      | false ↦ due-max tag (at boundary base rate) base rate ∙ ap (max (due tag base rate)) arrival
    ]

-- ---- due numbers that 64 bits hold

pub reach-at : (block base rate : ℕ) → 0 < rate → rate < 2 ^ 32 → block < 2 ^ 62 → IsInReach (at block base rate) base rate
reach-at block base rate positive small early =
    let bounds = div_ceil_times (block * 2 ^ 38) rate positive in
    let from_base : at block base rate - base ≡ div_ceil (block * 2 ^ 38) rate = omega arith in
    let product : (at block base rate - base) * rate ≡ div_ceil (block * 2 ^ 38) rate * rate = ap (λ n. n * rate) from_base in
    inr (omega (arith, bounds, product, small, early))

pub reach-tag : (tag base rate : ℕ) → tag < 2 ^ 64 → rate < 2 ^ 32 → IsInReach tag base rate
reach-tag tag base rate fits small =
    let most : (tag - base) * rate ≤ 2 ^ 64 * rate = mul-le-mul_right rate (omega (arith, fits)) in
    inr (omega (arith, most, small))

pub reach-max : (a b base rate : ℕ) → IsInReach a base rate → IsInReach b base rate → IsInReach (max a b) base rate
reach-max a b base rate p q = ⊎_elim
    (λ (h : a < b). let e : b ≡ max a b = omega arith in subst (λ n. IsInReach n base rate) e q)
    (λ (h : b ≤ a). let e : a ≡ max a b = omega arith in subst (λ n. IsInReach n base rate) e p)
    (cases_lt a b)
