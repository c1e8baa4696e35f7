-- Lists that count each extent alike have the same free words, in whatever order they stand.
use Rattle.std.proofs.Common.{◌≡◌, ℕ, ◌<◌, true, false, if◌then◌else◌, List, [], ◌∷◌, sym, ap, ◌∙◌, ⊎_elim, arith}
use Rattle.std.proofs.lemmas.Bool.{or_left, or_right, or_cases, cases_Bool, false_from_ne_true, true≢false}
use Rattle.sn_mem.specs.declared.extents.Extent.{Extent}
use Rattle.sn_mem.specs.Words.{covers, has}
use Rattle.sn_pool.specs.Pools.{same_extent, times}
use Rattle.sn_pool.proofs.Counts.{same_is, same_itself}

-- A word in one of the extents is in one that is counted.
pub covering : (es : List Extent) (x : ℕ) → has es x ≡ true → (e : Extent) × (0 < times e es) × (covers e x ≡ true)
unfolding times
covering [] x h = absurd (true≢false (sym h))
covering (y ∷ ys) x h = ⊎_elim
    (λ (here : covers y x ≡ true).
    let one : (if same_extent y y then 1 else 0) ≡ 1 = ap {B = ℕ} (λ b. if b then 1 else 0) (same_itself y) in
    (y, omega (arith, one), here))
    (λ (later : has ys x ≡ true). let found = covering ys x later in (found.0, omega (arith, found.1), found.2))
    (or_cases (covers y x) (has ys x) h)

pub covered_by : (e : Extent) (es : List Extent) (x : ℕ) → 0 < times e es → covers e x ≡ true → has es x ≡ true
unfolding times
covered_by e [] x some h = absurd (omega arith)
covered_by e (y ∷ ys) x some h = ⊎_elim
    (λ (same : same_extent e y ≡ true). or_left (covers y x) (has ys x) (ap (λ (z : Extent). covers z x) (sym (same_is e y same)) ∙ h))
    (λ (other : same_extent e y ≡ false).
    let none : (if same_extent e y then 1 else 0) ≡ 0 = ap {B = ℕ} (λ b. if b then 1 else 0) other in
    or_right (covers y x) (has ys x) (covered_by e ys x (omega (arith, none, some)) h))
    (cases_Bool (same_extent e y))

pub same_words : (a b : List Extent) → ((e : Extent) → times e a ≡ times e b) → (x : ℕ) → has a x ≡ has b x
same_words a b same x = ⊎_elim
    (λ (yes : has a x ≡ true). let e = covering a x yes in yes ∙ sym (covered_by e.0 b x (omega (arith, same e.0, e.1)) e.2))
    (λ (no : has a x ≡ false). no ∙ sym (false_from_ne_true (has b x) (λ yes.
    let e = covering b x yes in true≢false (sym (covered_by e.0 a x (omega (arith, same e.0, e.1)) e.2) ∙ no))))
    (cases_Bool (has a x))
