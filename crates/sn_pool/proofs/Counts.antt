-- How often an extent is among others, after one comes or goes.
use Rattle.std.proofs.Common.{◌≡◌, ◌≢◌, ℕ, ◌+◌, ◌<◌, ◌≤◌, true, false, if◌then◌else◌, List, [], ◌∷◌, length, get_or, Contains, sym, refl, ap, ◌∙◌, subst, arith, zero, suc, eqb, ltb, leb, ⊎_elim}
use Rattle.std.proofs.lemmas.List.{get_or_default}
use Rattle.std.proofs.lemmas.Bool.{and_from, and_left, and_parts, cond-true, cond_both, eq-eqb, eqb-true, ne_eqb, cases_Bool, cases_order, ltb-true, leb-true}
use Rattle.sn_mem.specs.declared.extents.Extent.{Extent}
use Rattle.sn_pool.specs.Pools.{AreLaidOut, AreDisjoint, LiesIn, same_extent, with_extent, without_extent, times}
use Rattle.sn_pool.proofs.LaidOut.{laid_out_at, laid_out_order}

pub same_itself : (e : Extent) → same_extent e e ≡ true
same_itself e = and_from (eqb e.at e.at) (eqb e.len e.len) (eq-eqb e.at e.at refl) (eq-eqb e.len e.len refl)

pub same_is : (a b : Extent) → same_extent a b ≡ true → a ≡ b
same_is a b h =
    let parts = and_parts (eqb a.at b.at) (eqb a.len b.len) h in
    let one : ℕ → Extent = λ at. record { at = at; len = a.len } in
    let other : ℕ → Extent = λ len. record { at = b.at; len = len } in
    ap one (eqb-true a.at b.at parts.0) ∙ ap other (eqb-true a.len b.len parts.1)

pub times_with : (e x : Extent) (xs : List Extent) → times e (with_extent x xs) ≡ (if same_extent e x then 1 else 0) + times e xs
unfolding times
times_with e x [] = refl
times_with e x (y ∷ ys) =
    cond_both (ltb x.at y.at) (x ∷ y ∷ ys) (y ∷ with_extent x ys) (λ zs. times e zs ≡ (if same_extent e x then 1 else 0) + times e (y ∷ ys))
    (λ before. refl)
    (λ after. omega (arith, times_with e x ys))

times_without_at : (e x : Extent) (xs : List Extent) (k : ℕ) → k < length xs → get_or xs k x ≡ x → times e xs ≡ (if same_extent e x then 1 else 0) + times e (without_extent x xs)
unfolding times
times_without_at e x [] k lt is = absurd (omega arith)
times_without_at e x (y ∷ ys) zero lt is =
    let same : same_extent x y ≡ true = subst (λ z. same_extent x z ≡ true) (sym is) (same_itself x) in
    let rest = ap (times e) (cond-true (same_extent x y) ys (y ∷ without_extent x ys) same) in
    let first = ap {B = ℕ} (λ z. if same_extent e z then 1 else 0) is in
    omega (arith, rest, first)
times_without_at e x (y ∷ ys) (suc k) lt is =
    cond_both (same_extent x y) ys (y ∷ without_extent x ys) (λ zs. times e (y ∷ ys) ≡ (if same_extent e x then 1 else 0) + times e zs)
    (λ same. let first = ap {B = ℕ} (λ z. if same_extent e z then 1 else 0) (same_is x y same) in omega (arith, first))
    (λ other. omega (arith, times_without_at e x ys k (omega arith) is))

-- An extent that is counted stands somewhere.
pub place_of : (e : Extent) (xs : List Extent) → 0 < times e xs → Contains xs e
unfolding times
place_of e [] some = absurd (omega arith)
place_of e (x ∷ xs) some =
    ⊎_elim
    (λ (same : same_extent e x ≡ true). (0, omega arith, sym (same_is e x same)))
    (λ (other : same_extent e x ≡ false).
    let none : (if same_extent e x then 1 else 0) ≡ 0 = ap {B = ℕ} (λ b. if b then 1 else 0) other in
    let later = place_of e xs (omega (arith, none, some)) in
    (suc later.0, omega (arith, later.1), later.2))
    (cases_Bool (same_extent e x))

pub times_without : (e x : Extent) (xs : List Extent) → 0 < times x xs → times e xs ≡ (if same_extent e x then 1 else 0) + times e (without_extent x xs)
times_without e x xs some = let at = place_of x xs some in times_without_at e x xs at.0 at.1 at.2

times_below : (from to : ℕ) (es : List Extent) (e : Extent) → AreLaidOut from to es → e.at < from → times e es ≡ 0
unfolding times
times_below from to [] e h low = refl
times_below from to (x ∷ xs) e h low =
    let other = and_left (eqb e.at x.at) (eqb e.len x.len) (ne_eqb e.at x.at (λ same. omega (arith, same, h.0))) in
    let none : (if same_extent e x then 1 else 0) ≡ 0 = ap {B = ℕ} (λ b. if b then 1 else 0) other in
    omega (arith, none, times_below (x.at + x.len) to xs e h.2 (omega (arith, h.0)))

pub times_once : (from to : ℕ) (es : List Extent) (e : Extent) → AreLaidOut from to es → times e es ≤ 1
unfolding times
times_once from to [] e h = omega arith
times_once from to (x ∷ xs) e h =
    ⊎_elim
    (λ (same : same_extent e x ≡ true).
    let one : (if same_extent e x then 1 else 0) ≡ 1 = ap {B = ℕ} (λ b. if b then 1 else 0) same in
    let at = ap (λ (y : Extent). y.at) (same_is e x same) in
    omega (arith, one, times_below (x.at + x.len) to xs e h.2 (omega (arith, at, h.1))))
    (λ (other : same_extent e x ≡ false).
    let none : (if same_extent e x then 1 else 0) ≡ 0 = ap {B = ℕ} (λ b. if b then 1 else 0) other in
    omega (arith, none, times_once (x.at + x.len) to xs e h.2))
    (cases_Bool (same_extent e x))

pub times_inside : (region : Extent) (es : List Extent) (e : Extent) → AreLaidOut region.at (region.at + region.len) es → 0 < times e es → LiesIn region e × (1 ≤ e.len)
times_inside region es e h some =
    let at = place_of e es some in
    subst (λ (x : Extent). LiesIn region x × (1 ≤ x.len)) at.2
    (let lies = laid_out_at region.at (region.at + region.len) es at.0 e h at.1 in ((lies.0, lies.2), lies.1))

pub times_disjoint : (from to : ℕ) (es : List Extent) (a b : Extent) → AreLaidOut from to es → 0 < times a es → 0 < times b es → a ≢ b → AreDisjoint a b
times_disjoint from to es a b h some others differ x one other =
    let i = place_of a es some in
    let j = place_of b es others in
    let first : (get_or es i.0 a) ≡ a = i.2 in
    let ends = ltb-true x (a.at + a.len) (and_parts (leb a.at x) (ltb x (a.at + a.len)) one).1 in
    let begins = leb-true a.at x (and_parts (leb a.at x) (ltb x (a.at + a.len)) one).0 in
    let ends_other = ltb-true x (b.at + b.len) (and_parts (leb b.at x) (ltb x (b.at + b.len)) other).1 in
    let begins_other = leb-true b.at x (and_parts (leb b.at x) (ltb x (b.at + b.len)) other).0 in
    let here : (d : Extent) → get_or es i.0 d ≡ a = λ d. get_or_default es i.0 d a i.1 ∙ i.2 in
    let there : (d : Extent) → get_or es j.0 d ≡ b = λ d. get_or_default es j.0 d b j.1 ∙ j.2 in
    ⊎_elim
    (λ (same : i.0 ≡ j.0). differ (sym (here a) ∙ ap (λ k. get_or es k a) same ∙ there a))
    (λ apart. ⊎_elim
    (λ (less : i.0 < j.0). omega (arith, laid_out_order from to es i.0 j.0 a h less j.1, ap (λ (e : Extent). e.at) (here a), ap (λ (e : Extent). e.len) (here a), ap (λ (e : Extent). e.at) (there a)))
    (λ (more : j.0 < i.0). omega (arith, laid_out_order from to es j.0 i.0 a h more i.1, ap (λ (e : Extent). e.at) (here a), ap (λ (e : Extent). e.len) (there a), ap (λ (e : Extent). e.at) (there a)))
    apart)
    (cases_order i.0 j.0)
