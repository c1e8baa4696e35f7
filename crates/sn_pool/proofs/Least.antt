-- The least place and the longest run among runs of free words.
use Rattle.std.proofs.Common.{◌≡◌, ℕ, ◌+◌, ◌<◌, ◌≤◌, ◌⊎◌, inl, inr, ⊎_elim, false, List, [], ◌∷◌, length, get_or, drop, sym, refl, ap, ◌∙◌, subst, arith, min, leb, Option, Some, None}
use Rattle.std.proofs.lemmas.Bool.{cases_lt, cond_both, cond-true, cond-false, leb-true, leb-false, le-leb, lt-leb}
use Rattle.std.proofs.lemmas.Bool.Decides.{nat_tests}
use Rattle.sn_mem.specs.declared.extents.Extent.{Extent}
use Rattle.sn_pool.specs.declared.sorted.Order.TheVariants.{Place, Size}
use Rattle.sn_pool.specs.Pools.{times}
use Rattle.sn_pool.specs.Sorting.{before, AreInOrder}
use Rattle.sn_pool.specs.Holes.{AreIn, AreRuns, IsLeastIn, IsLeastRun, IsLongestIn, first_of, least_of, least_place_of}
use Rattle.sn_pool.proofs.LaidOut.{drop_head}
use Rattle.sn_pool.proofs.Orders.{head_first, tail_order, members, times_here, times_later}
use Rattle.sn_pool.proofs.Runs.{in_one, run_is_in}

pub least_from_run : (runs : List Extent) (n : ℕ) (answer : Option ℕ) → AreRuns runs → 1 ≤ n → IsLeastRun runs n answer → IsLeastIn runs n answer
least_from_run runs n None h one none = λ p each.
    let (e, some, low, high) = in_one runs p n h one each in
    omega (arith, none e some, low, high)
least_from_run runs n (Some p) h one least =
    let (e, some, le, at) = least.0 in (
      subst (λ q. AreIn runs q n) at (run_is_in runs e n some le),
      λ q each.
          let (f, here, low, high) = in_one runs q n h one each in
          omega (arith, low, least.1 f here (omega (arith, low, high))),
    )

pub place_first : (a b : Extent) → before Place a b ≡ false → b.at ≤ a.at
place_first a b h = grind (arith, nat_tests)

pub size_first : (a b : Extent) → before Size a b ≡ false → b.len ≤ a.len
size_first a b h = grind (arith, nat_tests)

later_run : (e : Extent) (es : List Extent) (n : ℕ) (answer : Option ℕ) → e.len < n → IsLeastRun es n answer → IsLeastRun (e ∷ es) n answer
later_run e es n None short none = λ x some. ⊎_elim
    (λ (is : x ≡ e). omega (arith, ap (λ (z : Extent). z.len) is))
    (λ (later : 0 < times x es). none x later)
    (members x e es some)
later_run e es n (Some p) short least =
    let (f, some, le, at) = least.0 in (
      (f, times_later f e es some, le, at),
      λ x here long. ⊎_elim
          (λ (is : x ≡ e). absurd (omega (arith, ap (λ (z : Extent). z.len) is)))
          (λ (later : 0 < times x es). least.1 x later long)
          (members x e es here),
    )

-- Of runs in the order of their places, the first that is long enough has the least place.
pub first_of_is : (n : ℕ) (runs : List Extent) → AreInOrder Place runs → IsLeastRun runs n (first_of n runs)
unfolding first_of times
first_of_is n [] h = λ x some. absurd (omega arith)
first_of_is n (e ∷ es) h =
    cond_both (leb n e.len) (Some e.at) (first_of n es) (IsLeastRun (e ∷ es) n)
    (λ b. (
      (e, times_here e es, leb-true n e.len b, refl),
      λ x some long. ⊎_elim
          (λ (is : x ≡ e). omega (arith, ap (λ (z : Extent). z.at) is))
          (λ (later : 0 < times x es). place_first x e (head_first Place e es h x later))
          (members x e es some),
    ))
    (λ b. later_run e es n (first_of n es) (leb-false n e.len b) (first_of_is n es (tail_order Place e es h)))

pub first_here : (n : ℕ) (es : List Extent) (i : ℕ) (d : Extent) → i < length es → n ≤ (get_or es i d).len → first_of n (drop i es) ≡ Some (get_or es i d).at
unfolding first_of
first_here n es i d lt le = ap (first_of n) (drop_head es i d lt) ∙ cond-true (leb n (get_or es i d).len) (Some (get_or es i d).at) (first_of n (drop (i + 1) es)) (le-leb n (get_or es i d).len le)

pub first_later : (n : ℕ) (es : List Extent) (i : ℕ) (d : Extent) → i < length es → (get_or es i d).len < n → first_of n (drop i es) ≡ first_of n (drop (i + 1) es)
unfolding first_of
first_later n es i d lt less = ap (first_of n) (drop_head es i d lt) ∙ cond-false (leb n (get_or es i d).len) (Some (get_or es i d).at) (first_of n (drop (i + 1) es)) (lt-leb n (get_or es i d).len less)

pub first_none : (n : ℕ) → first_of n [] ≡ None
unfolding first_of
first_none n = refl

pub least_later : (p : ℕ) (es : List Extent) (i : ℕ) (d : Extent) → i < length es → least_of p (drop i es) ≡ least_of (min p (get_or es i d).at) (drop (i + 1) es)
unfolding least_of
least_later p es i d lt = ap (least_of p) (drop_head es i d lt)

pub least_last : (p : ℕ) → least_of p [] ≡ p
unfolding least_of
least_last p = refl

-- What the least of a place and the places of runs is.
record IsLeastOf (p : ℕ) (es : List Extent) (r : ℕ) : Type 0 where
  pub below : r ≤ p
  pub least : (x : Extent) → 0 < times x es → r ≤ x.at
  pub one : (r ≡ p) ⊎ ((e : Extent) × (0 < times e es) × (e.at ≡ r))

least_of_is : (p : ℕ) (es : List Extent) → IsLeastOf p es (least_of p es)
unfolding least_of times
least_of_is p [] = record { below = omega arith; least = λ x some. absurd (omega arith); one = inl refl }
least_of_is p (e ∷ es) =
    let rest = least_of_is (min p e.at) es in
    let r = least_of (min p e.at) es in
    record {
      below = omega (arith, rest.below);
      least = λ x some. ⊎_elim
          (λ (is : x ≡ e). omega (arith, rest.below, ap (λ (z : Extent). z.at) is))
          (λ (later : 0 < times x es). rest.least x later)
          (members x e es some);
      one = ⊎_elim
          (λ (same : r ≡ min p e.at). ⊎_elim
          (λ (less : e.at < p). let t : e.at ≡ r = omega (arith, same) in inr (e, times_here e es, t))
          (λ (more : p ≤ e.at). let t : r ≡ p = omega (arith, same) in inl t)
          (cases_lt e.at p))
          (λ (later : (f : Extent) × (0 < times f es) × (f.at ≡ r)). let (f, some, at) = later in inr (f, times_later f e es some, at))
          rest.one;
    }

-- The least place of all runs that are long enough.
pub least_place_is : (runs long : List Extent) (n : ℕ) → ((e : Extent) → 0 < times e long → n ≤ e.len) → ((e : Extent) → 0 < times e long → 0 < times e runs) → ((e : Extent) → 0 < times e runs → n ≤ e.len → 0 < times e long) → IsLeastRun runs n (least_place_of long)
unfolding times
least_place_is runs [] n are some all = λ x here. ⊎_elim
    (λ (short : x.len < n). short)
    (λ (le : n ≤ x.len). absurd (omega (arith, all x here le)))
    (cases_lt x.len n)
least_place_is runs (e ∷ es) n are some all =
    let found = least_of_is e.at es in
    let r = least_of e.at es in (
      ⊎_elim
          (λ (same : r ≡ e.at). (e, some e (times_here e es), are e (times_here e es), sym same))
          (λ (later : (f : Extent) × (0 < times f es) × (f.at ≡ r)). let (f, here, at) = later in (f, some f (times_later f e es here), are f (times_later f e es here), at))
          found.one,
      λ x here le. ⊎_elim
          (λ (is : x ≡ e). omega (arith, found.below, ap (λ (z : Extent). z.at) is))
          (λ (later : 0 < times x es). found.least x later)
          (members x e es (all x here le)),
    )

pub longest_from_run : (runs : List Extent) (e : Extent) → AreRuns runs → 0 < times e runs → ((x : Extent) → 0 < times x runs → x.len ≤ e.len) → IsLongestIn runs e.len
longest_from_run runs e h some most = record {
  place = inr (e.at, run_is_in runs e e.len some (omega arith));
  longest = λ m p one each.
      let (f, here, low, high) = in_one runs p m h one each in
      omega (arith, low, high, most f here);
}
