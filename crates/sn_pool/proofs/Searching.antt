-- What binary searches find among runs.
use Rattle.std.proofs.Common.{◌≡◌, ℕ, ◌+◌, ◌-◌, ◌<◌, ◌≤◌, ⊎_elim, true, false, List, length, get_or, take, drop, sym, ap, ◌∙◌, subst, arith, leb, ltb, Some, None}
use Rattle.std.specs.List.Sorted.{IsPartitionedBy, IsPartitionPoint}
use Rattle.std.proofs.lemmas.List.{get_or-drop, length-drop, get_or_default, take_all}
use Rattle.std.proofs.lemmas.Bool.{cases_lt, leb-true, leb-false, ltb-true, ltb-false, le-leb, lt-ltb}
use Rattle.sn_mem.specs.declared.extents.Extent.{Extent}
use Rattle.sn_pool.specs.declared.sorted.Order.TheVariants.{Place, Size}
use Rattle.sn_pool.specs.Pools.{times}
use Rattle.sn_pool.specs.Sorting.{AreInOrder}
use Rattle.sn_pool.specs.Holes.{IsLastTo}
use Rattle.sn_pool.proofs.Counts.{place_of}
use Rattle.sn_pool.proofs.Orders.{member_at}
use Rattle.sn_pool.proofs.Least.{place_first, size_first}

module _ (runs : List Extent) (sorted : AreInOrder Place runs) where
  places_rise : (i j : ℕ) (d : Extent) → i ≤ j → j < length runs → (get_or runs i d).at ≤ (get_or runs j d).at
  places_rise i j d le within = ⊎_elim
      (λ (less : i < j). place_first (get_or runs j d) (get_or runs i d) (sorted i j d less within))
      (λ (more : j ≤ i). let same : i ≡ j = omega arith in let t = ap (λ k. (get_or runs k d).at) same in omega (arith, t))
      (cases_lt i j)

  pub parted_by_place : (place : ℕ) → IsPartitionedBy (λ x. leb x.at place) runs
  parted_by_place place i j d le within here = le-leb (get_or runs i d).at place (omega (arith, places_rise i j d le within, leb-true (get_or runs j d).at place here))

  pub last_none : (place : ℕ) → IsPartitionPoint (λ x. leb x.at place ≡ true) (λ x. leb x.at place ≡ false) runs 0 → IsLastTo place runs None
  last_none place point x some =
      let at = place_of x runs some in
      subst (λ (z : Extent). place < z.at) at.2 (leb-false (get_or runs at.0 x).at place (point.1 at.0 x (omega arith) at.1))

  pub last_some : (place i : ℕ) (d : Extent) → 0 < i → i ≤ length runs → IsPartitionPoint (λ x. leb x.at place ≡ true) (λ x. leb x.at place ≡ false) runs i → IsLastTo place runs (Some (get_or runs (i - 1) d))
  last_some place i d one within point = (
    member_at runs (i - 1) d (omega arith),
    leb-true (get_or runs (i - 1) d).at place (point.0 (i - 1) d (omega arith) (omega arith)),
    λ x some low.
        let at = place_of x runs some in
        let here : (get_or runs at.0 d) ≡ x = get_or_default runs at.0 d x at.1 ∙ at.2 in
        let same = ap (λ (z : Extent). z.at) here in
        let below : at.0 < i = ⊎_elim
        (λ (l : at.0 < i). l)
        (λ (m : i ≤ at.0). absurd (omega (arith, low, same, leb-false (get_or runs at.0 d).at place (point.1 at.0 d m at.1))))
        (cases_lt at.0 i) in
        omega (arith, same, places_rise at.0 (i - 1) d (omega (arith, below)) (omega arith)),
  )

module _ (runs : List Extent) (sorted : AreInOrder Size runs) where
  sizes_rise : (i j : ℕ) (d : Extent) → i ≤ j → j < length runs → (get_or runs i d).len ≤ (get_or runs j d).len
  sizes_rise i j d le within = ⊎_elim
      (λ (less : i < j). size_first (get_or runs j d) (get_or runs i d) (sorted i j d less within))
      (λ (more : j ≤ i). let same : i ≡ j = omega arith in let t = ap (λ k. (get_or runs k d).len) same in omega (arith, t))
      (cases_lt i j)

  pub parted_by_size : (n : ℕ) → IsPartitionedBy (λ x. ltb x.len n) runs
  parted_by_size n i j d le within here = lt-ltb (get_or runs i d).len n (omega (arith, sizes_rise i j d le within, ltb-true (get_or runs j d).len n here))

  pub last_is_longest : (x : Extent) (d : Extent) → 0 < times x runs → x.len ≤ (get_or runs (length runs - 1) d).len
  last_is_longest x d some =
      let at = place_of x runs some in
      let here : (get_or runs at.0 d) ≡ x = get_or_default runs at.0 d x at.1 ∙ at.2 in
      omega (arith, ap (λ (z : Extent). z.len) here, sizes_rise at.0 (length runs - 1) d (omega (arith, at.1)) (omega (arith, at.1)))

pub to_the_end : (i : ℕ) (runs : List Extent) → take (length runs - i) (drop i runs) ≡ drop i runs
to_the_end i runs = take_all (length runs - i) (drop i runs) (omega (arith, length-drop i runs))

-- The runs from a partition point on are those that are long enough.
module _ (runs : List Extent) (n i : ℕ) (le : i ≤ length runs) (point : IsPartitionPoint (λ x. ltb x.len n ≡ true) (λ x. ltb x.len n ≡ false) runs i) where
  at_in_rest : (e : Extent) → 0 < times e (drop i runs) → (k : ℕ) × (i ≤ k) × (k < length runs) × (get_or runs k e ≡ e)
  at_in_rest e some =
      let at = place_of e (drop i runs) some in
      (i + at.0, omega arith, omega (arith, at.1, length-drop i runs), sym (get_or-drop i runs at.0 e) ∙ at.2)

  pub rest_long : (e : Extent) → 0 < times e (drop i runs) → n ≤ e.len
  rest_long e some =
      let (k, low, within, is) = at_in_rest e some in
      subst (λ (z : Extent). n ≤ z.len) is (ltb-false (get_or runs k e).len n (point.1 k e low within))

  pub rest_some : (e : Extent) → 0 < times e (drop i runs) → 0 < times e runs
  rest_some e some =
      let (k, low, within, is) = at_in_rest e some in
      subst (λ (z : Extent). 0 < times z runs) is (member_at runs k e within)

  pub rest_all : (e : Extent) → 0 < times e runs → n ≤ e.len → 0 < times e (drop i runs)
  rest_all e some long =
      let at = place_of e runs some in
      let low : i ≤ at.0 = ⊎_elim
      (λ (l : at.0 < i). absurd (omega (arith, long, ap (λ (z : Extent). z.len) at.2, ltb-true (get_or runs at.0 e).len n (point.0 at.0 e (omega arith) l))))
      (λ (m : i ≤ at.0). m)
      (cases_lt at.0 i) in
      let back : i + (at.0 - i) ≡ at.0 = omega (arith, low) in
      let here : get_or (drop i runs) (at.0 - i) e ≡ e = get_or-drop i runs (at.0 - i) e ∙ ap (λ k. get_or runs k e) back ∙ at.2 in
      subst (λ (z : Extent). 0 < times z (drop i runs)) here (member_at (drop i runs) (at.0 - i) e (omega (arith, low, at.1, length-drop i runs)))
