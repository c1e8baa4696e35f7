-- Extents in one order.
use Rattle.std.proofs.Common.{◌≡◌, ℕ, ◌+◌, ◌<◌, ◌≤◌, ◌||◌, ◌&&◌, ◌⊎◌, inl, inr, ⊎_elim, Bool, true, false, if◌then◌else◌, List, [], ◌∷◌, length, get_or, sym, refl, ap, ◌∙◌, subst, arith, zero, suc, true≢false}
use Rattle.std.specs.Prelude.{nat_eq, nat_lt}
use Rattle.std.specs.List.{insert, remove}
use Rattle.std.specs.List.Sorted.{IsPartitionedBy, IsPartitionPoint}
use Rattle.std.proofs.lemmas.Bool.{cases_Bool, cases_lt}
use Rattle.std.proofs.lemmas.Bool.Decides.{nat_tests}
use Rattle.sn_mem.specs.declared.extents.Extent.{Extent}
use Rattle.sn_pool.specs.declared.sorted.Order.{Order}
use Rattle.sn_pool.specs.declared.sorted.Order.TheVariants.{Place, Size}
use Rattle.sn_pool.specs.Pools.{times, same_extent, AreLaidOut}
use Rattle.sn_pool.specs.Sorting.{before, AreInOrder, IsOneMore}
use Rattle.sn_pool.proofs.Counts.{place_of, same_itself, same_is}
use Rattle.sn_pool.proofs.LaidOut.{laid_out_order, laid_out_at}

-- (a, b) comes before (c, d).
abbrev earlier : ℕ → ℕ → ℕ → ℕ → Bool
earlier a b c d = nat_lt a c || (nat_eq a c && nat_lt b d)

earlier_itself : (a b : ℕ) → earlier a b a b ≡ false
earlier_itself a b = grind (arith, nat_tests)

earlier_one_way : (a b c d : ℕ) → earlier a b c d ≡ true → earlier c d a b ≡ false
earlier_one_way a b c d h = grind (arith, nat_tests)

earlier_between : (a b c d e f : ℕ) → earlier c d a b ≡ false → earlier c d e f ≡ true → earlier a b e f ≡ true
earlier_between a b c d e f h k = grind (arith, nat_tests)

earlier_ties : (a b c d : ℕ) → earlier a b c d ≡ false → earlier c d a b ≡ false → (a ≡ c) × (b ≡ d)
earlier_ties a b c d h k = (grind (arith, nat_tests), grind (arith, nat_tests))

earlier_before : (a b c d : ℕ) → a < c → earlier c d a b ≡ false
earlier_before a b c d h = grind (arith, nat_tests)

pub before_itself : (o : Order) (e : Extent) → before o e e ≡ false
before_itself Place e = earlier_itself e.at e.len
before_itself Size e = earlier_itself e.len e.at

one_way : (o : Order) (a b : Extent) → before o a b ≡ true → before o b a ≡ false
one_way Place a b h = earlier_one_way a.at a.len b.at b.len h
one_way Size a b h = earlier_one_way a.len a.at b.len b.at h

between : (o : Order) (a b e : Extent) → before o b a ≡ false → before o b e ≡ true → before o a e ≡ true
between Place a b e h k = earlier_between a.at a.len b.at b.len e.at e.len h k
between Size a b e h k = earlier_between a.len a.at b.len b.at e.len e.at h k

by_fields : (a b : Extent) → a.at ≡ b.at → a.len ≡ b.len → a ≡ b
by_fields a b p q =
    let one : ℕ → Extent = λ at. record { at = at; len = a.len } in
    let other : ℕ → Extent = λ len. record { at = b.at; len = len } in
    ap one p ∙ ap other q

ties : (o : Order) (a b : Extent) → before o a b ≡ false → before o b a ≡ false → a ≡ b
ties Place a b h k = let t = earlier_ties a.at a.len b.at b.len h k in by_fields a b t.0 t.1
ties Size a b h k = let t = earlier_ties a.len a.at b.len b.at h k in by_fields a b t.1 t.0

-- The one at i is counted.
pub member_at : (xs : List Extent) (i : ℕ) (d : Extent) → i < length xs → 0 < times (get_or xs i d) xs
unfolding times
member_at [] i d lt = absurd (omega arith)
member_at (x ∷ xs) zero d lt =
    let one : (if same_extent x x then 1 else 0) ≡ 1 = ap {B = ℕ} (λ b. if b then 1 else 0) (same_itself x) in
    omega (arith, one)
member_at (x ∷ xs) (suc i) d lt = omega (arith, member_at xs i d (omega arith))

pub times_here : (x : Extent) (xs : List Extent) → 0 < times x (x ∷ xs)
times_here x xs = member_at (x ∷ xs) 0 x (omega arith)

pub times_later : (y x : Extent) (xs : List Extent) → 0 < times y xs → 0 < times y (x ∷ xs)
unfolding times
times_later y x xs h = omega (arith, h)

-- What is counted among x and others is x, or one of the others.
pub member_cases : (y x : Extent) (n m : ℕ) → n ≡ (if same_extent y x then 1 else 0) + m → 0 < n → (y ≡ x) ⊎ (0 < m)
member_cases y x n m is some = ⊎_elim
    (λ (same : same_extent y x ≡ true). inl (same_is y x same))
    (λ (other : same_extent y x ≡ false).
    let none : (if same_extent y x then 1 else 0) ≡ 0 = ap {B = ℕ} (λ b. if b then 1 else 0) other in
    inr (omega (arith, none, is, some)))
    (cases_Bool (same_extent y x))

pub members : (y x : Extent) (xs : List Extent) → 0 < times y (x ∷ xs) → (y ≡ x) ⊎ (0 < times y xs)
unfolding times
members y x xs h = member_cases y x (times y (x ∷ xs)) (times y xs) refl h

module _ (o : Order) where
  pub tail_order : (x : Extent) (xs : List Extent) → AreInOrder o (x ∷ xs) → AreInOrder o xs
  tail_order x xs h = λ i j d lt within. h (suc i) (suc j) d (omega arith) (omega arith)

  pub head_first : (x : Extent) (xs : List Extent) → AreInOrder o (x ∷ xs) → (y : Extent) → 0 < times y xs → before o y x ≡ false
  head_first x xs h y some =
      let at = place_of y xs some in
      subst (λ z. before o z x ≡ false) at.2 (h 0 (suc at.0) y (omega arith) (omega (arith, at.1)))

  cons_at : (x : Extent) (xs : List Extent) → ((y : Extent) → 0 < times y xs → before o y x ≡ false) → AreInOrder o xs → (i j : ℕ) (d : Extent) → i < j → j < length (x ∷ xs) → before o (get_or (x ∷ xs) j d) (get_or (x ∷ xs) i d) ≡ false
  cons_at x xs first h i zero d lt within = absurd (omega arith)
  cons_at x xs first h zero (suc j) d lt within = first (get_or xs j d) (member_at xs j d (omega arith))
  cons_at x xs first h (suc i) (suc j) d lt within = h i j d (omega arith) (omega arith)

  pub order_cons : (x : Extent) (xs : List Extent) → ((y : Extent) → 0 < times y xs → before o y x ≡ false) → AreInOrder o xs → AreInOrder o (x ∷ xs)
  order_cons x xs first h = λ i j d lt within. cons_at x xs first h i j d lt within

  pub parted_by : (e : Extent) (xs : List Extent) → AreInOrder o xs → IsPartitionedBy (λ x. before o x e) xs
  parted_by e xs h = λ i j d le within here. ⊎_elim
      (λ (less : i < j). between o (get_or xs i d) (get_or xs j d) e (h i j d less within) here)
      (λ (more : j ≤ i). let same : j ≡ i = omega arith in subst (λ k. before o (get_or xs k d) e ≡ true) same here)
      (cases_lt i j)

  pub inserted_times : (e : Extent) (xs : List Extent) (i : ℕ) → i ≤ length xs → IsOneMore e xs (insert xs i e)
  unfolding times
  inserted_times e [] zero le y = refl
  inserted_times e [] (suc i) le y = absurd (omega arith)
  inserted_times e (x ∷ xs) zero le y = refl
  inserted_times e (x ∷ xs) (suc i) le y = omega (arith, inserted_times e xs i (omega arith) y)

  pub inserted_order : (e : Extent) (xs : List Extent) (i : ℕ) → AreInOrder o xs → i ≤ length xs → IsPartitionPoint (λ x. before o x e ≡ true) (λ x. before o x e ≡ false) xs i → AreInOrder o (insert xs i e)
  inserted_order e [] zero h le point = order_cons e [] (λ y some. absurd (omega (arith, (place_of y [] some).1))) h
  inserted_order e [] (suc i) h le point = absurd (omega arith)
  inserted_order e (x ∷ xs) zero h le point =
      order_cons e (x ∷ xs) (λ y some. let at = place_of y (x ∷ xs) some in subst (λ z. before o z e ≡ false) at.2 (point.1 at.0 y (omega arith) at.1)) h
  inserted_order e (x ∷ xs) (suc i) h le point =
      order_cons x (insert xs i e)
      (λ y some. ⊎_elim
      (λ (same : y ≡ e). subst (λ z. before o z x ≡ false) (sym same) (one_way o x e (point.0 0 e (omega arith) (omega arith))))
      (λ (old : 0 < times y xs). head_first x xs h y old)
      (member_cases y e (times y (insert xs i e)) (times y xs) (inserted_times e xs i (omega arith) y) some))
      (inserted_order e xs i (tail_order x xs h) (omega arith) (λ k d low high. point.0 (suc k) d (omega arith) (omega arith), λ k d low high. point.1 (suc k) d (omega arith) (omega arith)))

  pub removed_times : (e : Extent) (xs : List Extent) (i : ℕ) → i < length xs → get_or xs i e ≡ e → IsOneMore e (remove xs i) xs
  unfolding times
  removed_times e [] i lt is y = absurd (omega arith)
  removed_times e (x ∷ xs) zero lt is y = ap {B = ℕ} (λ z. (if same_extent y z then 1 else 0) + times y xs) is
  removed_times e (x ∷ xs) (suc i) lt is y = omega (arith, removed_times e xs i (omega arith) is y)

  -- If e is in the list, it stands where those before it end.
  pub found : (e : Extent) (xs : List Extent) (i : ℕ) → AreInOrder o xs → 0 < times e xs → IsPartitionPoint (λ x. before o x e ≡ true) (λ x. before o x e ≡ false) xs i → (i < length xs) × (get_or xs i e ≡ e)
  found e xs i h some point =
      let at = place_of e xs some in
      let here : before o (get_or xs at.0 e) e ≡ false = subst (λ z. before o z e ≡ false) (sym at.2) (before_itself o e) in
      let low : i ≤ at.0 = ⊎_elim
      (λ (less : at.0 < i). absurd (true≢false (sym (point.0 at.0 e (omega arith) less) ∙ here)))
      (λ (more : i ≤ at.0). more)
      (cases_lt at.0 i) in
      let within : i < length xs = omega (arith, low, at.1) in (
        within,
        ⊎_elim
            (λ (less : i < at.0). ties o (get_or xs i e) e (point.1 i e (omega arith) within) (subst (λ z. before o z (get_or xs i e) ≡ false) at.2 (h i at.0 e less at.1)))
            (λ (more : at.0 ≤ i). let same : i ≡ at.0 = omega (arith, low) in ap (λ k. get_or xs k e) same ∙ at.2)
            (cases_lt i at.0),
      )

  -- Lists in one order that count each extent alike are one.
  pub sorted_same : (xs ys : List Extent) → AreInOrder o xs → AreInOrder o ys → ((e : Extent) → times e xs ≡ times e ys) → xs ≡ ys
  unfolding times
  sorted_same [] [] h k same = refl
  sorted_same [] (y ∷ ys) h k same = absurd (omega (arith, times_here y ys, same y))
  sorted_same (x ∷ xs) [] h k same = absurd (omega (arith, times_here x xs, same x))
  sorted_same (x ∷ xs) (y ∷ ys) h k same =
      let first : x ≡ y = ⊎_elim
      (λ (is : x ≡ y). is)
      (λ (later : 0 < times x ys). ⊎_elim
      (λ (is : y ≡ x). sym is)
      (λ (behind : 0 < times y xs). ties o x y (head_first y ys k x later) (head_first x xs h y behind))
      (members y x xs (omega (arith, times_here y ys, same y))))
      (members x y ys (omega (arith, times_here x xs, same x))) in
      let rest : xs ≡ ys = sorted_same xs ys (tail_order x xs h) (tail_order y ys k)
      (λ e. let head = ap {B = ℕ} (λ z. if same_extent e z then 1 else 0) first in omega (arith, same e, head)) in
      ap (λ z. z ∷ xs) first ∙ ap (λ zs. y ∷ zs) rest

-- Extents laid out are in the order of their places.
pub laid_out_sorted : (from to : ℕ) (es : List Extent) → AreLaidOut from to es → AreInOrder Place es
laid_out_sorted from to es h = λ i j d lt within.
    let a = get_or es i d in
    let b = get_or es j d in
    earlier_before a.at a.len b.at b.len (omega (arith, laid_out_order from to es i j d h lt within, laid_out_at from to es i d h (omega arith)))
