-- What a search finds among pairs that rise, and what an edit at that place does.
use Rattle.std.proofs.Common.{◌≡◌, ◌⊎◌, inl, inr, ℕ, ◌+◌, ◌-◌, ◌<◌, ◌≤◌, ℤ, true, false, length, get_or, Option, Some, None, is_some, Result, Ok, Err, IfOk, IfErr, sym, ap, subst, ◌∙◌, ⊎_elim, arith}
use Rattle.std.specs.Prelude.{pos, ◌<ℤ◌, if◌then◌else◌}
use Rattle.std.specs.List.{insert, remove}
use Rattle.std.specs.List.Sorted.{IsSearchInRange, IsBinarySearchResult}
use Rattle.std.specs.Ordering.{MatchOrdering, int_cmp, int_eq, ordering_index}
use Rattle.std.proofs.lemmas.Bool.{cases_lt, cases_Bool}
use Rattle.std.proofs.lemmas.Bool.Decides.{Decides-int_eq}
use Rattle.std.specs.declared.cmp.Ordering.{Ordering}
use Rattle.std.specs.declared.cmp.Ordering.TheVariants.{Less, Equal, Greater}
use Rattle.std.specs.Cmp.{int_ranks}
use Rattle.std.proofs.lemmas.Cmp.{int_ranked}
use Rattle.std.proofs.lemmas.Int.{ints}
use Rattle.std.proofs.lemmas.List.Sorted.{IsNonDecreasingBy-from_default}
use Rattle.std.proofs.lemmas.List.Edits.{length-insert, length-remove, get_or-insert_below, get_or-insert_at, get_or-insert_above}
use Rattle.sn_ids.specs.Pairs.{Pairs, key_for, id_at, IsAt, IsRising, IsGapFor}
use Rattle.sn_ids.proofs.Pairs.{NoneBefore, NoneBehind, absent, present, found-insert, found-remove}

module _ (l : Pairs) (rising : IsRising l) (id : ℤ) (at : ℕ) (is_at : IsAt l id at) where
  none_before : NoneBefore l id at
  none_before j lt same = absurd (omega (arith, ints, rising j at lt is_at.in_range, is_at.has_id, same))

  none_behind : NoneBehind l id at
  none_behind j lt within same = absurd (omega (arith, ints, rising at j lt within, is_at.has_id, same))

  pub key_at_place : key_for id l ≡ Some (get_or l at (pos 0, 0)).1
  key_at_place = present l id at is_at none_before

  pub found_removed : (q : ℤ) → key_for q (remove l at) ≡ (if int_eq id q then None else key_for q l)
  found_removed q = found-remove id l at is_at none_before none_behind q

none_some : (k : ℕ) → None ≡ Some k → ⊥
none_some k e = cc

pub not_both : (l : Pairs) → IsRising l → (id : ℤ) (at : ℕ) → IsAt l id at → key_for id l ≡ None → ⊥
not_both l rising id at is_at e = none_some (get_or l at (pos 0, 0)).1 (sym e ∙ key_at_place l rising id at is_at)

pub removed_long : (l : Pairs) → IsRising l → (id : ℤ) (at : ℕ) → IsAt l id at → (new : Pairs) → new ≡ remove l at → length new + (if is_some (key_for id l) then 1 else 0) ≡ length l
removed_long l rising id at is_at new e =
    let here : ◌≡◌ {A = ℕ} (if is_some (key_for id l) then 1 else 0) 1 = ap (λ (o : Option ℕ). if is_some o then 1 else 0) (key_at_place l rising id at is_at) in
    omega (arith, here, ap (λ (x : Pairs). length x) e, length-remove l at is_at.in_range)

module _ (l : Pairs) (id : ℤ) (at : ℕ) (gap : IsGapFor l id at) where
  pub key_in_gap : key_for id l ≡ None
  key_in_gap = absent l id (λ j lt same. ⊎_elim
      (λ (b : j < at). absurd (omega (arith, ints, gap.smaller_before j b, same)))
      (λ (b : at ≤ j). absurd (omega (arith, ints, gap.greater_after j b lt, same)))
      (cases_lt j at))

  pub found_inserted : (key : ℕ) (q : ℤ) → key_for q (insert l at (id, key)) ≡ (if int_eq id q then Some key else key_for q l)
  found_inserted key q = found-insert id key l at (λ j lt same. absurd (omega (arith, ints, gap.smaller_before j lt, same))) gap.in_range q

le_or_lt : (m n : ℕ) → (m ≤ n) ⊎ (n < m)
le_or_lt m n = ⊎_elim (λ (h : n < m). inr h) (λ (h : m ≤ n). inl h) (cases_lt n m)

-- of two rising ids the smaller one comes no later against a third
index_rises : (a b id : ℤ) → a <ℤ b → ordering_index (int_cmp a id) ≤ ordering_index (int_cmp b id)
index_rises a b id h = by_cases (int_cmp a id) (int_cmp b id) (int_ranks a id) (int_ranks b id)
  where
    by_cases : (x y : Ordering) → MatchOrdering x (a <ℤ id) (a ≡ id) (id <ℤ a) → MatchOrdering y (b <ℤ id) (b ≡ id) (id <ℤ b) → ordering_index x ≤ ordering_index y
    by_cases Less y p q = omega arith
    by_cases Equal Less p q = absurd (omega (arith, ints, h, p, q))
    by_cases Equal Equal p q = omega arith
    by_cases Equal Greater p q = omega arith
    by_cases Greater Less p q = absurd (omega (arith, ints, h, p, q))
    by_cases Greater Equal p q = absurd (omega (arith, ints, h, p, q))
    by_cases Greater Greater p q = omega arith

lower : {a b c d : ℤ} → c ≡ a → d ≡ b → a <ℤ b → c <ℤ d
lower {a} {b} {c} {d} e f h = subst (λ x. x <ℤ d) (sym e) (subst (λ x. a <ℤ x) (sym f) h)

module _ (l : Pairs) (id : ℤ) (key at : ℕ) (gap : IsGapFor l id at) (rising : IsRising l) where
  abbrev new : Pairs
  new = insert l at (id, key)

  under_gap : (i : ℕ) → i < at → id_at new i ≡ id_at l i
  under_gap i h = ap (λ (x : ℤ × ℕ). x.0) (get_or-insert_below l at (id, key) (pos 0, 0) i h gap.in_range)

  in_gap : id_at new at ≡ id
  in_gap = ap (λ (x : ℤ × ℕ). x.0) (get_or-insert_at l at (id, key) (pos 0, 0) gap.in_range)

  over_gap : (i : ℕ) → at ≤ i → id_at new (i + 1) ≡ id_at l i
  over_gap i h = ap (λ (x : ℤ × ℕ). x.0) (get_or-insert_above l at (id, key) (pos 0, 0) i h gap.in_range)

  still_rises : (i j : ℕ) → i < j → j < length new → id_at new i <ℤ id_at new j
  still_rises i j h w =
      let long : length new ≡ length l + 1 = length-insert l at (id, key) gap.in_range in
      ⊎_elim
      (λ (b : j < at). lower (under_gap i (omega arith)) (under_gap j b) (rising i j h (omega (arith, gap.in_range))))
      (λ (n : at ≤ j).
      ⊎_elim
      (λ (c : j ≤ at).
      let here : j ≡ at = omega arith in
      lower (under_gap i (omega arith)) (ap (id_at new) here ∙ in_gap) (gap.smaller_before i (omega arith)))
      (λ (c : at < j).
      let above : id_at new j ≡ id_at l (j - 1) = (let e : j ≡ j - 1 + 1 = omega arith in ap (id_at new) e ∙ over_gap (j - 1) (omega arith)) in
      ⊎_elim
      (λ (d : i < at). lower (under_gap i d) above (rising i (j - 1) (omega arith) (omega (arith, long))))
      (λ (d : at ≤ i).
      ⊎_elim
      (λ (f : i ≤ at).
      let here : i ≡ at = omega arith in
      lower (ap (id_at new) here ∙ in_gap) above (gap.greater_after (j - 1) (omega arith) (omega (arith, long))))
      (λ (f : at < i).
      let up : id_at new i ≡ id_at l (i - 1) = (let e : i ≡ i - 1 + 1 = omega arith in ap (id_at new) e ∙ over_gap (i - 1) (omega arith)) in
      lower up above (rising (i - 1) (j - 1) (omega arith) (omega (arith, long))))
      (le_or_lt i at))
      (cases_lt i at))
      (le_or_lt j at))
      (cases_lt j at)

pub rising_inserted : (l out : Pairs) (id : ℤ) (key at : ℕ) → IsGapFor l id at → IsRising l → out ≡ insert l at (id, key) → IsRising out
rising_inserted l out id key at gap rising e = subst (λ x. IsRising x) (sym e) (still_rises l id key at gap rising)

module _ (l : Pairs) (rising : IsRising l) (id : ℤ) where
  sorted_pairs : (i j : ℕ) → i ≤ j → j < length l → ordering_index (int_cmp (id_at l i) id) ≤ ordering_index (int_cmp (id_at l j) id)
  sorted_pairs i j le within =
      ⊎_elim
      (λ (h : i < j). index_rises (id_at l i) (id_at l j) id (rising i j h within))
      (λ (h : j ≤ i). let e : i ≡ j = omega arith in omega (arith, ap (λ x. ordering_index (int_cmp (id_at l x) id)) e))
      (cases_lt i j)

  pub searched : (r : Result ℕ ℕ) → IsSearchInRange r (length l) → IsBinarySearchResult (λ pair. int_cmp pair.0 id) l r → record { found : IfOk r (IsAt l id); absent : IfErr r (IsGapFor l id) }
  searched (Ok at) in_range equal = record { found = record { in_range = in_range; has_id = int_ranked (id_at l at) id _ (sym (equal (pos 0, 0))) }; absent = tt }
  searched (Err at) in_range parted = record {
    found = tt;
    absent = record {
      in_range = in_range;
      smaller_before = λ j lt. int_ranked (id_at l j) id _ (sym ((parted (IsNonDecreasingBy-from_default (λ pair. ordering_index (int_cmp pair.0 id)) l (pos 0, 0) sorted_pairs)).0 j (pos 0, 0) (omega arith) lt));
      greater_after = λ j le lt. int_ranked (id_at l j) id _ (sym ((parted (IsNonDecreasingBy-from_default (λ pair. ordering_index (int_cmp pair.0 id)) l (pos 0, 0) sorted_pairs)).1 j (pos 0, 0) le lt));
    };
  }

-- an id that isn't there is taken away
pub kept_out : (l : Pairs) (id : ℤ) (at : ℕ) → IsGapFor l id at → (other : ℤ) → key_for other l ≡ (if int_eq id other then None else key_for other l)
kept_out l id at gap other =
    ⊎_elim
    (λ (e : int_eq id other ≡ true).
    ap (λ x. key_for x l) (sym ((Decides-int_eq id other).0 e)) ∙ (key_in_gap l id at gap ∙ sym (ap (λ b. if b then None else key_for other l) e)))
    (λ (e : int_eq id other ≡ false). sym (ap (λ b. if b then None else key_for other l) e))
    (cases_Bool (int_eq id other))

pub kept_long : (l : Pairs) (id : ℤ) (at : ℕ) → IsGapFor l id at → length l + (if is_some (key_for id l) then 1 else 0) ≡ length l
kept_long l id at gap =
    let none_here : ◌≡◌ {A = ℕ} (if is_some (key_for id l) then 1 else 0) 0 = ap (λ (o : Option ℕ). if is_some o then 1 else 0) (key_in_gap l id at gap) in
    omega (arith, none_here)
