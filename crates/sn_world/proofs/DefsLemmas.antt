-- Values that are kept by their names.
use Rattle.std.proofs.Common.{◌≡◌, ◌+◌, length, arith, ℕ, Bool, true, false, cond, not, is_some, List, [], ◌∷◌, map, Option, Some, None, refl, ap, sym, ◌∙◌}
use Rattle.std.specs.Option.{option_map, option_copied}
use Rattle.std.specs.Ordering.{nat_cmp, eq_by_cmp, is_eq, match_ordering}
use Rattle.std.specs.declared.cmp.Ordering.{Ordering}
use Rattle.std.specs.declared.cmp.Ordering.TheVariants.{Less, Equal, Greater}
use Rattle.std.specs.Cmp.Lexicographic.{slice_cmp, nat_list_cmp_total}
use Rattle.std.specs.Cmp.{tied_back, tied_itself}
use Rattle.std.specs.Borrow.{Bor}
use Rattle.std.specs.BTreeMap.{insert_entry, is_at}
use Rattle.std.specs.Map.{lookup, remove_entry}
use Rattle.std.specs.List.{AllByRecursion}
use Rattle.std.specs.List.Sorted.{IsStrictlySortedBy}
use Rattle.std.specs.FinMap.{FinMap, find, insert, remove, len, len-empty, len-insert, from_entries, get, same_map, get-from_entries, get-insert, get-remove, slice_cmp-IsAntisymmetric, nat_cmp-IsAntisymmetric}

pub of_copied : {X Y : Type 0} (f : X → Y) (r : Option (Bor X)) → option_map (λ a. f a.now) r ≡ option_map f (option_copied r)
of_copied f None = refl
of_copied f (Some a) = refl

pub is_some-map : {X Y : Type 0} (f : X → Y) (o : Option X) → is_some (option_map f o) ≡ is_some o
is_some-map f None = refl
is_some-map f (Some x) = refl

pub turned_round : (a b : Bool) → a ≡ not b → b ≡ not a
turned_round a true h = ap not (sym h)
turned_round a false h = ap not (sym h)

-- names are ordered as their bytes are
abbrev pub by_bytes : List ℕ → List ℕ → Ordering
by_bytes = slice_cmp nat_cmp

same_name : (x y : List ℕ) → by_bytes x y ≡ Equal → x ≡ y
same_name = slice_cmp-IsAntisymmetric nat_cmp-IsAntisymmetric

shadowed : {A : Type 0} (b : Bool) (x y z : A) → cond b x z ≡ cond b x (cond b y z)
shadowed true x y z = refl
shadowed false x y z = refl

equal : (r : Ordering) → is_eq r ≡ true → r ≡ Equal
equal Less p = absurd cc
equal Equal p = refl
equal Greater p = absurd cc

not_equal : (r : Ordering) → (r ≡ Equal → ⊥) → is_eq r ≡ false
not_equal Less h = refl
not_equal Equal h = absurd (h refl)
not_equal Greater h = refl

-- of two tests at most one holds, or both are of one name
swapped : {A : Type 0} (q k e : List ℕ) (x y z : A) → by_bytes k e ≡ Greater → cond (eq_by_cmp by_bytes q e) x (cond (eq_by_cmp by_bytes q k) y z) ≡ cond (eq_by_cmp by_bytes q k) y (cond (eq_by_cmp by_bytes q e) x z)
swapped {A} q k e x y z greater = at (eq_by_cmp by_bytes q e) refl (eq_by_cmp by_bytes q k) refl
  where
    at : (a : Bool) → eq_by_cmp by_bytes q e ≡ a → (b : Bool) → eq_by_cmp by_bytes q k ≡ b → ◌≡◌ {A = A} (cond a x (cond b y z)) (cond b y (cond a x z))
    at true p true r =
        let qe : q ≡ e = same_name q e (equal (by_bytes q e) p) in
        let qk : q ≡ k = same_name q k (equal (by_bytes q k) r) in
        let back : by_bytes k e ≡ by_bytes q e = ap (λ t. by_bytes t e) (sym qk) in
        let tied : by_bytes k e ≡ Equal = back ∙ equal (by_bytes q e) p in
        absurd cc
    at true p false r = refl
    at false p true r = refl
    at false p false r = refl

module _ {K X Y : Type 0} (name : K → List ℕ) (f : X → Y) where
  abbrev pub named_entry : K × X → List ℕ × Y
  named_entry e = (name e.0, f e.1)

  pub found : (q : List ℕ) (es : List (K × X)) → option_map f (lookup (is_at (λ k. by_bytes q (name k))) es) ≡ find by_bytes q (map named_entry es)
  found q [] = refl
  found q (e ∷ es) = at (is_eq (by_bytes q (name e.0))) (found q es)
    where
      at : (b : Bool) → option_map f (lookup (is_at (λ k. by_bytes q (name k))) es) ≡ find by_bytes q (map named_entry es) → option_map f (cond b (Some e.1) (lookup (is_at (λ k. by_bytes q (name k))) es)) ≡ cond b (Some (f e.1)) (find by_bytes q (map named_entry es))
      at true ih = refl
      at false ih = ih

  abbrev key_of : K × X → K
  key_of e = e.0

  abbrev by_name : K → K → Ordering
  by_name x y = by_bytes (name x) (name y)

  found_after : (q : List ℕ) (k : K) (v : X) (es : List (K × X)) → find by_bytes q (map named_entry (insert_entry by_name es k v)) ≡ cond (eq_by_cmp by_bytes q (name k)) (Some (f v)) (find by_bytes q (map named_entry es))
  found_after q k v [] = refl
  found_after q k v (e ∷ es) = at (by_bytes (name k) (name e.0)) refl (found_after q k v es)
    where
      at : (r : Ordering) → by_bytes (name k) (name e.0) ≡ r → find by_bytes q (map named_entry (insert_entry by_name es k v)) ≡ cond (eq_by_cmp by_bytes q (name k)) (Some (f v)) (find by_bytes q (map named_entry es))
          → find by_bytes q (map named_entry (match_ordering r ((k, v) ∷ e ∷ es) ((e.0, v) ∷ es) (e ∷ insert_entry by_name es k v))) ≡ cond (eq_by_cmp by_bytes q (name k)) (Some (f v)) (cond (eq_by_cmp by_bytes q (name e.0)) (Some (f e.1)) (find by_bytes q (map named_entry es)))
      at Less p ih = refl
      at Equal p ih =
          shadowed (eq_by_cmp by_bytes q (name e.0)) (Some (f v)) (Some (f e.1)) (find by_bytes q (map named_entry es))
          ∙ ap (λ n. cond (eq_by_cmp by_bytes q n) (Some (f v)) (cond (eq_by_cmp by_bytes q (name e.0)) (Some (f e.1)) (find by_bytes q (map named_entry es)))) (sym (same_name (name k) (name e.0) p))
      at Greater p ih =
          ap (cond (eq_by_cmp by_bytes q (name e.0)) (Some (f e.1))) ih
          ∙ swapped q (name k) (name e.0) (Some (f e.1)) (Some (f v)) (find by_bytes q (map named_entry es)) p

  pub got : (q : List ℕ) (es : List (K × X)) → option_map f (lookup (is_at (λ k. by_bytes q (name k))) es) ≡ get (from_entries {R = by_bytes} (map named_entry es)) q
  got q es = found q es ∙ sym (get-from_entries nat_list_cmp_total (map named_entry es) q)

  pub inserted : (k : K) (v : X) (es : List (K × X)) → from_entries {R = by_bytes} (map named_entry (insert_entry by_name es k v)) ≡ insert (from_entries (map named_entry es)) (name k) (f v)
  inserted k v es = same_map nat_list_cmp_total (slice_cmp-IsAntisymmetric nat_cmp-IsAntisymmetric) _ _ (λ q.
      get-from_entries nat_list_cmp_total (map named_entry (insert_entry by_name es k v)) q
      ∙ found_after q k v es
      ∙ sym (get-insert nat_list_cmp_total (from_entries (map named_entry es)) (name k) (f v) q ∙ ap (cond (eq_by_cmp by_bytes q (name k)) (Some (f v))) (get-from_entries nat_list_cmp_total (map named_entry es) q)))

  -- ---- if no name is there twice

  abbrev above : K → List (K × X) → Type 0
  above k es = AllByRecursion (λ y. by_name k y ≡ Less) (map key_of es)

  missing_below : (q : List ℕ) (k : K) (es : List (K × X)) → by_bytes q (name k) ≡ Equal → above k es → find by_bytes q (map named_entry es) ≡ None
  missing_below q k [] same all = refl
  missing_below q k (e ∷ es) same all =
      let less : by_bytes q (name e.0) ≡ Less = nat_list_cmp_total.congr q (name k) (name e.0) same ∙ all.0 in
      ap (λ r. cond (is_eq r) (Some (f e.1)) (find by_bytes q (map named_entry es))) less ∙ missing_below q k es same all.1

  found_without : (q : List ℕ) (k : List ℕ) (es : List (K × X)) → IsStrictlySortedBy by_name (map key_of es)
      → find by_bytes q (map named_entry (remove_entry (is_at (λ x. by_bytes k (name x))) es)) ≡ cond (eq_by_cmp by_bytes q k) None (find by_bytes q (map named_entry es))
  unfolding IsStrictlySortedBy
  found_without q k [] sorted = at (eq_by_cmp by_bytes q k)
    where
      at : (b : Bool) → ◌≡◌ {A = Option Y} None (cond b None None)
      at true = refl
      at false = refl
  found_without q k (e ∷ es) sorted = at (by_bytes k (name e.0)) refl (eq_by_cmp by_bytes q k) refl (found_without q k es sorted.1)
    where
      kept : (r : Ordering) → by_bytes k (name e.0) ≡ r → (b : Bool) → eq_by_cmp by_bytes q k ≡ b
          → find by_bytes q (map named_entry (remove_entry (is_at (λ x. by_bytes k (name x))) es)) ≡ cond b None (find by_bytes q (map named_entry es))
          → (r ≡ Equal → ⊥)
          → cond (eq_by_cmp by_bytes q (name e.0)) (Some (f e.1)) (find by_bytes q (map named_entry (remove_entry (is_at (λ x. by_bytes k (name x))) es))) ≡ cond b None (cond (eq_by_cmp by_bytes q (name e.0)) (Some (f e.1)) (find by_bytes q (map named_entry es)))
      kept r p true h ih other =
          let none : eq_by_cmp by_bytes q (name e.0) ≡ false = not_equal (by_bytes q (name e.0)) (λ t. other (sym p ∙ nat_list_cmp_total.congr k q (name e.0) (tied_back nat_list_cmp_total q k (equal (by_bytes q k) h)) ∙ t)) in
          ap (λ b. cond b (Some (f e.1)) (find by_bytes q (map named_entry (remove_entry (is_at (λ x. by_bytes k (name x))) es)))) none ∙ ih
      kept r p false h ih other = ap (cond (eq_by_cmp by_bytes q (name e.0)) (Some (f e.1))) ih

      at : (r : Ordering) → by_bytes k (name e.0) ≡ r → (b : Bool) → eq_by_cmp by_bytes q k ≡ b
          → find by_bytes q (map named_entry (remove_entry (is_at (λ x. by_bytes k (name x))) es)) ≡ cond b None (find by_bytes q (map named_entry es))
          → find by_bytes q (map named_entry (cond (is_eq r) es (e ∷ remove_entry (is_at (λ x. by_bytes k (name x))) es))) ≡ cond b None (cond (eq_by_cmp by_bytes q (name e.0)) (Some (f e.1)) (find by_bytes q (map named_entry es)))
      at Less p b h ih = kept Less p b h ih (λ t. absurd cc)
      at Greater p b h ih = kept Greater p b h ih (λ t. absurd cc)
      at Equal p true h ih =
          let same : by_bytes q (name e.0) ≡ Equal = nat_list_cmp_total.congr q k (name e.0) (equal (by_bytes q k) h) ∙ p in
          missing_below q e.0 es same sorted.0
      at Equal p false h ih =
          let is : k ≡ name e.0 = same_name k (name e.0) p in
          let other : eq_by_cmp by_bytes q (name e.0) ≡ false = ap (eq_by_cmp by_bytes q) (sym is) ∙ h in
          sym (ap (λ b. cond b (Some (f e.1)) (find by_bytes q (map named_entry es))) other)

  pub removed : (k : List ℕ) (es : List (K × X)) → IsStrictlySortedBy by_name (map key_of es) → from_entries {R = by_bytes} (map named_entry (remove_entry (is_at (λ x. by_bytes k (name x))) es)) ≡ remove (from_entries (map named_entry es)) k
  removed k es sorted = same_map nat_list_cmp_total (slice_cmp-IsAntisymmetric nat_cmp-IsAntisymmetric) _ _ (λ q.
      get-from_entries nat_list_cmp_total (map named_entry (remove_entry (is_at (λ x. by_bytes k (name x))) es)) q
      ∙ found_without q k es sorted
      ∙ sym (get-remove nat_list_cmp_total (from_entries (map named_entry es)) k q ∙ ap (cond (eq_by_cmp by_bytes q k) None) (get-from_entries nat_list_cmp_total (map named_entry es) q)))

  pub counted : (es : List (K × X)) → IsStrictlySortedBy by_name (map key_of es) → len (from_entries {R = by_bytes} (map named_entry es)) ≡ length es
  unfolding IsStrictlySortedBy
  counted [] sorted = len-empty by_bytes Y
  counted (e ∷ es) sorted =
      let rest : FinMap by_bytes Y = from_entries (map named_entry es) in
      let new : get rest (name e.0) ≡ None = get-from_entries nat_list_cmp_total (map named_entry es) (name e.0) ∙ missing_below (name e.0) e.0 es (tied_itself nat_list_cmp_total (name e.0)) sorted.0 in
      len-insert nat_list_cmp_total rest (name e.0) (f e.1) ∙ ap (λ o. cond (is_some o) (len rest) (len rest + 1)) new ∙ omega (arith, counted es sorted.1)
