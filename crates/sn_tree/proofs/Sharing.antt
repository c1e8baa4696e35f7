-- Whether nodes have ids of others, by sorted ids.
use Rattle.std.proofs.Common.{◌≡◌, ℕ, ◌≤◌, ◌<◌, ℤ, pos, ◌<ℤ◌, Bool, true, false, List, length, get_or, sym, ap, ◌∙◌, subst, ⊎_elim, arith}
use Rattle.std.specs.Prelude.{Result, Ok, Err, is_ok, IsSorted}
use Rattle.std.specs.List.{list_any}
use Rattle.std.specs.List.Sorted.{IsBinarySearchResult, IsSearchInRange}
use Rattle.std.specs.Ordering.{MatchOrdering, int_cmp, int_eq}
use Rattle.std.proofs.lemmas.Bool.{cases_lt, false_from_ne_true}
use Rattle.std.proofs.lemmas.Bool.Decides.{Decides-int_eq}
use Rattle.std.proofs.lemmas.List.Sorted.{searchable_from_sorted}
use Rattle.std.specs.Cmp.{int_cmp_total, int_ranks}
use Rattle.std.proofs.lemmas.List.Folds.{list_any_at, list_any_none}
use Rattle.std.proofs.lemmas.Cmp.{tied_itself}
use Rattle.std.specs.declared.cmp.Ordering.{Ordering}
use Rattle.std.specs.declared.cmp.Ordering.TheVariants.{Less, Equal, Greater}

equal_is : (x y : ℤ) → int_cmp x y ≡ Equal → int_eq x y ≡ true
equal_is x y e = (Decides-int_eq x y).1 (subst (λ o. MatchOrdering o (x <ℤ y) (x ≡ y) (y <ℤ x)) e (int_ranks x y))

itself : (x : ℤ) → int_cmp x x ≡ Equal
itself x = tied_itself int_cmp_total x

unequal_is : (x y : ℤ) (o : Ordering) → int_cmp x y ≡ o → (o ≡ Equal → ⊥) → int_eq x y ≡ false
unequal_is x y o e h = false_from_ne_true (int_eq x y) (λ n.
    let same : x ≡ y = (Decides-int_eq x y).0 n in
    h (sym e ∙ (ap (λ z. int_cmp z y) same ∙ itself y)))

less_not : Less ≡ Equal → ⊥
less_not e = cc

greater_not : Greater ≡ Equal → ⊥
greater_not e = cc

pub among : (id : ℤ) (xs : List ℤ) (r : Result ℕ ℕ) (b : Bool) → IsSorted int_cmp xs → IsSearchInRange r (length xs) → IsBinarySearchResult (λ y. int_cmp y id) xs r → b ≡ is_ok r → b ≡ list_any (λ (x : ℤ). int_eq x id) xs
among id xs (Ok i) b s l f e = e ∙ sym (list_any_at (λ (x : ℤ). int_eq x id) xs i (pos 0) l (equal_is (get_or xs i (pos 0)) id (f (pos 0))))
among id xs (Err i) b s l f e =
    let split = f (searchable_from_sorted int_cmp_total (λ x. x) xs id s) in
    e ∙ sym (list_any_none (λ (x : ℤ). int_eq x id) xs (λ k d h. ⊎_elim
    (λ (before : k < i). unequal_is (get_or xs k d) id Less (split.0 k d (omega arith) before) less_not)
    (λ (behind : i ≤ k). unequal_is (get_or xs k d) id Greater (split.1 k d behind h) greater_not)
    (cases_lt k i)))
