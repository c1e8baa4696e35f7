-- Slots that stand for trees are followed back to these trees.
use Rattle.std.proofs.Common.{◌≡◌, ℕ, zero, suc, ◌≤◌, List, Option, Some, None, is_some, count_by, sym, refl, ap, ◌∙◌, subst, arith}
use Rattle.sn_forest.specs.declared.slot.Slot.{Slot}
use Rattle.sn_forest.specs.Trees.{Trees, none, tree, count, first_key}
use Rattle.sn_forest.specs.Linked.{Linked, grown, trees_from, trees_of, IsForest}

module _ {T : Type 0} where
  pub grows : (n : ℕ) (slots : List (Option (Slot T))) (parent previous : Option ℕ) (t : Trees T) → Linked slots parent previous t → count t ≤ n → trees_from n slots (first_key t) ≡ t
  grows zero slots parent previous none h l = refl
  grows (suc n) slots parent previous none h l = refl
  grows zero slots parent previous (tree key value below after) h l = absurd (omega arith)
  grows (suc n) slots parent previous (tree key value below after) h l =
      let b : trees_from n slots (first_key below) ≡ below = grows n slots (Some key) None below h.1 (omega arith) in
      let a : trees_from n slots (first_key after) ≡ after = grows n slots parent (Some key) after h.2 (omega arith) in
      ap (λ s. grown key s (λ next. trees_from n slots next)) h.0 ∙ (λ i. tree key value (b i) (a i))

  pub forest_is : (slots : List (Option (Slot T))) (root : ℕ) (end : Option ℕ) (t : Trees T) → IsForest slots root end t → trees_of slots root ≡ t
  forest_is slots root end t h =
      ap (trees_from (count_by is_some slots) slots) (sym h.begins) ∙ grows (count_by is_some slots) slots None None t h.linked (omega (arith, h.full))

  -- what the slots stand for is what they show
  pub forest_sound : (slots : List (Option (Slot T))) (root : ℕ) (end : Option ℕ) (t : Trees T) → IsForest slots root end t → IsForest slots root end (trees_of slots root)
  forest_sound slots root end t h = subst (λ x. IsForest slots root end x) (sym (forest_is slots root end t h)) h
