-- After nodes are linked again there are as many slots, under the same keys.
use Rattle.std.proofs.Common.{◌≡◌, ℕ, ◌<◌, ◌≤◌, List, length, Option, Some, None, is_some, cond, count_by, sym, refl, ap, ◌∙◌, ⊎_elim, arith}
use Rattle.std.specs.Prelude.{if◌then◌else◌}
use Rattle.std.specs.Option.{option_map}
use Rattle.std.proofs.lemmas.Bool.{cases_eq}
use Rattle.std.proofs.lemmas.List.{set_past}
use Rattle.std.proofs.lemmas.List.Sums.{sum_by-set}
use Rattle.slab.specs.Slab.{Slab}
use Rattle.sn_forest.specs.declared.slot.Slot.{Slot}
use Rattle.sn_forest.specs.declared.links.Link.TheVariants.{Previous, Next, First, Last}
use Rattle.sn_forest.specs.Links.{slot_at, changed_at, relinked, forward, backward}
use Rattle.sn_forest.specs.Linked.{held}
use Rattle.sn_forest.proofs.Keys.{lt_or_le}
use Rattle.sn_forest.proofs.Frames.{at_changed, at_apart}

module _ {T : Type 0} where
  still_some : (change : Slot T → Slot T) (o : Option (Slot T)) → is_some (option_map change o) ≡ is_some o
  still_some change None = refl
  still_some change (Some s) = refl

  -- as many slots are taken, under the same keys
  pub record SameKeys (old new : List (Option (Slot T))) : Type 0 where
    pub keys : (key : ℕ) → held new key ≡ held old key
    pub number : count_by is_some new ≡ count_by is_some old

  pub same_keys : (s : List (Option (Slot T))) → SameKeys s s
  same_keys s = record { keys = λ key. refl; number = refl }

  pub same_after : {r s t : List (Option (Slot T))} → SameKeys r s → SameKeys s t → SameKeys r t
  same_after a b = record { keys = λ key. b.keys key ∙ a.keys key; number = b.number ∙ a.number }

  held_changed : (slots : List (Option (Slot T))) (key : ℕ) (change : Slot T → Slot T) (j : ℕ) → held (changed_at key change slots) j ≡ held slots j
  held_changed slots key change j =
      ⊎_elim
      (λ (e : j ≡ key). ap (held (changed_at key change slots)) e
      ∙ (ap (λ o. if is_some o then 1 else 0) (at_changed slots key change)
      ∙ (ap (λ b. if b then 1 else 0) (still_some change (slot_at slots key)) ∙ ap (held slots) (sym e))))
      (λ n. ap (λ o. if is_some o then 1 else 0) (at_apart slots key change j n))
      (cases_eq j key)

  number_changed : (slots : List (Option (Slot T))) (key : ℕ) (change : Slot T → Slot T) → count_by is_some (changed_at key change slots) ≡ count_by is_some slots
  number_changed slots key change =
      ⊎_elim
      (λ (h : key < length slots).
      let one : ◌≡◌ {A = ℕ} (cond (is_some (option_map change (slot_at slots key))) 1 0) (cond (is_some (slot_at slots key)) 1 0) = ap (λ b. cond b 1 0) (still_some change (slot_at slots key)) in
      omega (arith, one, sum_by-set (λ o. cond (is_some o) 1 0) slots key (option_map change (slot_at slots key)) None h))
      (λ (h : length slots ≤ key). ap (count_by is_some) (set_past slots key (option_map change (slot_at slots key)) h))
      (lt_or_le key (length slots))

  pub same_changed : (slots : List (Option (Slot T))) (key : ℕ) (change : Slot T → Slot T) → SameKeys slots (changed_at key change slots)
  same_changed slots key change = record { keys = held_changed slots key change; number = number_changed slots key change }

  pub same_forward : (parent previous to : Option ℕ) (s : Slab (Slot T)) → SameKeys s.slots (forward parent previous to s).slots
  same_forward parent (Some previous) to s = same_changed s.slots previous (relinked Next to)
  same_forward (Some parent) None to s = same_changed s.slots parent (relinked First to)
  same_forward None None to s = same_keys s.slots

  pub same_backward : (parent next to : Option ℕ) (s : Slab (Slot T)) → SameKeys s.slots (backward parent next to s).slots
  same_backward parent (Some next) to s = same_changed s.slots next (relinked Previous to)
  same_backward (Some parent) None to s = same_changed s.slots parent (relinked Last to)
  same_backward None None to s = same_keys s.slots
