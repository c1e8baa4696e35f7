-- How slots stand for trees: the slot of a key is the one that the trees themselves give to it.
use Rattle.std.specs.Prelude.{◌≡◌, ℕ, zero, suc, ◌<◌, ◌≤◌, ◌^◌, List, Option, Some, None, count_by, is_some, if◌then◌else◌}
use Rattle.sn_forest.specs.declared.slot.Slot.{Slot}
use Rattle.sn_forest.specs.Trees.{Trees, none, tree, count, uses, first_key, last_key}
use Rattle.sn_forest.specs.Links.{slot_at}

module _ {T : Type 0} where
  -- the slot of a node with this value, parent and node before it, and these trees below and after it
  abbrev pub slot_for : T → Option ℕ → Option ℕ → Option ℕ → Option ℕ → Option ℕ → Slot T
  slot_for value parent previous next first last =
      record { links = record { parent = parent; previous = previous; next = next; first = first; last = last }; value = value }

  -- each of the trees, which have this parent and come after this node, has the slot that they give to its key
  abbrev pub Linked : List (Option (Slot T)) → Option ℕ → Option ℕ → Trees T → Type 0
  Linked slots parent previous none = Unit {0}
  Linked slots parent previous (tree key value below after) =
      (slot_at slots key ≡ Some (slot_for value parent previous (first_key after) (first_key below) (last_key None below)))
      × Linked slots (Some key) None below
      × Linked slots parent (Some key) after

  -- a node of a slot, if these make the trees that begin with a key
  abbrev pub grown : ℕ → Option (Slot T) → (Option ℕ → Trees T) → Trees T
  grown key None make = none
  grown key (Some slot) make = tree key slot.value (make slot.links.first) (make slot.links.next)

  -- the trees from a key on, so deep at most
  abbrev pub trees_from : ℕ → List (Option (Slot T)) → Option ℕ → Trees T
  trees_from zero slots key = none
  trees_from (suc n) slots None = none
  trees_from (suc n) slots (Some key) = grown key (slot_at slots key) (λ next. trees_from n slots next)

  -- the trees that slots stand for, from the first one on
  abbrev pub trees_of : List (Option (Slot T)) → ℕ → Trees T
  trees_of slots root = trees_from (count_by is_some slots) slots (Some root)

  -- how many nodes a key has a slot for
  abbrev pub held : List (Option (Slot T)) → ℕ → ℕ
  held slots key = if is_some (slot_at slots key) then 1 else 0

  -- slots stand for these trees, of which the last has this key
  pub record IsForest (slots : List (Option (Slot T))) (root : ℕ) (end : Option ℕ) (trees : Trees T) : Type 0 where
    pub linked : Linked slots None None trees
    pub ends : end ≡ last_key None trees
    pub begins : first_key trees ≡ Some root
    pub filled : (key : ℕ) → uses key trees ≡ held slots key
    pub full : count_by is_some slots ≡ count trees
    pub fits : (key : ℕ) → 1 ≤ uses key trees → key < 2 ^ 32
