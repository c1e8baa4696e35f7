-- Places in trees.
use Rattle.std.specs.Prelude.{◌≢◌, ℕ, ◌≤◌, List, Option, Some, None}
use Rattle.sn_forest.specs.declared.links.Links.{Links}
use Rattle.sn_forest.specs.declared.slot.Slot.{Slot}
use Rattle.sn_forest.specs.declared.slot.Corner.{Corner}
use Rattle.sn_forest.specs.declared.place.Place.{Place}
use Rattle.sn_forest.specs.declared.place.Place.TheVariants.{First, Last, Before, After}
use Rattle.sn_forest.specs.Trees.{Trees, uses, first_key, put_first, put_last, put_before, put_after, subtree, without, links_of}
use Rattle.sn_forest.specs.Links.{slot_at, links_in}

-- the node by which a place is named
abbrev pub key_of : Place → ℕ
key_of (First key) = key
key_of (Last key) = key
key_of (Before key) = key
key_of (After key) = key

module _ {T : Type 0} where
  -- new trees put at a place
  abbrev pub put : Place → Trees T → Trees T → Trees T
  put (First key) new trees = put_first key new trees
  put (Last key) new trees = put_last key new trees
  put (Before key) new trees = put_before key new trees
  put (After key) new trees = put_after key new trees

  -- the node by which a place is named is there, and the place isn't before the first tree
  abbrev pub IsPlaceIn : Trees T → Place → Type 0
  IsPlaceIn trees (First key) = 1 ≤ uses key trees
  IsPlaceIn trees (Last key) = 1 ≤ uses key trees
  IsPlaceIn trees (Before key) = (1 ≤ uses key trees) × (first_key trees ≢ Some key)
  IsPlaceIn trees (After key) = 1 ≤ uses key trees

  -- a node with all below it put at another place
  abbrev pub shifted : ℕ → Place → Trees T → Trees T
  shifted key place trees = put place (subtree key trees) (without key trees)

  -- what stands around a place
  abbrev pub corner_at : Place → List (Option (Slot T)) → Corner
  corner_at (First key) slots = record { parent = Some key; previous = None; next = (links_in (slot_at slots key)).first }
  corner_at (Last key) slots = record { parent = Some key; previous = (links_in (slot_at slots key)).last; next = None }
  corner_at (Before key) slots = record { parent = (links_in (slot_at slots key)).parent; previous = (links_in (slot_at slots key)).previous; next = Some key }
  corner_at (After key) slots = record { parent = (links_in (slot_at slots key)).parent; previous = Some key; next = (links_in (slot_at slots key)).next }

-- where a node stands that has this parent and this node before it
abbrev pub place_by : ℕ → Option ℕ → Option ℕ → Place
place_by key parent (Some previous) = After previous
place_by key (Some parent) None = First parent
place_by key None None = After key

abbrev pub place_in : ℕ → Option Links → Place
place_in key None = After key
place_in key (Some links) = place_by key links.parent links.previous

-- where a node stands
abbrev pub place_of : {T : Type 0} → ℕ → Trees T → Place
place_of key trees = place_in key (links_of key trees)
