-- The nodes of a tree, and the index of the attached ones.
use Rattle.std.specs.Prelude.{◌≡◌, ◌≢◌, ℕ, ◌+◌, ◌≤◌, ℤ, pos, Bool, true, List, length, Option, Some, None, refl}
use Rattle.std.specs.Coded.{Coded, code_by, coded×, coded_ℕ, coded_option, coded_list}
use Rattle.sn_forest.specs.Trees.{Trees, none, tree, one_at, uses, count, has_key, first_key, subtree, without}
use Rattle.sn_forest.specs.Stored.{trees_code}
use Rattle.sn_forest.specs.Places.{IsPlaceIn}
use Rattle.sn_forest.specs.Walking.{behind_tree}
use Rattle.sn_forest.specs.declared.place.Place.{Place}
use Rattle.sn_forest.specs.declared.place.Place.TheVariants.{First, Last, Before, After}
use Rattle.sn_ids.specs.Pairs.{Table}
use Rattle.sn_tree.specs.declared.node.NodeKind.TheVariants.{Group}
use Rattle.sn_tree.specs.declared.node.AddAction.{AddAction}
use Rattle.sn_tree.specs.Trees.{Label, has_top, last_top, without_last}
use Rattle.sn_tree.specs.Order.{Key}
use Rattle.sn_tree.specs.Model.{label_code}
use Rattle.sn_tree.specs.declared.item.Item.{Item}
use Rattle.sn_tree.specs.Keyed.{label_by, labels, front, named, names, noted, placed, left_at}

abbrev pub item_of : Label Key → Item
item_of label = record { id = label.id; kind = label.kind; running = label.running; key = label.payload }

abbrev pub item_code : Coded Item
item_code = code_by (Label Key) (label_code (coded_option coded_ℕ)) label_by item_of (λ _. refl)

abbrev pub nodes_code : Coded (Trees Item)
nodes_code = trees_code item_code

-- the nodes just below the root, each with all below it
abbrev pub below_root : {T : Type 0} → Trees T → Trees T
below_root none = none
below_root (tree key value below after) = below

-- no id is twice in one of these trees
abbrev pub EachOnce : Trees Item → Type 0
EachOnce none = Unit {0}
EachOnce (tree key item below after) = ((id : ℤ) → names id (tree key item below none) ≤ 1) × EachOnce after

-- the root is a group with id 0, whose payload stands apart
pub record IsRoot (trees : Trees Item) : Type 0 where
  pub key : ℕ
  pub item : Item
  pub below : Trees Item
  pub after : Trees Item
  pub is : trees ≡ tree key item below after
  pub id : item.id ≡ pos 0
  pub kind : item.kind ≡ Group
  pub apart : item.key ≡ None

-- the root stands first, and no id is twice in one of the trees
pub record IsSound (trees : Trees Item) : Type 0 where
  pub root : IsRoot trees
  pub distinct : (id : ℤ) → names id (front trees) ≤ 1
  pub aside : EachOnce (behind_tree trees)

-- the index has the ids of the attached nodes, and room for those of all
pub record IsStored (trees : Trees Item) (ids : Table) : Type 0 where
  pub sound : IsSound trees
  pub finds : (id : ℤ) (key : ℕ) → noted id key ids.pairs ≡ named id key (front trees)
  pub number : length ids.pairs ≡ count (front trees)
  pub room : count trees ≤ ids.room

-- a place that isn't beside the root
abbrev pub IsBelowRoot : Place → ℕ → Type 0
IsBelowRoot (First key) root = Unit {0}
IsBelowRoot (Last key) root = Unit {0}
IsBelowRoot (Before key) root = root ≢ key
IsBelowRoot (After key) root = root ≢ key

-- whether a place is below the root
abbrev pub is_within : Place → Trees Item → Bool
is_within (First key) trees = has_key key (front trees)
is_within (Last key) trees = has_key key (front trees)
is_within (Before key) trees = has_key key (below_root trees)
is_within (After key) trees = has_key key (below_root trees)

-- a place among the attached nodes
abbrev pub IsAmong : Trees Item → Place → Type 0
IsAmong trees place = IsPlaceIn trees place × (is_within place trees ≡ true)

-- how many of the trees have a key
abbrev pub tops : ℕ → Trees Item → ℕ
tops k none = 0
tops k (tree key item below after) = one_at key k + tops k after

-- the subtree that was detached last among those whose top has an id
pub record IsLastTop (trees : Trees Item) (id : ℤ) (key : ℕ) : Type 0 where
  pub there : 1 ≤ tops key (behind_tree trees)
  pub has : has_top id (labels (behind_tree trees)) ≡ true
  pub last : last_top id (labels (behind_tree trees)) ≡ labels (subtree key trees)
  pub rest : without_last id (labels (behind_tree trees)) ≡ labels (behind_tree (without key trees))

-- a place by its spot
pub record IsSpot (trees : Trees Item) (action : AddAction) (target : ℤ) (place : Place) : Type 0 where
  pub key : ℕ
  pub is : place ≡ placed action key
  pub there : 1 ≤ named target key (front trees)

-- a node that moves, and a place that is there without it
pub record IsMovable (trees : Trees Item) (id : ℤ) (action : AddAction) (target : ℤ) (key : ℕ) (place : Place) : Type 0 where
  pub node : 1 ≤ named id key (front trees)
  pub spot : IsSpot (without key trees) action target place

-- a detached subtree, and a place for it
pub record IsAttachable (trees : Trees Item) (id : ℤ) (action : AddAction) (target : ℤ) (key : ℕ) (place : Place) : Type 0 where
  pub node : IsLastTop trees id key
  pub spot : IsSpot trees action target place

-- a walk over the tree of a top has come to this node, or to its end
pub record IsCursor (trees : Trees Item) (top : ℕ) (next : Option ℕ) : Type 0 where
  pub begins : first_key (left_at next (subtree top trees)) ≡ next
  pub node : (key : ℕ) → next ≡ Some key → 1 ≤ uses key (subtree top trees)

-- the first node runs, or there is none
abbrev pub BeginsRunning : Trees Item → Type 0
BeginsRunning none = Unit {0}
BeginsRunning (tree key item below after) = item.running ≡ true

abbrev pub rows_code : Coded (List (ℕ × Item))
rows_code = coded_list (coded× coded_ℕ item_code)
