-- Nodes by their keys in a forest, and what they stand for.
use Rattle.std.specs.Prelude.{ℕ, ◌+◌, ◌==◌, ℤ, negsuc, Bool, true, false, ◌&&◌, ◌||◌, if◌then◌else◌, List, [], ◌∷◌, ◌++◌, Option, Some, None, is_some}
use Rattle.std.specs.Ordering.{int_eq}
use Rattle.sn_forest.specs.declared.links.Links.{Links}
use Rattle.sn_forest.specs.Trees.{Trees, none, tree, joined, value_of, links_of}
use Rattle.sn_forest.specs.Walking.{from, behind_tree}
use Rattle.sn_forest.specs.declared.place.Place.{Place}
use Rattle.sn_forest.specs.declared.place.Place.TheVariants.{First, Last, Before as PlaceBefore, After as PlaceAfter}
use Rattle.sn_ids.specs.Pairs.{Pairs, key_for}
use Rattle.sn_tree.specs.declared.item.Item.{Item}
use Rattle.sn_tree.specs.declared.node.AddAction.{AddAction}
use Rattle.sn_tree.specs.declared.node.NodeView.{NodeView}
use Rattle.sn_tree.specs.declared.node.AddAction.TheVariants.{Head, Tail, Before, After}
use Rattle.sn_tree.specs.Trees.{Label, Nodes, none as no_nodes, node}
use Rattle.sn_tree.specs.Order.{Key}
use Rattle.sn_tree.specs.Arranged.{Arranged}

-- a node by itself
abbrev pub label_by : Item → Label Key
label_by item = record { id = item.id; kind = item.kind; running = item.running; payload = item.key }

abbrev pub labels : Trees Item → Nodes Key
labels none = no_nodes
labels (tree key item below after) = node (label_by item) (labels below) (labels after)

-- the first tree by itself: the root's
abbrev pub front : {T : Type 0} → Trees T → Trees T
front none = none
front (tree key value below after) = tree key value below none

-- trees that are on one side alone
abbrev pub only : {T : Type 0} → Bool → Bool → Trees T → Trees T
only true false trees = trees
only true true trees = none
only false other trees = none

-- the root's tree has the attached nodes, and those after it are the detached ones
abbrev pub sides : Trees Item → Arranged
sides trees = record { attached = labels (front trees); detached = labels (behind_tree trees) }

abbrev pub counted : Bool → ℕ
counted test = if test then 1 else 0

-- the place of a spot, by its target's key
abbrev pub placed : AddAction → ℕ → Place
placed Head key = First key
placed Tail key = Last key
placed Before key = PlaceBefore key
placed After key = PlaceAfter key

-- how many nodes have this id under this key
abbrev pub named : ℤ → ℕ → Trees Item → ℕ
named id key none = 0
named id key (tree k item below after) = counted (int_eq item.id id && (k == key)) + (named id key below + named id key after)

-- how many nodes have this id
abbrev pub names : ℤ → Trees Item → ℕ
names id none = 0
names id (tree k item below after) = counted (int_eq item.id id) + (names id below + names id after)

-- whether this key is found
abbrev pub is_key : ℕ → Option ℕ → Bool
is_key key None = false
is_key key (Some k) = k == key

-- how many pairs have this id and this key
abbrev pub noted : ℤ → ℕ → Pairs → ℕ
noted id key pairs = counted (is_key key (key_for id pairs))

-- what is left of a walk that has come to a node, or to its end
abbrev pub left_at : {T : Type 0} → Option ℕ → Trees T → Trees T
left_at None trees = none
left_at (Some key) trees = from key trees

-- a node is paused, or runs
abbrev pub flagged : ℕ → Bool → Trees Item → Trees Item
flagged k on none = none
flagged k on (tree key item below after) =
    if key == k then tree key (record item { running = on }) below after
    else tree key item (flagged k on below) (flagged k on after)

-- other trees stand after the first one
abbrev pub with_behind : {T : Type 0} → Trees T → Trees T → Trees T
with_behind others none = none
with_behind others (tree key value below after) = tree key value below others

abbrev pub first_value : {T : Type 0} → Trees T → Option T
first_value none = None
first_value (tree key value below after) = Some value

-- what is below the first node stands after it
abbrev pub raised : {T : Type 0} → Trees T → Trees T
raised none = none
raised (tree key value below after) = tree key value none (joined below after)

-- the last node just below a node with these links
abbrev pub last_in : Option Links → Option ℕ
last_in None = None
last_in (Some links) = links.last

-- the node that a node with these links is just below
abbrev pub parent_in : Option Links → Option ℕ
parent_in None = None
parent_in (Some links) = links.parent

-- the node just before a node with these links
abbrev pub previous_in : Option Links → Option ℕ
previous_in None = None
previous_in (Some links) = links.previous

-- whether an id of some nodes is in an index
abbrev pub meets : Pairs → Trees Item → Bool
meets pairs none = false
meets pairs (tree key item below after) = is_some (key_for item.id pairs) || (meets pairs below || meets pairs after)

-- the nodes in the order of a walk, each by its key
abbrev pub rows_of : Trees Item → List (ℕ × Item)
rows_of none = []
rows_of (tree key item below after) = (key, item) ∷ (rows_of below ++ rows_of after)

-- the first of these nodes, by its key
abbrev pub first_row : Trees Item → Option (ℕ × Item)
first_row none = None
first_row (tree key item below after) = Some (key, item)

-- what is below the first of these nodes
abbrev pub below_first : {T : Type 0} → Trees T → Trees T
below_first none = none
below_first (tree key value below after) = below

-- the id of a node that was found, with -1 for none
abbrev pub id_of : Option Item → ℤ
id_of None = negsuc 0
id_of (Some item) = item.id

-- the id of the node with a key, with -1 if there is no key
abbrev pub id_in : Trees Item → Option ℕ → ℤ
id_in trees None = negsuc 0
id_in trees (Some key) = id_of (value_of key trees)

-- whether a key is that of the first tree
abbrev pub is_first : Trees Item → ℕ → Bool
is_first none key = false
is_first (tree k item below after) key = k == key

-- how a node is seen with these links among these nodes; what stands after the first tree is not seen beside it
abbrev pub view_by : Trees Item → Bool → Item → Links → NodeView
view_by trees first item links = record {
  kind = item.kind;
  running = item.running;
  parent = id_in trees links.parent;
  previous = id_in trees links.previous;
  next = id_in trees (if first then None else links.next);
  head = id_in trees links.first;
  tail = id_in trees links.last;
}

abbrev pub view_in_row : Trees Item → Bool → Option Item → Option Links → Option NodeView
view_in_row trees first None links = None
view_in_row trees first (Some item) None = None
view_in_row trees first (Some item) (Some links) = Some (view_by trees first item links)

-- how the node with a key is seen
abbrev pub view_of_key : ℕ → Trees Item → Option NodeView
view_of_key key trees = view_in_row trees (is_first trees key) (value_of key trees) (links_of key trees)
