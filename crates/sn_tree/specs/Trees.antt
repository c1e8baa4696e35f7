-- The nodes as one recursive value, and what each change makes of it.
-- Each function acts at the first node with the id, in the order of the walk.
use Rattle.std.specs.Prelude.{ℕ, ◌+◌, ℤ, negsuc, Bool, true, false, ◌||◌, if◌then◌else◌, List, [], ◌∷◌, ◌++◌, Option, Some, None}
use Rattle.std.specs.Ordering.{int_eq}
use Rattle.sn_tree.specs.declared.node.NodeKind.{NodeKind}
use Rattle.sn_tree.specs.declared.node.NodeView.{NodeView}
use Rattle.sn_tree.specs.declared.node.AddAction.{AddAction}
use Rattle.sn_tree.specs.declared.node.AddAction.TheVariants.{Head, Tail, Before, After}

-- a node by itself
pub record Label (P : Type 0) : Type 0 where
  pub id : ℤ
  pub kind : NodeKind
  pub running : Bool
  pub payload : P

-- nodes in order: the first, the nodes below it, and the nodes after it
pub data Nodes (P : Type 0) : Type 0 where
  none : Nodes P
  node : Label P → Nodes P → Nodes P → Nodes P

-- the attached nodes, which are the root and all below it, and the detached subtrees in the order of their detaching
pub record Sides (P : Type 0) : Type 0 where
  pub attached : Nodes P
  pub detached : Nodes P

-- what comes after the first of these in a list
abbrev pub next_after : ℤ → List ℤ → Option ℤ
next_after id [] = None
next_after id (x ∷ []) = None
next_after id (x ∷ y ∷ xs) = if int_eq x id then Some y else next_after id (y ∷ xs)

module _ {P : Type 0} where
  -- how many nodes
  abbrev pub count : Nodes P → ℕ
  count none = 0
  count (node label below after) = 1 + count below + count after

  -- the ids in the order of the walk: a node, those below it, those after it
  abbrev pub ids : Nodes P → List ℤ
  ids none = []
  ids (node label below after) = label.id ∷ ids below ++ ids after

  abbrev pub holds : ℤ → Nodes P → Bool
  holds id none = false
  holds id (node label below after) = int_eq label.id id || (holds id below || holds id after)

  abbrev pub label_of : ℤ → Nodes P → Option (Label P)
  label_of id none = None
  label_of id (node label below after) =
      if int_eq label.id id then Some label
      else if holds id below then label_of id below
      else label_of id after

  -- the nodes just below a node
  abbrev pub children : ℤ → Nodes P → Nodes P
  children id none = none
  children id (node label below after) =
      if int_eq label.id id then below
      else if holds id below then children id below
      else children id after

  -- a node with all below it
  abbrev pub subtree : ℤ → Nodes P → Nodes P
  subtree id none = none
  subtree id (node label below after) =
      if int_eq label.id id then node label below none
      else if holds id below then subtree id below
      else subtree id after

  -- what is left without a node and all below it
  abbrev pub without : ℤ → Nodes P → Nodes P
  without id none = none
  without id (node label below after) =
      if int_eq label.id id then after
      else if holds id below then node label (without id below) after
      else node label below (without id after)

  -- the nodes and then others
  abbrev pub joined : Nodes P → Nodes P → Nodes P
  joined none others = others
  joined (node label below after) others = node label below (joined after others)

  -- whether one of these stands by itself, below none of the others
  abbrev pub has_top : ℤ → Nodes P → Bool
  has_top id none = false
  has_top id (node label below after) = int_eq label.id id || has_top id after

  -- the last of these with all below it
  abbrev pub last_top : ℤ → Nodes P → Nodes P
  last_top id none = none
  last_top id (node label below after) =
      if has_top id after then last_top id after
      else if int_eq label.id id then node label below none
      else none

  -- what is left without the last of these and all below it
  abbrev pub without_last : ℤ → Nodes P → Nodes P
  without_last id none = none
  without_last id (node label below after) =
      if has_top id after then node label below (without_last id after)
      else if int_eq label.id id then after
      else node label below after

  -- whether an id of the first nodes is one of the second ones
  abbrev pub shares : Nodes P → Nodes P → Bool
  shares none others = false
  shares (node label below after) others = holds label.id others || (shares below others || shares after others)

  -- the first node by itself
  abbrev pub first_label : Nodes P → Option (Label P)
  first_label none = None
  first_label (node label below after) = Some label

  -- what is left without the first node: those just below it stand by themselves then
  abbrev pub without_first : Nodes P → Nodes P
  without_first none = none
  without_first (node label below after) = joined below after

  -- new nodes at the head or tail of a node's children, or just before or after the node
  abbrev pub beside : AddAction → Nodes P → Label P → Nodes P → Nodes P → Nodes P
  beside Head new label below after = node label (joined new below) after
  beside Tail new label below after = node label (joined below new) after
  beside Before new label below after = joined new (node label below after)
  beside After new label below after = node label below (joined new after)

  -- new nodes put at a spot
  abbrev pub put : AddAction → ℤ → Nodes P → Nodes P → Nodes P
  put action target new none = none
  put action target new (node label below after) =
      if int_eq label.id target then beside action new label below after
      else if holds target below then node label (put action target new below) after
      else node label below (put action target new after)

  -- a node changed by itself
  abbrev pub changed : ℤ → (Label P → Label P) → Nodes P → Nodes P
  changed id change none = none
  changed id change (node label below after) =
      if int_eq label.id id then node (change label) below after
      else if holds id below then node label (changed id change below) after
      else node label below (changed id change after)

  -- the nodes that run, in the order of the walk: a paused node is left out with all below it
  abbrev pub running_labels : Nodes P → List (Label P)
  running_labels none = []
  running_labels (node label below after) =
      if label.running then label ∷ (running_labels below ++ running_labels after)
      else running_labels after

  -- a new node, which runs
  abbrev pub leaf : ℤ → NodeKind → P → Nodes P
  leaf id kind payload = node (record { id = id; kind = kind; running = true; payload = payload }) none none

  abbrev pub with_running : Bool → Label P → Label P
  with_running on label = record label { running = on }

  abbrev pub with_payload : P → Label P → Label P
  with_payload payload label = record label { payload = payload }

  -- the id of the first node, or -1
  abbrev pub first_id : Nodes P → ℤ
  first_id none = negsuc 0
  first_id (node label below after) = label.id

  -- the id of the last node that has none after it, or this one
  abbrev pub last_id : ℤ → Nodes P → ℤ
  last_id so_far none = so_far
  last_id so_far (node label below after) = last_id label.id after

  abbrev pub first_of : Nodes P → Option ℤ
  first_of none = None
  first_of (node label below after) = Some label.id

  -- where a node stands, among nodes that have this parent and come after this one
  abbrev pub view_from : ℤ → ℤ → ℤ → Nodes P → Option NodeView
  view_from parent previous id none = None
  view_from parent previous id (node label below after) =
      if int_eq label.id id then Some (record { kind = label.kind; running = label.running; parent = parent; previous = previous; next = first_id after; head = first_id below; tail = last_id (negsuc 0) below })
      else if holds id below then view_from label.id (negsuc 0) id below
      else view_from parent label.id id after

  -- where a node stands, with -1 for none
  abbrev pub view_of : ℤ → Nodes P → Option NodeView
  view_of id nodes = view_from (negsuc 0) (negsuc 0) id nodes

-- the payloads in the order of the walk
abbrev pub payloads : {P : Type 0} → Nodes P → List P
payloads none = []
payloads (node label below after) = label.payload ∷ (payloads below ++ payloads after)

-- each payload changed
abbrev pub with_payloads : {P Q : Type 0} → (P → Q) → Nodes P → Nodes Q
with_payloads f none = none
with_payloads f (node label below after) = node (record { id = label.id; kind = label.kind; running = label.running; payload = f label.payload }) (with_payloads f below) (with_payloads f after)

-- each payload changed, on both sides
abbrev pub with_payloads_of : {P Q : Type 0} → (P → Q) → Sides P → Sides Q
with_payloads_of f sides = record { attached = with_payloads f sides.attached; detached = with_payloads f sides.detached }
