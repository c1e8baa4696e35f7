-- How the nodes, by the keys of their payloads, and the payloads stand for a tree.
use Rattle.std.specs.Prelude.{◌≡◌, ℕ, suc, ◌+◌, ◌==◌, nat_lt, pos, Bool, true, false, List, [], ◌∷◌, Option, Some, None, is_some, unwrap_or, slice_index_or, if◌then◌else◌}
use Rattle.std.specs.Ordering.{int_eq}
use Rattle.sn_tree.specs.declared.node.NodeKind.TheVariants.{Group}
use Rattle.sn_tree.specs.Trees.{Label, Nodes, none, node, ids, with_payloads, with_payloads_of}
use Rattle.sn_tree.specs.Order.{Key}
use Rattle.sn_tree.specs.Arranged.{Arranged}
use Rattle.sn_tree.specs.Saving.{SavedNodes}
use Rattle.sn_tree.specs.Model.{Journal, NodeTree}
use Rattle.sn_tree.specs.Steps.{AllDistinct}

abbrev pub same_key : Key → Key → Bool
same_key None None = true
same_key None (Some b) = false
same_key (Some a) None = false
same_key (Some a) (Some b) = a == b

-- how many nodes have their payload under a key
abbrev pub uses : Key → Nodes Key → ℕ
uses key none = 0
uses key (node label below after) = (if same_key label.payload key then 1 else 0) + (uses key below + uses key after)

-- how often a key is in a list
abbrev pub times : Key → List ℕ → ℕ
times key [] = 0
times key (k ∷ ks) = (if same_key (Some k) key then 1 else 0) + times key ks

-- the root's payload stands apart, and has no key
abbrev pub payload_of : {P : Type 0} → P → List (Option P) → Key → P
payload_of root slots None = root
payload_of root slots (Some key) = unwrap_or (slice_index_or slots key None) root

-- how many payloads there are under a key
abbrev pub filled : {P : Type 0} → List (Option P) → Key → ℕ
filled slots None = 1
filled slots (Some key) = if is_some (slice_index_or slots key None) then 1 else 0

-- no id is twice in a subtree of these
abbrev pub EachDistinct : {P : Type 0} → Nodes P → Type 0
EachDistinct none = Unit {0}
EachDistinct (node label below after) = AllDistinct int_eq (ids (node label below none)) × EachDistinct after

-- the root is a group with id 0, and all else lies below it
pub record IsRooted (nodes : Nodes Key) : Type 0 where
  pub label : Label Key
  pub below : Nodes Key
  pub is : nodes ≡ node label below none
  pub id : label.id ≡ pos 0
  pub kind : label.kind ≡ Group
  pub key : label.payload ≡ None

-- each payload is that of one node: none is used twice, none is missing, and none is kept without a node
pub record IsFilled {P : Type 0} (slots : List (Option P)) (nodes : Arranged) : Type 0 where
  pub keys : (key : Key) → uses key nodes.attached + uses key nodes.detached ≡ filled slots key

-- the same of what a journal keeps: each payload is that of one saved node, or was put in since
abbrev pub IsSaved : {P : Type 0} → List (Option P) → Option SavedNodes → Type 0
IsSaved slots None = Unit {0}
IsSaved slots (Some saved) =
    ((key : Key) → uses key saved.nodes.attached + (uses key saved.nodes.detached + times key saved.made) ≡ filled slots key)
    × IsRooted saved.nodes.attached × AllDistinct int_eq (ids saved.nodes.attached) × EachDistinct saved.nodes.detached

pub record IsKept {P : Type 0} (slots : List (Option P)) (nodes : Arranged) (saved : Option SavedNodes) : Type 0 where
  pub now : IsFilled slots nodes
  pub rooted : IsRooted nodes.attached
  pub distinct : AllDistinct int_eq (ids nodes.attached)
  pub aside : EachDistinct nodes.detached
  pub before : IsSaved slots saved

-- keys as marks
abbrev pub mark_of : Key → ℕ
mark_of None = 0
mark_of (Some key) = suc key

-- the mark of a node by its key, if it is among the saved ones
abbrev pub origin : Arranged → Key → Option ℕ
origin saved key = if nat_lt 0 (uses key saved.attached + uses key saved.detached) then Some (mark_of key) else None

module _ {P : Type 0} (root : P) (slots : List (Option P)) (nodes : Arranged) where
  abbrev pub journal_shown : Option SavedNodes → Option (Journal P)
  journal_shown None = None
  journal_shown (Some saved) = Some (record {
    attached = with_payloads (payload_of root slots) saved.nodes.attached;
    detached = with_payloads (payload_of root slots) saved.nodes.detached;
    room = saved.room;
    marks = record { saved = with_payloads_of mark_of saved.nodes; present = with_payloads_of (origin saved.nodes) nodes };
  })

  -- the tree that nodes and payloads stand for
  abbrev pub shown : Option SavedNodes → NodeTree P
  shown saved = record {
    attached = with_payloads (payload_of root slots) nodes.attached;
    detached = with_payloads (payload_of root slots) nodes.detached;
    journal = journal_shown saved;
  }
