-- What is read from the rows of a walk.
use Rattle.std.specs.Prelude.{◌≡◌, ℕ, ◌+◌, ◌≤◌, ℤ, if◌then◌else◌, List, [], ◌∷◌, Option, Some, None}
use Rattle.sn_forest.specs.Trees.{Trees}
use Rattle.sn_tree.specs.declared.node.NodeView.{NodeView}
use Rattle.sn_tree.specs.Faults.{is_synth}
use Rattle.sn_tree.specs.Order.{Key}
use Rattle.sn_tree.specs.Kept.{same_key, payload_of, filled}
use Rattle.sn_tree.specs.Reworking.{repeated}
use Rattle.sn_tree.specs.Tallies.{in_front}
use Rattle.sn_tree.specs.Walking.{payload_at}
use Rattle.sn_tree.specs.declared.item.Item.{Item}
use Rattle.sn_tree.specs.Keyed.{view_of_key}

-- nodes by their keys, in the order of a walk
abbrev pub KeyedItems : Type 0
KeyedItems = List (ℕ × Item)

-- their payloads
abbrev pub held_by : {P : Type 0} → P → List (Option P) → KeyedItems → List P
held_by root slots [] = []
held_by root slots ((key, item) ∷ rows) = in_front (payload_at root slots item.key) (held_by root slots rows)

-- the ids of the synths among them
abbrev pub synths_by : KeyedItems → List ℤ
synths_by [] = []
synths_by ((key, item) ∷ rows) = if is_synth item.kind then item.id ∷ synths_by rows else synths_by rows

abbrev pub view_row : ℤ → Option NodeView → Option (ℤ × NodeView)
view_row id None = None
view_row id (Some view) = Some (id, view)

-- how they are seen among these nodes, by their ids
abbrev pub views_by : Trees Item → KeyedItems → List (ℤ × NodeView)
views_by trees [] = []
views_by trees ((key, item) ∷ rows) = in_front (view_row item.id (view_of_key key trees)) (views_by trees rows)

-- how many of them have their payload under a key
abbrev pub hits_by : Key → KeyedItems → ℕ
hits_by key [] = 0
hits_by key ((k, item) ∷ rows) = (if same_key item.key key then 1 else 0) + hits_by key rows

-- the payload of each is changed
pub record AreChangedBy {P : Type 0} (change : P → P) (root : P) (slots : List (Option P)) (root' : P) (slots' : List (Option P)) (rows : KeyedItems) : Type 0 where
  pub keeps : (key : Key) → filled slots' key ≡ filled slots key
  pub each : (key : Key) → 1 ≤ filled slots key → payload_of root' slots' key ≡ repeated change (hits_by key rows) (payload_of root slots key)
