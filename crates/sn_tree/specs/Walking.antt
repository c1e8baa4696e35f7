-- What is left of a walk over the nodes that run.
use Rattle.std.specs.Prelude.{◌≤◌, List, Option, Some, None, slice_index_or}
use Rattle.sn_forest.specs.Trees.{Trees}
use Rattle.sn_tree.specs.declared.item.Item.{Item}
use Rattle.sn_tree.specs.Trees.{Label, running_labels, with_payloads}
use Rattle.sn_tree.specs.Order.{Key}
use Rattle.sn_tree.specs.Kept.{uses, payload_of, filled}
use Rattle.sn_tree.specs.Keyed.{labels}

-- the payload under a key, the root's standing apart
abbrev pub payload_at : {P : Type 0} → P → List (Option P) → Key → Option P
payload_at root slots None = Some root
payload_at root slots (Some key) = slice_index_or slots key None

-- the nodes that the walk has still to reach
abbrev pub left_of : {P : Type 0} → P → List (Option P) → Trees Item → List (Label P)
left_of root slots rest = running_labels (with_payloads (payload_of root slots) (labels rest))

-- no payload of these nodes is missing
abbrev pub IsLeft : {P : Type 0} → List (Option P) → Trees Item → Type 0
IsLeft slots rest = (key : Key) → uses key (labels rest) ≤ filled slots key
