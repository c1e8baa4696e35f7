-- Payloads changed in a node and in all nodes below it.
use Rattle.std.specs.Prelude.{◌≡◌, ℕ, zero, suc, ◌≤◌, ℤ, false, if◌then◌else◌, List, Option}
use Rattle.std.specs.Ordering.{int_eq}
use Rattle.sn_tree.specs.Trees.{Nodes, none, node, holds, with_payload, with_payloads}
use Rattle.sn_tree.specs.Order.{Key}
use Rattle.sn_tree.specs.Model.{NodeTree}
use Rattle.sn_tree.specs.Kept.{same_key, payload_of, filled}

module _ {P : Type 0} (change : P → P) where
  -- the payloads of a node and of all nodes below it changed
  abbrev pub reworked : ℤ → Nodes P → Nodes P
  reworked id none = none
  reworked id (node label below after) =
      if int_eq label.id id then node (with_payload (change label.payload) label) (with_payloads change below) after
      else if holds id below then node label (reworked id below) after
      else node label below (reworked id after)

  abbrev pub changed_below : ℤ → NodeTree P → NodeTree P
  changed_below id tree = record tree { attached = reworked id tree.attached }

  -- a payload changed so many times
  abbrev pub repeated : ℕ → P → P
  repeated zero payload = payload
  repeated (suc n) payload = repeated n (change payload)

module _ {P : Type 0} (change : P → P) (root : P) (slots : List (Option P)) (root' : P) (slots' : List (Option P)) where
  -- the payload under one key is changed
  pub record IsChangedAt (at : Key) : Type 0 where
    pub keeps : (key : Key) → filled slots' key ≡ filled slots key
    pub this : 1 ≤ filled slots at → payload_of root' slots' at ≡ change (payload_of root slots at)
    pub others : (key : Key) → same_key at key ≡ false → 1 ≤ filled slots key → payload_of root' slots' key ≡ payload_of root slots key
