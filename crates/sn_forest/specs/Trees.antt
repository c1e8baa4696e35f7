-- Trees of values, each node named by a key, and what the calls of a forest make of them.
-- No two nodes have one key, so "the node with a key" is one at most.
use Rattle.std.specs.Prelude.{ℕ, ◌+◌, ◌==◌, nat_lt, Bool, if◌then◌else◌, Option, Some, None}
use Rattle.sn_forest.specs.declared.links.Links.{Links}

-- trees beside each other: the first, by its key and value and the trees below it, and the trees after it
pub data Trees (T : Type 0) : Type 0 where
  none : Trees T
  tree : ℕ → T → Trees T → Trees T → Trees T

-- whether two keys are one, counted
abbrev pub one_at : ℕ → ℕ → ℕ
one_at key other = if key == other then 1 else 0

module _ {T : Type 0} where
  -- how many nodes
  abbrev pub count : Trees T → ℕ
  count none = 0
  count (tree key value below after) = 1 + (count below + count after)

  -- how many nodes have a key
  abbrev pub uses : ℕ → Trees T → ℕ
  uses k none = 0
  uses k (tree key value below after) = one_at key k + (uses k below + uses k after)

  abbrev pub has_key : ℕ → Trees T → Bool
  has_key k trees = nat_lt 0 (uses k trees)

  abbrev pub first_key : Trees T → Option ℕ
  first_key none = None
  first_key (tree key value below after) = Some key

  -- the key of the last tree, or this one before the first
  abbrev pub last_key : Option ℕ → Trees T → Option ℕ
  last_key before none = before
  last_key before (tree key value below after) = last_key (Some key) after

  -- the trees and then others
  abbrev pub joined : Trees T → Trees T → Trees T
  joined none others = others
  joined (tree key value below after) others = tree key value below (joined after others)

  -- what a node holds
  abbrev pub value_of : ℕ → Trees T → Option T
  value_of k none = None
  value_of k (tree key value below after) =
      if key == k then Some value
      else if has_key k below then value_of k below
      else value_of k after

  -- the trees below a node
  abbrev pub below_of : ℕ → Trees T → Trees T
  below_of k none = none
  below_of k (tree key value below after) =
      if key == k then below
      else if has_key k below then below_of k below
      else below_of k after

  -- a node with all below it
  abbrev pub subtree : ℕ → Trees T → Trees T
  subtree k none = none
  subtree k (tree key value below after) =
      if key == k then tree key value below none
      else if has_key k below then subtree k below
      else subtree k after

  -- what a node is linked with, among trees that have this parent and come after this node
  abbrev pub links_from : Option ℕ → Option ℕ → ℕ → Trees T → Option Links
  links_from parent previous k none = None
  links_from parent previous k (tree key value below after) =
      if key == k then Some (record { parent = parent; previous = previous; next = first_key after; first = first_key below; last = last_key None below })
      else if has_key k below then links_from (Some key) None k below
      else links_from parent (Some key) k after

  abbrev pub links_of : ℕ → Trees T → Option Links
  links_of k trees = links_from None None k trees

  -- what is left without a node and all below it
  abbrev pub without : ℕ → Trees T → Trees T
  without k none = none
  without k (tree key value below after) =
      if key == k then without k after
      else tree key value (without k below) (without k after)

  -- new trees before all that is below a node
  abbrev pub put_first : ℕ → Trees T → Trees T → Trees T
  put_first k new none = none
  put_first k new (tree key value below after) =
      if key == k then tree key value (joined new below) after
      else tree key value (put_first k new below) (put_first k new after)

  -- new trees after all that is below a node
  abbrev pub put_last : ℕ → Trees T → Trees T → Trees T
  put_last k new none = none
  put_last k new (tree key value below after) =
      if key == k then tree key value (joined below new) after
      else tree key value (put_last k new below) (put_last k new after)

  -- new trees just before a node
  abbrev pub put_before : ℕ → Trees T → Trees T → Trees T
  put_before k new none = none
  put_before k new (tree key value below after) =
      if key == k then joined new (tree key value below after)
      else tree key value (put_before k new below) (put_before k new after)

  -- new trees just after a node and all below it
  abbrev pub put_after : ℕ → Trees T → Trees T → Trees T
  put_after k new none = none
  put_after k new (tree key value below after) =
      if key == k then tree key value below (joined new after)
      else tree key value (put_after k new below) (put_after k new after)

  -- a node holds another value
  abbrev pub with_value : ℕ → T → Trees T → Trees T
  with_value k new none = none
  with_value k new (tree key value below after) =
      if key == k then tree key new below after
      else tree key value (with_value k new below) (with_value k new after)
