-- Walks over a subtree, node by node.
use Rattle.std.proofs.Common.{◌≡◌, ℕ, ◌≤◌, true, Option, Some, None, sym, refl, ap, ◌∙◌, subst, arith}
use Rattle.std.specs.Prelude.{if◌then◌else◌, ◌==◌}
use Rattle.sn_forest.specs.Trees.{Trees, none, tree, uses, has_key, first_key, joined, subtree, value_of}
use Rattle.sn_forest.specs.Walking.{from, behind_node, behind_tree}
use Rattle.sn_forest.proofs.Keys.{same_key, joined-none}
use Rattle.sn_forest.proofs.Walking.{none_first, some_first}
use Rattle.sn_tree.specs.declared.item.Item.{Item}
use Rattle.sn_tree.specs.Keyed.{front, left_at, first_row, below_first}
use Rattle.sn_tree.specs.Stored.{IsCursor}
use Rattle.sn_tree.proofs.Stopping.{Stop, stop, first_used, next_used, uses-from, used_within, top_from, top_first, top_used}
use Rattle.sn_tree.proofs.StoredLaws.{holds_value}

no_trees : (t : Trees Item) → None ≡ first_key t → none ≡ t
no_trees none e = refl
no_trees (tree k v b a) e = absurd (none_first k e)

module _ (trees : Trees Item) (top : ℕ) (once : (j : ℕ) → uses j trees ≤ 1) (u : 1 ≤ uses top trees) where
  -- a walk begins at its top
  pub cursor_start : IsCursor trees top (Some top)
  cursor_start = record {
    begins = ap first_key (top_from trees top once u) ∙ top_first trees top once u;
    node = λ key e. subst (λ x. 1 ≤ uses x (subtree top trees)) (some_first top key e) (top_used trees top once u);
  }

  pub cursor_all : left_at (Some top) (subtree top trees) ≡ subtree top trees
  cursor_all = top_from trees top once u

  module _ (key : ℕ) (h : IsCursor trees top (Some key)) where
    abbrev pub here : Stop trees top key
    here = stop trees top key once u (h.node key refl)

    -- the next node, and the next one past all below
    pub cursor_step : (next : Option ℕ) → next ≡ first_key (behind_node (from key (subtree top trees))) → left_at next (subtree top trees) ≡ joined here.below here.rest
    cursor_step None e = no_trees (joined here.below here.rest) (e ∙ ap (λ t. first_key (behind_node t)) here.from_there)
    cursor_step (Some n) e = here.on n (sym (e ∙ ap (λ t. first_key (behind_node t)) here.from_there))

    pub cursor_past : (next : Option ℕ) → next ≡ first_key (behind_tree (from key (subtree top trees))) → left_at next (subtree top trees) ≡ here.rest
    cursor_past None e = no_trees here.rest (e ∙ ap (λ t. first_key (behind_tree t)) here.from_there)
    cursor_past (Some n) e = here.past n (sym (e ∙ ap (λ t. first_key (behind_tree t)) here.from_there))

    pub stepped : (next : Option ℕ) → next ≡ first_key (behind_node (from key (subtree top trees))) → IsCursor trees top next
    stepped next e = record {
      begins = ap first_key (cursor_step next e) ∙ sym (e ∙ ap (λ t. first_key (behind_node t)) here.from_there);
      node = λ n f. next_used trees top key here n (sym (e ∙ ap (λ t. first_key (behind_node t)) here.from_there) ∙ f);
    }

    pub passed : (next : Option ℕ) → next ≡ first_key (behind_tree (from key (subtree top trees))) → IsCursor trees top next
    passed next e = record {
      begins = ap first_key (cursor_past next e) ∙ sym (e ∙ ap (λ t. first_key (behind_tree t)) here.from_there);
      node = λ n f.
          omega (arith, first_used here.rest n (sym (e ∙ ap (λ t. first_key (behind_tree t)) here.from_there) ∙ f), uses-from key n (subtree top trees), ap (λ t. uses n t) here.from_there);
    }

    -- what is left then, of what was left before
    pub left_stepped : (next : Option ℕ) → next ≡ first_key (behind_node (from key (subtree top trees))) → left_at next (subtree top trees) ≡ behind_node (from key (subtree top trees))
    left_stepped next e = cursor_step next e ∙ sym (ap behind_node here.from_there)

    pub left_passed : (next : Option ℕ) → next ≡ first_key (behind_tree (from key (subtree top trees))) → left_at next (subtree top trees) ≡ behind_tree (from key (subtree top trees))
    left_passed next e = cursor_past next e ∙ sym (ap behind_tree here.from_there)

    -- the node to which the walk has come
    pub row_held : (item : Item) → Some item ≡ value_of key trees → Some (key, item) ≡ first_row (from key (subtree top trees))
    row_held item e = ap (λ (x : Item). Some (key, x)) (same_item item here.value (e ∙ here.held)) ∙ sym (ap first_row here.from_there)
      where
        same_item : (a b : Item) → Some a ≡ Some b → a ≡ b
        same_item a b e = cc

    pub row_there : None ≡ value_of key trees → ⊥
    row_there e = holds_value trees key once (used_within trees top once u key (h.node key refl)) e

    -- what is below it
    pub key_used : 1 ≤ uses key trees
    key_used = used_within trees top once u key (h.node key refl)

    pub left_below : behind_node (subtree key trees) ≡ below_first (from key (subtree top trees))
    left_below = ap behind_node here.inner ∙ (joined-none here.below ∙ sym (ap below_first here.from_there))

  -- a walk that has come to a node
  pub cursor_at : (key : ℕ) → 1 ≤ uses key (subtree top trees) → IsCursor trees top (Some key)
  cursor_at key v = record {
    begins = ap first_key (stop trees top key once u v).from_there;
    node = λ k e. subst (λ x. 1 ≤ uses x (subtree top trees)) (some_first key k e) v;
  }

-- a walk that is at its end
pub cursor_end : (trees : Trees Item) (top : ℕ) → IsCursor trees top None
cursor_end trees top = record { begins = refl; node = λ key e. absurd (none_first key e) }

pub root_used : (trees : Trees Item) (root : ℕ) → Some root ≡ first_key trees → 1 ≤ uses root trees
root_used trees root e = first_used trees root (sym e)

-- the tree of the first top is the first tree
pub subtree_root : (trees : Trees Item) (root : ℕ) → Some root ≡ first_key trees → subtree root trees ≡ front trees
subtree_root none root e = refl
subtree_root (tree key item below after) root e =
    let same : (key == root) ≡ true = subst (λ x. (key == x) ≡ true) (some_first key root (sym e)) (same_key key) in
    ap (λ b. if b then tree key item below none else if has_key root below then subtree root below else subtree root after) same
