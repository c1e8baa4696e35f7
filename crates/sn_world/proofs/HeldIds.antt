-- The ids of nodes after a change: which of them were there before.
use Rattle.std.proofs.Common.{◌≡◌, ◌≤◌, ◌||◌, ◌⊎◌, ℕ, ℤ, Bool, true, false, inl, inr, refl, sym, ⊎_elim, arith, true≢false}
use Rattle.std.specs.Prelude.{if◌then◌else◌}
use Rattle.std.specs.Ordering.{int_eq}
use Rattle.std.proofs.lemmas.Bool.{cases_Bool, or_cases, true_from_ne_false}
use Rattle.std.proofs.lemmas.Bool.Decides.{Decides-int_eq}
use Rattle.sn_mem.specs.Buffers.{Resources}
use Rattle.sn_tree.specs.declared.node.AddAction.{AddAction}
use Rattle.sn_tree.specs.declared.node.NodeKind.{NodeKind}
use Rattle.sn_tree.specs.Trees.{Label, Nodes, none, node, holds, ids, put, leaf, subtree, without, changed, with_running, with_payload, with_payloads}
use Rattle.sn_tree.specs.Reworking.{reworked}
use Rattle.sn_tree.specs.Steps.{occurrences}
use Rattle.sn_tree.proofs.Distinct.{occurs-node, occurs-put, occurs-parts, occurs-set, not_held}
use Rattle.sn_tree.proofs.PayloadLaws.{holds-payloads}
use Rattle.sn_world.specs.declared.repetition.NewNode.{NewNode}
use Rattle.sn_world.specs.Nodes.{Content}
use Rattle.sn_world.specs.NewNodes.{action_for, replaces, left_by, placed}
use Rattle.sn_world.specs.Settling.{settled_content, settled_nodes}
use Rattle.sn_world.specs.Walk.{Walked, content_after, walk_nodes}

module _ {P : Type 0} (x : ℤ) where
  held_occurs : (t : Nodes P) → holds x t ≡ true → 1 ≤ occurrences int_eq x (ids t)
  held_occurs none h = absurd (true≢false (sym h))
  held_occurs (node label below after) h =
      ⊎_elim
      (λ (n : int_eq label.id x ≡ true). let one : ◌≡◌ {A = ℕ} (if int_eq label.id x then 1 else 0) 1 = rw n refl in omega (arith, one, occurs-node x label below after))
      (λ (r : (holds x below || holds x after) ≡ true). ⊎_elim
      (λ (b : holds x below ≡ true). omega (arith, held_occurs below b, occurs-node x label below after))
      (λ (a : holds x after ≡ true). omega (arith, held_occurs after a, occurs-node x label below after))
      (or_cases (holds x below) (holds x after) r))
      (or_cases (int_eq label.id x) (holds x below || holds x after) h)

  held_from : (t : Nodes P) → 1 ≤ occurrences int_eq x (ids t) → holds x t ≡ true
  held_from t more = true_from_ne_false (holds x t) (λ (n : holds x t ≡ false). omega (arith, not_held x t n, more))

  pub held_put : (action : AddAction) (target : ℤ) (new t : Nodes P) → holds x (put action target new t) ≡ true → (holds x t ≡ true) ⊎ (holds x new ≡ true)
  held_put action target new t h =
      ⊎_elim
      (λ (k : holds x t ≡ true). inl k)
      (λ (n : holds x t ≡ false). inr (held_from new (omega (arith, held_occurs (put action target new t) h, occurs-put x action target new t, not_held x t n))))
      (cases_Bool (holds x t))

  pub held_without : (id : ℤ) (t : Nodes P) → holds x (without id t) ≡ true → holds x t ≡ true
  held_without id t h = held_from t (omega (arith, held_occurs (without id t) h, occurs-parts x id t))

  pub held_subtree : (id : ℤ) (t : Nodes P) → holds x (subtree id t) ≡ true → holds x t ≡ true
  held_subtree id t h = held_from t (omega (arith, held_occurs (subtree id t) h, occurs-parts x id t))

  pub held_turned : (id : ℤ) (on : Bool) (t : Nodes P) → holds x (changed id (with_running on) t) ≡ true → holds x t ≡ true
  held_turned id on t h = held_from t (omega (arith, held_occurs (changed id (with_running on) t) h, occurs-set x id on t))

  pub held_moved : (action : AddAction) (target id : ℤ) (t : Nodes P) → holds x (put action target (subtree id t) (without id t)) ≡ true → holds x t ≡ true
  held_moved action target id t h =
      ⊎_elim
      (λ (k : holds x (without id t) ≡ true). held_without id t k)
      (λ (k : holds x (subtree id t) ≡ true). held_subtree id t k)
      (held_put action target (subtree id t) (without id t) h)

  held_left : (b : Bool) (target : ℤ) (t : Nodes P) → holds x (left_by b target t) ≡ true → holds x t ≡ true
  held_left true target t h = held_without target t h
  held_left false target t h = h

  pub held_leaf : (id : ℤ) (kind : NodeKind) (payload : P) → holds x (leaf id kind payload) ≡ true → x ≡ id
  held_leaf id kind payload h =
      ⊎_elim
      (λ (n : int_eq id x ≡ true). sym ((Decides-int_eq id x).0 n))
      (λ (n : false ≡ true). absurd (true≢false (sym n)))
      (or_cases (int_eq id x) false h)

  -- a node that was placed
  pub held_placed : (r : NewNode) (id : ℤ) (kind : NodeKind) (payload : P) (t : Nodes P) → holds x (placed r (leaf id kind payload) t) ≡ true → (holds x t ≡ true) ⊎ (x ≡ id)
  held_placed r id kind payload t h =
      ⊎_elim
      (λ (k : holds x t ≡ true). inl k)
      (λ (k : holds x (leaf id kind payload) ≡ true). inr (held_leaf id kind payload k))
      (held_put (action_for r.action) r.target (leaf id kind payload) t (held_left (replaces r.action) r.target (put (action_for r.action) r.target (leaf id kind payload) t) h))

  pub held_reworked : (change : P → P) (id : ℤ) (t : Nodes P) → holds x (reworked change id t) ≡ holds x t
  held_reworked change id none = refl
  held_reworked change id (node label below after) = at (int_eq label.id id) (holds id below) (held_reworked change id below) (held_reworked change id after)
    where
      at : (here inner : Bool) → holds x (reworked change id below) ≡ holds x below → holds x (reworked change id after) ≡ holds x after
          → holds x (if here then node (with_payload (change label.payload) label) (with_payloads change below) after else if inner then node label (reworked change id below) after else node label below (reworked change id after)) ≡ holds x (node label below after)
      at true inner p q = λ i. int_eq label.id x || (holds-payloads change x below i || holds x after)
      at false true p q = λ i. int_eq label.id x || (p i || holds x after)
      at false false p q = λ i. int_eq label.id x || (holds x below || q i)

-- ---- nodes after a block

module _ (x : ℤ) (rate : ℕ) where
  pub held_settled : (t : Nodes Content) → holds x (settled_nodes rate t) ≡ holds x t
  held_settled none = refl
  held_settled (node label below after) = at label.running (held_settled below) (held_settled after)
    where
      at : (on : Bool) → holds x (settled_nodes rate below) ≡ holds x below → holds x (settled_nodes rate after) ≡ holds x after
          → holds x (if on then node (with_payload (settled_content rate label.payload) label) (settled_nodes rate below) (settled_nodes rate after) else node label below (settled_nodes rate after)) ≡ holds x (node label below after)
      at true p q = λ i. int_eq label.id x || (p i || q i)
      at false p q = λ i. int_eq label.id x || (holds x below || q i)

abbrev ran : ℕ → ℕ → Label Content → Nodes Content → Nodes Content → Content × Resources → Walked
ran rate b label below after here =
    let inner = walk_nodes rate b below here.1 in
    let rest = walk_nodes rate b after inner.resources in
    record { nodes = node (with_payload here.0 label) inner.nodes rest.nodes; resources = rest.resources }

abbrev paused : ℕ → ℕ → Label Content → Nodes Content → Nodes Content → Resources → Walked
paused rate b label below after resources =
    let rest = walk_nodes rate b after resources in
    record { nodes = node label below rest.nodes; resources = rest.resources }

module _ (x : ℤ) (rate b : ℕ) where
  pub held_walked : (t : Nodes Content) (r : Resources) → holds x (walk_nodes rate b t r).nodes ≡ holds x t
  held_walked none r = refl
  held_walked (node label below after) r = at label.running (content_after rate b label.id label.payload r) (λ s. held_walked below s) (λ s. held_walked after s)
    where
      at : (on : Bool) (here : Content × Resources) → ((s : Resources) → holds x (walk_nodes rate b below s).nodes ≡ holds x below) → ((s : Resources) → holds x (walk_nodes rate b after s).nodes ≡ holds x after)
          → holds x (if on then ran rate b label below after here else paused rate b label below after r).nodes ≡ holds x (node label below after)
      at true here p q = λ i. int_eq label.id x || (p here.1 i || q (walk_nodes rate b below here.1).resources i)
      at false here p q = λ i. int_eq label.id x || (holds x below || q r i)
