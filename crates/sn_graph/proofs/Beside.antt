-- The states of two nodes of which neither stands at or below the other are a part of all states.
use Rattle.std.proofs.Common.{◌≡◌, ◌≤◌, ℕ, ◌+◌, ℤ, Bool, true, false, ◌||◌, if◌then◌else◌, List, [], ◌++◌, map, sym, ◌∙◌, arith, true≢false}
use Rattle.std.specs.Prelude.{◌↔◌}
use Rattle.std.specs.Ordering.{int_eq}
use Rattle.std.proofs.lemmas.Bool.{cond_both, or_parts}
use Rattle.sn_foot.specs.Reaches.{ReachesClash}
use Rattle.sn_mem.specs.Buffers.{overlaps}
use Rattle.sn_mem.proofs.BufferWords.{overlaps-append}
use Rattle.sn_tree.specs.Trees as trees
use Rattle.sn_tree.specs.Trees.{Label, Nodes, holds, running_labels, subtree}
use Rattle.sn_world.specs.declared.stage.Held.{Held}
use Rattle.sn_world.specs.declared.stage.Stage.{Stage}
use Rattle.sn_world.specs.Pictures.{Pictures, live_held}
use Rattle.sn_foot.specs.Footprints.{foot_at, footprint_at, found_at, is_reached, states_of}
use Rattle.sn_foot.specs.Footprints.{Clash as FootprintsClash}
use Rattle.sn_graph.proofs.Clearing.{few_states, fewer, live_below, live_parts}
use Rattle.sn_graph.proofs.Resources.{clash_agrees}
use Rattle.sn_graph.proofs.Worlds.{world_disjoint}

-- in how many of these states a word lies
abbrev covered : ℕ → Nodes Held → ℕ
covered x t = overlaps x (live_held t)

-- a node below the first one, or after it
abbrev later : ℤ → Nodes Held → Nodes Held → Nodes Held
later id below after = if holds id below then subtree id below else subtree id after

never : {A : Type 0} (b : Bool) → b ≡ true → b ≡ false → A
never b h k = absurd (true≢false (sym h ∙ k))

module _ (x : ℕ) (id : ℤ) (label : Label Held) (below after : Nodes Held) (apart : holds id (trees.node label below trees.none) ≡ false) where
  not_there : (int_eq label.id id ≡ false) × (holds id below ≡ false)
  not_there =
      let p = or_parts (int_eq label.id id) (holds id below || false) apart in
      (p.0, (or_parts (holds id below) false p.1).0)

  -- what does not stand at or below the first node stands after it
  later_beside : covered x (trees.node label below trees.none) + covered x (later id below after) ≤ covered x (trees.node label below after)
  later_beside =
      cond_both (holds id below) (subtree id below) (subtree id after) (λ u. covered x (trees.node label below trees.none) + covered x u ≤ covered x (trees.node label below after))
      (λ h. never (holds id below) h not_there.1)
      (λ h. omega (arith, live_parts x label below after, live_parts x label below trees.none, live_below x id after))

  first_beside : covered x (trees.node label below trees.none) + covered x (subtree id (trees.node label below after)) ≤ covered x (trees.node label below after)
  first_beside =
      cond_both (int_eq label.id id) (trees.node label below trees.none) (later id below after) (λ u. covered x (trees.node label below trees.none) + covered x u ≤ covered x (trees.node label below after))
      (λ h. never (int_eq label.id id) h not_there.0)
      (λ h. later_beside)

both_within : (x : ℕ) (a b : ℤ) (t : Nodes Held) → holds a (subtree b t) ≡ false → holds b (subtree a t) ≡ false → covered x (subtree a t) + covered x (subtree b t) ≤ covered x t
both_within x a b trees.none h k = omega arith
both_within x a b (trees.node label below after) h k =
    let here : Nodes Held = trees.node label below trees.none in
    let whole : Nodes Held = trees.node label below after in
    cond_both (int_eq label.id b) here (later b below after) (λ v. holds a v ≡ false → holds b (subtree a whole) ≡ false → covered x (subtree a whole) + covered x v ≤ covered x whole)
    (λ s m n. omega (arith, first_beside x a label below after m))
    (λ s. cond_both (int_eq label.id a) here (later a below after) (λ u. holds a (later b below after) ≡ false → holds b u ≡ false → covered x u + covered x (later b below after) ≤ covered x whole)
    (λ s m n. later_beside x b label below after n)
    (λ s. cond_both (holds a below) (subtree a below) (subtree a after) (λ u. holds a (later b below after) ≡ false → holds b u ≡ false → covered x u + covered x (later b below after) ≤ covered x whole)
    (λ s. cond_both (holds b below) (subtree b below) (subtree b after) (λ v. holds a v ≡ false → holds b (subtree a below) ≡ false → covered x (subtree a below) + covered x v ≤ covered x whole)
    (λ s m n. omega (arith, live_parts x label below after, both_within x a b below m n))
    (λ s m n. omega (arith, live_parts x label below after, live_below x a below, live_below x b after)))
    (λ s. cond_both (holds b below) (subtree b below) (subtree b after) (λ v. holds a v ≡ false → holds b (subtree a after) ≡ false → covered x (subtree a after) + covered x v ≤ covered x whole)
    (λ s m n. omega (arith, live_parts x label below after, live_below x a after, live_below x b below))
    (λ s m n. omega (arith, live_parts x label below after, both_within x a b after m n)))))
    h k

-- what the walk finds at a node has no more states
found_within : (x : ℕ) (id : ℤ) (t : Nodes Held) → overlaps x (states_of (found_at id t)) ≤ covered x (subtree id t)
found_within x id t =
    cond_both (is_reached id t) (map (λ (l : Label Held). l.payload) (running_labels (subtree id t))) [] (λ hs. overlaps x (states_of hs) ≤ covered x (subtree id t))
    (λ b. few_states x (subtree id t))
    (λ b. omega arith)

pub nodes_agree : (stage : Stage) (words : List ℕ) (a b : ℤ) → Pictures stage words → holds a (subtree b stage.tree.attached) ≡ false → holds b (subtree a stage.tree.attached) ≡ false
    → ReachesClash (foot_at stage.buffers a stage.tree.attached) (foot_at stage.buffers b stage.tree.attached) ↔ FootprintsClash (footprint_at stage.buffers a stage.tree.attached) (footprint_at stage.buffers b stage.tree.attached)
nodes_agree stage words a b p h k =
    let t = stage.tree.attached in
    let hs = found_at a t in
    let ks = found_at b t in
    clash_agrees stage.buffers hs ks
    (fewer stage.buffers (live_held t) (states_of hs ++ states_of ks) (world_disjoint stage words p)
    (λ x. omega (arith, overlaps-append x (states_of hs) (states_of ks), found_within x a t, found_within x b t, both_within x a b t h k)))
