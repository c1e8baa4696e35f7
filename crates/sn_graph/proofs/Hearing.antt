-- A group in which no synth runs is left out, and no synth with it.
use Rattle.std.proofs.Common.{◌≡◌, ◌≤◌, ℤ, Bool, false, List, ◌++◌, Option, length, true≢false, length-append, refl, arith}
use Rattle.std.proofs.lemmas.Bool.{cond_both}
use Rattle.sn_mem.specs.declared.buffers.BufferPlace.{BufferPlace}
use Rattle.sn_tree.specs.declared.node.NodeKind.{NodeKind}
use Rattle.sn_tree.specs.declared.node.NodeKind.TheVariants as kinds
use Rattle.sn_tree.specs.Trees as trees
use Rattle.sn_tree.specs.Trees.{Label, Nodes}
use Rattle.sn_world.specs.declared.stage.Held.{Held}
use Rattle.sn_graph.specs.Voices.{HeardNodes, none, synth, group, is_none, voices, AreHeard}
use Rattle.sn_graph.specs.Stages.{may_split, with_group, with_node, running_of}

pub voices_group : (flag : Bool) (below after : HeardNodes) → voices (with_group flag below after) ≡ voices below ++ voices after
voices_group flag none after = refl
voices_group flag (synth v rest) after = refl
voices_group flag (group f inner rest) after = refl

-- nodes that are heard have a synth, if there are any
some_heard : (nodes : HeardNodes) → AreHeard nodes → is_none nodes ≡ false → 1 ≤ length (voices nodes)
some_heard none heard some = absurd (true≢false some)
some_heard (synth v rest) heard some = omega arith
some_heard (group lanes inner rest) heard some = omega (arith, heard.0, length-append (voices inner) (voices rest))

heard_group : (flag : Bool) (below after : HeardNodes) → AreHeard below → AreHeard after → AreHeard (with_group flag below after)
heard_group flag none after b a = a
heard_group flag (synth v rest) after b a = (some_heard (synth v rest) b refl, (b, a))
heard_group flag (group f inner rest) after b a = (some_heard (group f inner rest) b refl, (b, a))

module _ (buffers : List (Option BufferPlace)) (clashing : List ℤ) where
  heard_node : (kind : NodeKind) (label : Label Held) (below after : HeardNodes) → AreHeard below → AreHeard after → AreHeard (with_node buffers clashing kind label below after)
  heard_node kinds.Synth label below after b a = a
  heard_node kinds.Group label below after b a = heard_group false below after b a
  heard_node kinds.Parallel label below after b a = heard_group (may_split clashing label.id) below after b a

  pub all_heard : (t : Nodes Held) → AreHeard (running_of buffers clashing t)
  all_heard trees.none = tt
  all_heard (trees.node label below after) =
      cond_both label.running (with_node buffers clashing label.kind label (running_of buffers clashing below) (running_of buffers clashing after)) (running_of buffers clashing after) AreHeard
      (λ runs. heard_node label.kind label (running_of buffers clashing below) (running_of buffers clashing after) (all_heard below) (all_heard after))
      (λ paused. all_heard after)
