-- What a node's kind says of what it holds stays when the nodes below it change.
use Rattle.std.proofs.Common.{◌≡◌, ℤ, true, false, ap, sym, ◌∙◌, true≢false}
use Rattle.sn_tree.specs.declared.node.NodeKind.{NodeKind}
use Rattle.sn_tree.specs.declared.node.NodeKind.TheVariants as kinds
use Rattle.sn_tree.specs.Faults.{is_synth}
use Rattle.sn_tree.specs.Trees.{Nodes, holds}
use Rattle.sn_world.specs.declared.stage.Held.{Held}
use Rattle.sn_world.specs.Pictures.{KindAgrees}

-- a node with one below it is a group
pub kind-below : (kind : NodeKind) (h : Held) (below other : Nodes Held) (x : ℤ) → KindAgrees kind h below → holds x below ≡ true → KindAgrees kind h other
kind-below kinds.Synth h below other x is some = absurd (true≢false (sym some ∙ ap (holds x) is.1))
kind-below kinds.Group h below other x is some = is
kind-below kinds.Parallel h below other x is some = is

pub kind-inside : (kind : NodeKind) (h : Held) (below other : Nodes Held) → is_synth kind ≡ false → KindAgrees kind h below → KindAgrees kind h other
kind-inside kinds.Synth h below other group is = absurd (true≢false group)
kind-inside kinds.Group h below other group is = is
kind-inside kinds.Parallel h below other group is = is
