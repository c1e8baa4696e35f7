-- The running nodes of a stage that stands for a world are those of the walk.
use Rattle.std.proofs.Common.{◌≡◌, ℕ, List, pos, ap, ◌∙◌}
use Rattle.sn_mem.specs.declared.extents.Extent.{Extent}
use Rattle.sn_tree.specs.Trees.{Nodes, none, node, subtree}
use Rattle.sn_world.specs.Pictures.{AreHeld, Pictures}
use Rattle.sn_world.specs.declared.stage.Held.{Held}
use Rattle.sn_world.specs.declared.stage.Stage.{Stage}
use Rattle.sn_graph.specs.Voices.{voices}
use Rattle.sn_graph.specs.Stages.{clashing_in, nodes_in, running_of}
use Rattle.sn_play.specs.Synths.{voices_of, walk_synths}
use Rattle.sn_play.proofs.Walked.{KindsAgree, voices_are}

-- what the pictures of nodes say of their kinds
kinds_of : (rate : ℕ) (region : Extent) (t : Nodes Held) → AreHeld rate region t → KindsAgree t
kinds_of rate region none h = tt
kinds_of rate region (node label below after) h = (h.2, (kinds_of rate region below h.1.0, kinds_of rate region after h.1.1))

pub voices_walk : (stage : Stage) → subtree (pos 0) stage.tree.attached ≡ stage.tree.attached → (words : List ℕ) → Pictures stage words → voices (nodes_in stage) ≡ voices_of stage.buffers (walk_synths stage)
voices_walk stage top words p =
    ap (λ (t : Nodes Held). voices (running_of stage.buffers (clashing_in stage) t)) top
    ∙ voices_are stage.buffers (clashing_in stage) stage.tree.attached (kinds_of stage.rate stage.pool.region stage.tree.attached p.synths)
