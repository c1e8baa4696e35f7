-- `/n_query`: what is told of a node.
use Rattle.std.proofs.Common.{◌≡◌, ℕ, negsuc, List, Option, ap, sym, ◌∙◌}
use Rattle.sn_reply.specs.Replies.{ReplyShape}
use Rattle.sn_tree.specs.declared.node.NodeView.{NodeView}
use Rattle.sn_tree.specs.Trees.{view_of}
use Rattle.sn_tree.proofs.PayloadLaws.{view-payloads}
use Rattle.sn_world.specs.declared.node_repetition.NodeQuery.{NodeQuery}
use Rattle.sn_world.specs.declared.stage.Stage.{Stage}
use Rattle.sn_world.specs.Nodes.{content_of}
use Rattle.sn_world.specs.World.{turn_of}
use Rattle.sn_world.specs.Queries.{info_at, act_query}

-- a node as it is seen in the world
pub informed : (stage : Stage) (words : List ℕ) (replies : List ReplyShape) (from : ℕ) (r : NodeQuery) (o : Option NodeView) → o ≡ view_of r.id stage.tree.attached
    → info_at from r.id o (turn_of stage words replies) ≡ act_query from r (turn_of stage words replies)
informed stage words replies from r o e =
    ap (λ (p : Option NodeView). info_at from r.id p (turn_of stage words replies)) (e ∙ sym (view-payloads (content_of words) (negsuc 0) (negsuc 0) r.id stage.tree.attached))
