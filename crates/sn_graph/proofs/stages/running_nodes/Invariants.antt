-- What is kept and what is left of the walk, from its end on.
use Rattle.std.proofs.Common.{◌≡◌, [], length, map}
use Rattle.std.specs.Prelude.{pos}
use Rattle.std.specs.List.{All}
use Rattle.sn_tree.specs.Trees.{subtree}
use Rattle.sn_tree.specs.Members.{members}
use Rattle.sn_foot.specs.Canonical.{Ends}
use Rattle.sn_clash.specs.Rows.{row_of}
use Rattle.sn_graph.specs.Pieces.{built, pieces}
use Rattle.sn_graph.proofs.Staging.{states_at}
use Rattle.sn_graph.proofs.stages.running_nodes.Given as goal

abbrev pub invariant-loop-member : goal.invariant-loop-member
invariant-loop-member l = record {
  all : built l.stage.buffers l.clashing (map row_of l.members.items) (pieces l.parts.items) ≡ built l.stage.buffers l.clashing (members (subtree (pos 0) l.stage.tree.attached)) [];
  states : All Ends (states_at (map row_of l.members.items));
}

abbrev pub decreases-loop-member : goal.decreases-loop-member
decreases-loop-member l = length l.members.items
