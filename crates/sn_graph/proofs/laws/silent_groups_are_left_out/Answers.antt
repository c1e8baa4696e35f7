use Rattle.std.specs.Prelude.{pos}
use Rattle.sn_tree.specs.Trees.{subtree}
use Rattle.sn_graph.specs.Stages.{clashing_in}
use Rattle.sn_graph.proofs.Hearing.{all_heard}
use Rattle.sn_graph.proofs.laws.silent_groups_are_left_out.Goals as goal

pub returns : goal.returns
returns c = all_heard c.args.stage.now.buffers (clashing_in c.args.stage.now) (subtree (pos 0) c.args.stage.now.tree.attached)
