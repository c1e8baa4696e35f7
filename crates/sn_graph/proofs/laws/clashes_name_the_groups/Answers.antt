use Rattle.sn_graph.proofs.Distinctly.{names_are}
use Rattle.sn_graph.proofs.laws.clashes_name_the_groups.Goals as goal

pub returns : goal.returns
returns c = λ id. names_are c.args.stage.now.buffers id c.args.stage.now.tree.attached c.ids_are_distinct.ensures
