use Rattle.std.proofs.Common.{◌∙◌}
use Rattle.sn_nodecmd.specs.Runs.{reader}
use Rattle.sn_layout.proofs.Runs.{node_first}
use Rattle.sn_layout.proofs.controls.sets_plain.Goals as goal

pub returns : goal.returns
returns c = λ is. node_first c.args.tree.now.attached (reader c.args.form) c.args.arguments.now c.node-item.result c.in-len1-up.len_at_least c.node-item.is ∙ c.node_plain.ensures is
