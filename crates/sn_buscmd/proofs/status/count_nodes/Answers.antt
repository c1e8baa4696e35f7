use Rattle.std.proofs.Common.{◌∙◌}
use Rattle.sn_buscmd.proofs.StatusLemmas.{all-counted}
use Rattle.sn_buscmd.proofs.status.count_nodes.Goals as goal

pub returns : goal.returns
returns c = λ words. c.tally.ensures ∙ all-counted words c.args.stage.now.tree.attached
