use Rattle.std.proofs.Common.{◌∙◌, sym}
use Rattle.sn_nodecmd.proofs.Stepping.{free_refusal_in}
use Rattle.sn_nodecmd.proofs.freeing.NodeIdRepetition.step.Goals as goal

pub returns-in-Some-clause-row : goal.returns-in-Some-clause-row
returns-in-Some-clause-row c = λ words. free_refusal_in c.args.stage.now words c.args.self.now.id ∙ sym c.in-Some.ensures

pub returns-clause-row : goal.returns-clause-row
returns-clause-row c = λ words. (free_refusal_in c.args.stage.now words c.args.self.now.id ∙ sym c.in_default.ensures, c.in_ok-free_node.ensures.row words)
