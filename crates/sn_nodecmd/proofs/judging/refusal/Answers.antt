use Rattle.std.proofs.Common.{◌∙◌, arith}
use Rattle.sn_nodecmd.specs.Judging.{reason_against_new}
use Rattle.sn_nodecmd.proofs.Judged.{judged_node}
use Rattle.sn_nodecmd.proofs.judging.refusal.Goals as goal

pub returns : goal.returns
returns c =
    c.reason_against_new.ensures
    ∙ (λ i. reason_against_new (c.is_known.ensures i) (c.fault_of.ensures i))
    ∙ judged_node c.args.node.now.id c.args.new.now.action c.args.new.now.target c.args.tree.now.attached (omega arith)
