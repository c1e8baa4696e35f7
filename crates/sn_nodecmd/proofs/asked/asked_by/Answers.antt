use Rattle.std.proofs.Common.{◌∙◌, sym}
use Rattle.sn_nodecmd.proofs.AskedLemmas.{asked-made}
use Rattle.sn_nodecmd.proofs.asked.asked_by.Goals as goal

pub returns-clause-request : goal.returns-clause-request
returns-clause-request c =
    asked-made c.args.arguments.now c.name-item.result c.id-item.result c.action-item.result c.target-item.result
    c.in-Some.name.now c.in-Some-from_three.node
    c.in-len4-up.len_at_least c.name-item.is c.id-item.is c.action-item.is c.target-item.is
    c.in-Some.ensures c.in-Some-from_three.ensures
    (sym c.are_values.ensures ∙ c.if-not-are_values.false)
