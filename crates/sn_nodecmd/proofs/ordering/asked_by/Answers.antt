use Rattle.std.proofs.Common.{◌-◌, ap, length}
use Rattle.std.specs.Option.{option_map}
use Rattle.sn_nodecmd.proofs.OrderLemmas.{order-short}
use Rattle.sn_nodecmd.proofs.ordering.asked_by.Goals as goal

pub returns-clause-few : goal.returns-clause-few
returns-clause-few c =
    order-short c.args.arguments.now (length c.args.arguments.now - 2) _ c.in-Some-2.nodes.items c.in_ok-nodes.ensures (ap (option_map (λ v. v.items)) c.in-Some-2.is)
