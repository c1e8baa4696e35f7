use Rattle.std.proofs.Common.{◌∙◌, ap}
use Rattle.std.specs.Option.{option_map}
use Rattle.sn_nodecmd.proofs.OrderLemmas.{kind_seen}
use Rattle.sn_nodecmd.proofs.ordering.target_kind.Goals as goal

pub returns-in-Some : goal.returns-in-Some
returns-in-Some c = ap (option_map (λ v. v.kind)) c.in-Some.ensures ∙ kind_seen c.args.place.now.target c.args.tree.now.attached

pub returns-in-None : goal.returns-in-None
returns-in-None c = ap (option_map (λ v. v.kind)) c.in-None.ensures ∙ kind_seen c.args.place.now.target c.args.tree.now.attached
