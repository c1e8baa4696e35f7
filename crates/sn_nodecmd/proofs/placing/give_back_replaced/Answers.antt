use Rattle.std.proofs.Common.{◌∙◌, sym, arith}
use Rattle.sn_world.specs.NewNodes.{replaces}
use Rattle.sn_nodecmd.proofs.Replacing.{gone-times}
use Rattle.sn_nodecmd.proofs.placing.give_back_replaced.Goals as goal

pub returns-else-replaces-clause-live : goal.returns-else-replaces-clause-live
returns-else-replaces-clause-live c = λ e some. omega (arith, gone-times e (replaces c.args.new.now.action) c.args.new.now.target c.args.tree.now.attached (sym c.replaces.ensures ∙ c.if-replaces.false))
