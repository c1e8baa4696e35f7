use Rattle.std.proofs.Common.{◌∙◌, sym}
use Rattle.sn_nodecmd.proofs.RunLemmas.{first_values-some, first_values-none}
use Rattle.sn_nodecmd.proofs.runs.first_values.Goals as goal

pub returns-then-not-are_ints-clause-values : goal.returns-then-not-are_ints-clause-values
returns-then-not-are_ints-clause-values c = first_values-none c.args.count c.args.arguments.now c.if-count-arguments.false (sym c.are_ints.ensures ∙ c.if-not-are_ints.true)

pub returns-clause-values : goal.returns-clause-values
returns-clause-values c = first_values-some c.args.count c.args.arguments.now c.if-count-arguments.false (sym c.are_ints.ensures ∙ c.if-not-are_ints.false)
