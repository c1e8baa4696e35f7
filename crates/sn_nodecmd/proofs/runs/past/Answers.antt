use Rattle.sn_nodecmd.proofs.RunLemmas.{past-mapped}
use Rattle.sn_nodecmd.proofs.runs.past.Goals as goal

pub returns-clause-arguments : goal.returns-clause-arguments
returns-clause-arguments c = past-mapped c.args.count c.args.arguments.now
