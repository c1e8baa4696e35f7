use Rattle.std.proofs.Common.{map, length}
use Rattle.sn_nodecmd.specs.Runs.{run_of, reader}
use Rattle.sn_nodecmd.proofs.RunLemmas.{IsReading}
use Rattle.sn_nodecmd.proofs.runs.runs_of.Given as goal

abbrev pub invariant-loop-rest : goal.invariant-loop-rest
invariant-loop-rest l = IsReading (reader l.form) l.arguments (map run_of l.found.items) l.rest

abbrev pub decreases-loop-rest : goal.decreases-loop-rest
decreases-loop-rest l = length l.rest
