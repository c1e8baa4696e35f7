use Rattle.std.proofs.Common.{◌≡◌, map, drop}
use Rattle.sn_def.specs.Defs.{definition_of}
use Rattle.sn_nodecmd.specs.Runs.{run_of}
use Rattle.sn_nodecmd.specs.Resolving.{entered}
use Rattle.sn_nodecmd.proofs.resolved.enter_all.Given as goal

abbrev pub invariant-loop-run : goal.invariant-loop-run
invariant-loop-run l = entered (map run_of (drop l.run-index l.runs)) (definition_of l.def) l.last ≡ entered (map run_of l.runs) (definition_of l.def) l.fn.last
