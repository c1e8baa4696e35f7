use Rattle.std.proofs.Common.{◌≡◌, map, drop}
use Rattle.sn_def.specs.Defs.{definition_of}
use Rattle.sn_nodecmd.specs.Runs.{run_of}
use Rattle.sn_nodecmd.specs.Laying.{laid_runs}
use Rattle.sn_nodecmd.proofs.laying.lay_runs.Given as goal

abbrev pub invariant-loop-run : goal.invariant-loop-run
invariant-loop-run l = laid_runs l.field (map run_of (drop l.run-index l.runs)) (definition_of l.def) l.controls ≡ laid_runs l.field (map run_of l.runs) (definition_of l.def) l.fn.controls
