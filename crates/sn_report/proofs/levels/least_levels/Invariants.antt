-- The levels of the jobs so far.
use Rattle.sn_report.specs.Costs.{units_in}
use Rattle.sn_report.specs.Tracing.{AreLeast}
use Rattle.sn_report.proofs.levels.least_levels.Given as goal

abbrev pub invariant-loop-job : goal.invariant-loop-job
invariant-loop-job l = AreLeast (units_in l.stage) l.plan l.job l.levels.items
