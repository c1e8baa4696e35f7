-- The jobs so far cost no more than their levels.
use Rattle.std.proofs.Common.{◌≡◌, true}
use Rattle.std.specs.Prelude.{nat_le}
use Rattle.std.specs.List.{list_all}
use Rattle.sn_report.specs.Costs.{units_in}
use Rattle.sn_report.specs.Certificates.{below, cost_after, level_at}
use Rattle.sn_report.proofs.checking.have_levels.Given as goal

abbrev pub invariant-loop-job : goal.invariant-loop-job
invariant-loop-job l = list_all (λ j. nat_le (cost_after (units_in l.stage) l.plan l.levels j) (level_at l.levels j)) (below l.job) ≡ true
