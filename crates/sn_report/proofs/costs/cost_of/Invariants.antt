-- What was added, and what the synths that are left cost, is what all cost.
use Rattle.std.proofs.Common.{◌≡◌, ◌+◌, drop}
use Rattle.sn_report.specs.Costs.{cost_of, units_in}
use Rattle.sn_report.proofs.costs.cost_of.Given as goal

abbrev pub invariant-loop-id : goal.invariant-loop-id
invariant-loop-id l = l.cost + cost_of (units_in l.stage) (drop l.id-index l.synths) ≡ cost_of (units_in l.stage) l.synths
