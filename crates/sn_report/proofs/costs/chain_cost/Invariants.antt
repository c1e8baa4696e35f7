-- What was added, and what the jobs that are left cost, is what all cost.
use Rattle.std.proofs.Common.{◌≡◌, ◌+◌, drop}
use Rattle.sn_report.specs.Costs.{units_in}
use Rattle.sn_report.specs.Certificates.{chain_cost}
use Rattle.sn_report.proofs.costs.chain_cost.Given as goal

abbrev pub invariant-loop-job : goal.invariant-loop-job
invariant-loop-job l = l.cost + chain_cost (units_in l.stage) l.plan (drop l.job-index l.chain) ≡ chain_cost (units_in l.stage) l.plan l.chain
