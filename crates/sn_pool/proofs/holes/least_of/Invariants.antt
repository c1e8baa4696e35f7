use Rattle.std.proofs.Common.{◌≡◌, drop}
use Rattle.sn_pool.specs.Holes.{least_of}
use Rattle.sn_pool.proofs.holes.least_of.Given as goal

abbrev pub invariant-loop-run : goal.invariant-loop-run
invariant-loop-run l = least_of l.least (drop l.run-index l.runs) ≡ least_of l.place l.runs
