use Rattle.std.proofs.Common.{◌≡◌, drop}
use Rattle.sn_pool.specs.Holes.{first_of}
use Rattle.sn_pool.proofs.holes.first_of.Given as goal

abbrev pub invariant-loop-run : goal.invariant-loop-run
invariant-loop-run l = first_of l.n l.runs ≡ first_of l.n (drop l.run-index l.runs)
