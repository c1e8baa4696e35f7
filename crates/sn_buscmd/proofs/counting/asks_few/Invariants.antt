use Rattle.std.proofs.Common.{◌≡◌, ◌+◌, drop}
use Rattle.sn_world.specs.Runs.{total_of}
use Rattle.sn_buscmd.proofs.counting.asks_few.Given as goal

abbrev pub invariant-loop-run : goal.invariant-loop-run
invariant-loop-run g l = l.left + total_of g.R.Counted.places l.runs ≡ 8192 + total_of g.R.Counted.places (drop l.run-index l.runs)
