use Rattle.std.proofs.Common.{◌≡◌, map, length}
use Rattle.sn_osc.specs.Shape.{argument_of}
use Rattle.sn_world.specs.Runs.{value_runs}
use Rattle.sn_world.proofs.Parsing.{after}
use Rattle.sn_world.proofs.runs.value_runs.Given as goal

abbrev pub invariant-loop-rest : goal.invariant-loop-rest
invariant-loop-rest l = after l.found.items (value_runs (map argument_of l.rest)) ≡ value_runs (map argument_of l.arguments)

abbrev pub decreases-loop-rest : goal.decreases-loop-rest
decreases-loop-rest l = length l.rest
