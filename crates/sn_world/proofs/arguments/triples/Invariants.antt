use Rattle.std.proofs.Common.{◌≡◌, map, length}
use Rattle.sn_osc.specs.Shape.{argument_of}
use Rattle.sn_world.specs.Rows.{triples}
use Rattle.sn_world.proofs.Parsing.{after}
use Rattle.sn_world.proofs.arguments.triples.Given as goal

abbrev pub invariant-loop-rest : goal.invariant-loop-rest
invariant-loop-rest g l = after l.found.items (triples g.R.Triple.from_three (map argument_of l.rest)) ≡ triples g.R.Triple.from_three (map argument_of l.arguments)

abbrev pub decreases-loop-rest : goal.decreases-loop-rest
decreases-loop-rest g l = length l.rest
