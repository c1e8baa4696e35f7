use Rattle.std.proofs.Common.{◌≡◌, map, length}
use Rattle.sn_osc.specs.Shape.{argument_of}
use Rattle.sn_world.specs.Rows.{pairs}
use Rattle.sn_world.specs.Moving.{move_from}
use Rattle.sn_world.proofs.Parsing.{after}
use Rattle.sn_nodecmd.proofs.moving.moves.Given as goal

abbrev pub invariant-loop-rest : goal.invariant-loop-rest
invariant-loop-rest l = after l.found.items (pairs (move_from l.action) (map argument_of l.rest)) ≡ pairs (move_from l.action) (map argument_of l.arguments)

abbrev pub decreases-loop-rest : goal.decreases-loop-rest
decreases-loop-rest l = length l.rest
