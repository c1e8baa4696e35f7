use Rattle.std.proofs.Common.{◌≡◌, map, length}
use Rattle.sn_osc.specs.Shape.{argument_of}
use Rattle.sn_world.specs.Rows.{triples}
use Rattle.sn_world.specs.NewNodes.{new_group}
use Rattle.sn_world.proofs.Parsing.{after}
use Rattle.sn_nodecmd.proofs.groups.groups_of.Given as goal

abbrev pub invariant-loop-rest : goal.invariant-loop-rest
invariant-loop-rest l = after l.found.items (triples (new_group l.parallel) (map argument_of l.rest)) ≡ triples (new_group l.parallel) (map argument_of l.arguments)

abbrev pub decreases-loop-rest : goal.decreases-loop-rest
decreases-loop-rest l = length l.rest
