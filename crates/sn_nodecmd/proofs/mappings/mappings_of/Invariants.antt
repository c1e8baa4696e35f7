use Rattle.std.proofs.Common.{◌≡◌, map, length}
use Rattle.sn_osc.specs.Shape.{argument_of}
use Rattle.sn_world.specs.Rows.{pairs}
use Rattle.sn_world.specs.Mappings.{mapping}
use Rattle.sn_world.proofs.Parsing.{after}
use Rattle.sn_nodecmd.specs.Mapped.{mapping_of}
use Rattle.sn_nodecmd.proofs.mappings.mappings_of.Given as goal

abbrev pub invariant-loop-rest : goal.invariant-loop-rest
invariant-loop-rest l = after (map mapping_of l.found.items) (pairs mapping (map argument_of l.rest)) ≡ pairs mapping (map argument_of l.arguments)

abbrev pub decreases-loop-rest : goal.decreases-loop-rest
decreases-loop-rest l = length l.rest
