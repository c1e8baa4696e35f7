use Rattle.std.proofs.Common.{◌≡◌, map, drop}
use Rattle.sn_osc.specs.Shape.{argument_of}
use Rattle.sn_world.specs.Rows.{singles}
use Rattle.sn_world.specs.Forgetting.{name_of}
use Rattle.sn_world.proofs.Parsing.{after}
use Rattle.sn_ports.specs.Octets.{bytes_of}
use Rattle.sn_buscmd.proofs.freeing.names.Given as goal

abbrev pub invariant-loop-argument : goal.invariant-loop-argument
invariant-loop-argument l = after (map bytes_of l.found.items) (singles name_of (map argument_of (drop l.argument-index l.arguments))) ≡ singles name_of (map argument_of l.arguments)
