use Rattle.std.proofs.Common.{◌≡◌, map, drop}
use Rattle.sn_world.specs.Definitions.{definitions_of}
use Rattle.sn_world.specs.Names.{names_in}
use Rattle.sn_world.specs.Forgetting.{are_known}
use Rattle.sn_ports.specs.Octets.{bytes_of}
use Rattle.sn_buscmd.proofs.FreeingLemmas.{less}
use Rattle.sn_buscmd.proofs.freeing.are_known.Given as goal

abbrev pub invariant-loop-name : goal.invariant-loop-name
invariant-loop-name l = are_known (map bytes_of (drop l.name-index l.names)) (less (definitions_of l.defs) (names_in l.forgotten)) ≡ are_known (map bytes_of l.names) (definitions_of l.defs)
