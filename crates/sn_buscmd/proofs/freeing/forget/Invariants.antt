use Rattle.std.proofs.Common.{◌≡◌, map, drop}
use Rattle.sn_world.specs.Definitions.{definitions_of}
use Rattle.sn_world.specs.Forgetting.{without_names}
use Rattle.sn_ports.specs.Octets.{bytes_of}
use Rattle.sn_buscmd.proofs.freeing.forget.Given as goal

abbrev pub invariant-loop-name : goal.invariant-loop-name
invariant-loop-name l = without_names (map bytes_of (drop l.name-index l.names)) (definitions_of l.defs) ≡ without_names (map bytes_of l.names) (definitions_of l.fn.defs)
