use Rattle.std.proofs.Common.{◌≡◌, ◌≤◌, ◌+◌, ◌++◌, drop, flat_map, map, length}
use Rattle.sn_ports.specs.Octets.{Octets}
use Rattle.sn_def.specs.Grammar.{line, unit_fields}
use Rattle.sn_def.specs.Printing.{units_printed}
use Rattle.sn_def.specs.WellFormed.{outputs_of}
use Rattle.sn_def.specs.Defs.{definition_of}
use Rattle.sn_def.proofs.printing.print_units.Given as goal

abbrev pub invariant-loop-unit : goal.invariant-loop-unit
invariant-loop-unit l = record {
  room : l.first + outputs_of (drop l.unit-index l.units) ≤ length l.names;
  text : l.text.bytes ++ flat_map (λ u. line (unit_fields u)) (units_printed (definition_of l.def) (map (λ (n : Octets). n.bytes) (drop l.first l.names)) (drop l.unit-index l.units))
      ≡ l.fn.text.bytes ++ flat_map (λ u. line (unit_fields u)) (units_printed (definition_of l.def) (map (λ (n : Octets). n.bytes) l.names) l.units);
}
