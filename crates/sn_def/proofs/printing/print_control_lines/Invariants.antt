use Rattle.std.proofs.Common.{◌≡◌, ◌++◌, drop, flat_map, map, length}
use Rattle.sn_def.specs.Grammar.{line, control_fields}
use Rattle.sn_def.specs.Params.{parameter_of}
use Rattle.sn_def.specs.Printing.{controls_printed}
use Rattle.sn_def.specs.WellFormed.{RunsFit}
use Rattle.sn_def.proofs.printing.print_control_lines.Given as goal

abbrev pub invariant-loop-array : goal.invariant-loop-array
invariant-loop-array l = record {
  fit : RunsFit l.next (length l.controls) (drop l.array-index l.arrays);
  text : l.text.bytes ++ flat_map (λ c. line (control_fields c)) (controls_printed l.next (map parameter_of (drop l.next l.controls)) (drop l.array-index l.arrays))
      ≡ l.fn.text.bytes ++ flat_map (λ c. line (control_fields c)) (controls_printed 0 (map parameter_of l.controls) l.arrays);
}
