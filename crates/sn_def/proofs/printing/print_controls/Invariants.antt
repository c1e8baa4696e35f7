use Rattle.std.proofs.Common.{◌≡◌, ◌++◌, drop, flat_map}
use Rattle.sn_def.specs.Grammar.{line, control_fields}
use Rattle.sn_def.specs.Printing.{control_printed}
use Rattle.sn_def.specs.Params.{parameter_of}
use Rattle.sn_def.proofs.printing.print_controls.Given as goal

abbrev pub invariant-loop-control : goal.invariant-loop-control
invariant-loop-control l =
    l.text.bytes ++ flat_map (λ c. line (control_fields (control_printed (parameter_of c)))) (drop l.control-index l.controls) ≡ l.fn.text.bytes ++ flat_map (λ c. line (control_fields (control_printed (parameter_of c)))) l.controls
