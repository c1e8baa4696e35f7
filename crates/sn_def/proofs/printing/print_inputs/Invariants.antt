use Rattle.std.proofs.Common.{◌≡◌, ◌++◌, ◌∷◌, drop, flat_map}
use Rattle.sn_def.specs.Printing.{input_printed}
use Rattle.sn_def.specs.Defs.{definition_of}
use Rattle.sn_def.proofs.printing.print_inputs.Given as goal

abbrev pub invariant-loop-input : goal.invariant-loop-input
invariant-loop-input l =
    l.text.bytes ++ flat_map (λ x. 32 ∷ input_printed (definition_of l.def) x) (drop l.input-index l.inputs) ≡ l.fn.text.bytes ++ flat_map (λ x. 32 ∷ input_printed (definition_of l.def) x) l.inputs
