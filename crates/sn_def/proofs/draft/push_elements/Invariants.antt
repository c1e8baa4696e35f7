use Rattle.std.proofs.Common.{◌≡◌, ◌++◌, map, drop}
use Rattle.sn_def.specs.Definition.{elements}
use Rattle.sn_def.specs.Params.{parameter_of}
use Rattle.sn_def.proofs.draft.push_elements.Given as goal

abbrev pub invariant-loop-number : goal.invariant-loop-number
invariant-loop-number l =
    map parameter_of l.controls.items ++ elements l.name l.number (drop l.number l.defaults) ≡ map parameter_of l.fn.controls.items ++ elements l.name 0 l.defaults
