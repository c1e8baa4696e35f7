use Rattle.std.proofs.Common.{◌≡◌, drop}
use Rattle.sn_def.specs.Reading.{inputs_at}
use Rattle.sn_def.specs.Answers.{texts}
use Rattle.sn_def.proofs.InputLoop.{with_front}
use Rattle.sn_def.proofs.inputs.inputs.Given as goal

abbrev pub invariant-loop-at : goal.invariant-loop-at
invariant-loop-at l = with_front l.inputs.items (inputs_at l.draft l.marks l.at (drop l.at (texts l.fields))) ≡ inputs_at l.draft l.marks 0 (texts l.fields)
