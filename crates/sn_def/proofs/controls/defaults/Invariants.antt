use Rattle.std.proofs.Common.{◌≡◌, drop}
use Rattle.sn_def.specs.Reading.{defaults_at}
use Rattle.sn_def.specs.Answers.{texts}
use Rattle.sn_def.proofs.DefaultsLoop.{with_front}
use Rattle.sn_def.proofs.controls.defaults.Given as goal

abbrev pub invariant-loop-field : goal.invariant-loop-field
invariant-loop-field l = with_front l.values.items (defaults_at (drop l.field-index (texts l.literals))) ≡ defaults_at (texts l.literals)
