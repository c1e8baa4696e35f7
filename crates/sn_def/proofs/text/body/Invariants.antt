use Rattle.std.proofs.Common.{◌≡◌, ◌≤◌, ◌+◌, length, drop}
use Rattle.sn_def.specs.Reading.{body_at}
use Rattle.sn_def.specs.Answers.{texts}
use Rattle.sn_def.proofs.text.body.Given as goal

abbrev pub invariant-loop-at : goal.invariant-loop-at
invariant-loop-at l = record {
  within : l.at ≤ length l.lines;
  few : l.at ≤ length l.read.controls + length l.read.units;
  read : body_at l.version (3 + l.at) l.read (drop l.at (texts l.lines)) ≡ body_at l.version 3 l.fn.draft (texts l.lines);
}
