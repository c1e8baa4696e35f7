use Rattle.std.proofs.Common.{◌≡◌, ◌≤◌, ◌+◌, length, drop}
use Rattle.sn_def.specs.Reading.{wires_at}
use Rattle.sn_def.specs.Answers.{texts}
use Rattle.sn_def.proofs.wires.give_wires.Given as goal

abbrev pub invariant-loop-name : goal.invariant-loop-name
invariant-loop-name l = record {
  room : length l.given.wires + length l.names ≤ 512 + l.name-index;
  read : wires_at l.given (drop l.name-index (texts l.names)) ≡ wires_at l.fn.draft (texts l.names);
}
