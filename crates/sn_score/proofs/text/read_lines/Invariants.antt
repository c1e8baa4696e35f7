-- What is left is read from here as all is from the start.
use Rattle.std.proofs.Common.{◌≡◌, ◌+◌, drop}
use Rattle.sn_score.specs.Reached.{at_start, lines_at}
use Rattle.sn_score.specs.Answers.{reached, texts}
use Rattle.sn_score.proofs.text.read_lines.Given as goal

abbrev pub invariant-loop-at : goal.invariant-loop-at
invariant-loop-at l = record {
  read : lines_at (reached l.draft) l.number (drop l.at (texts l.lines)) ≡ lines_at at_start 1 (texts l.lines);
  count : l.number ≡ l.at + 1;
}
