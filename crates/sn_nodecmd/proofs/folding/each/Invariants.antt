-- What the repetitions so far have left, and what is left to do.
use Rattle.std.proofs.Common.{◌≡◌, ◌-◌, ℕ, List, drop, length}
use Rattle.sn_world.specs.Answers.{Continues}
use Rattle.sn_world.specs.Rows.{steps}
use Rattle.sn_world.specs.World.{turn_of}
use Rattle.sn_nodecmd.specs.Folding.{IsUnderway}
use Rattle.sn_nodecmd.proofs.folding.each.Given as goal

abbrev pub invariant-loop-repetition : goal.invariant-loop-repetition
invariant-loop-repetition g l = record {
  underway : IsUnderway (length l.repetitions - l.repetition-index) l.mark l.fn.stage l.stage;
  row : (words : List ℕ) → steps g.R.Repetition.judge g.R.Repetition.act (drop l.repetition-index l.repetitions) (turn_of l.stage words l.replies) ≡ steps g.R.Repetition.judge g.R.Repetition.act l.repetitions (turn_of l.fn.stage words l.fn.replies);
  continues : Continues l.fn.replies l.replies;
}
