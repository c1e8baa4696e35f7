-- What the questions so far have told, and which are left.
use Rattle.std.proofs.Common.{◌≡◌, ℕ, List, length, take, drop}
use Rattle.sn_world.specs.World.{turn_of}
use Rattle.sn_world.specs.Rows.{steps}
use Rattle.sn_nodecmd.proofs.questions.answer_all.Given as goal

abbrev pub invariant-loop-question : goal.invariant-loop-question
invariant-loop-question g l = record {
  row : (words : List ℕ) → steps g.Q.Question.judge (g.Q.Question.act l.from) (drop l.question-index l.questions) (turn_of l.stage words l.replies) ≡ steps g.Q.Question.judge (g.Q.Question.act l.from) l.questions (turn_of l.stage words l.fn.replies);
  earlier : take (length l.fn.replies) l.replies ≡ l.fn.replies;
}
