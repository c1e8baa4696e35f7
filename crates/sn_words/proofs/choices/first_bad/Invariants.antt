-- The words so far are good.
use Rattle.std.proofs.Common.{◌≡◌, drop, take, []}
use Rattle.sn_words.specs.Keys.{first_bad}
use Rattle.sn_words.proofs.choices.first_bad.Given as goal

abbrev pub invariant-loop-i : goal.invariant-loop-i
invariant-loop-i l = first_bad l.keys [] l.words ≡ first_bad l.keys (take l.i l.words) (drop l.i l.words)
