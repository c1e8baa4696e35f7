use Rattle.std.proofs.Common.{◌≡◌, drop}
use Rattle.sn_score.specs.Fields.{natural_after}
use Rattle.sn_score.proofs.fields.natural.Given as goal

abbrev pub invariant-loop-digit : goal.invariant-loop-digit
invariant-loop-digit l = natural_after l.number (drop l.digit-index l.digits) ≡ natural_after 0 l.digits
