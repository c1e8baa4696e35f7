use Rattle.std.proofs.Common.{◌≡◌, ◌++◌, length}
use Rattle.sn_score.specs.Fields.{unhex}
use Rattle.sn_score.proofs.fields.unhex.Given as goal

abbrev pub invariant-loop-rest : goal.invariant-loop-rest
invariant-loop-rest l = l.bytes.bytes ++ unhex l.rest ≡ unhex l.digits

abbrev pub decreases-loop-rest : goal.decreases-loop-rest
decreases-loop-rest l = length l.rest
