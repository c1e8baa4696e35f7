use Rattle.std.proofs.Common.{rules}
use Rattle.sn_fixed.proofs.Digits.{number_step}
use Rattle.sn_fixed.proofs.literals.number.Goals as goal

pub loop-digit-preserved : goal.loop-digit-preserved
loop-digit-preserved c = search (rules, number_step)
