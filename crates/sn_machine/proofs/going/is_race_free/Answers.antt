use Rattle.std.proofs.Common.{rules}
use Rattle.sn_machine.proofs.Covering.{race_free}
use Rattle.sn_machine.proofs.going.is_race_free.Goals as goal

pub returns : goal.returns
returns c = λ _. race_free c.args.plan.now (λ i j l up m clash. c.loop-first.invariant i j (search rules) up m clash)
