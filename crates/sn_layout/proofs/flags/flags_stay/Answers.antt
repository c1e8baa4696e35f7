use Rattle.std.proofs.Common.{arith}
use Rattle.sn_layout.proofs.KeptFlags.{few_stay}
use Rattle.sn_layout.proofs.flags.flags_stay.Goals as goal

pub returns : goal.returns
returns c = λ _. c.loop-rest.invariant (few_stay c.args.tree.now.attached c.loop-rest.rest.now (omega (arith, c.in_default.len_below)))
