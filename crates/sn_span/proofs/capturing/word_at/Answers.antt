use Rattle.std.proofs.Common.{◌≡◌, ◌+◌, true, subst, arith}
use Rattle.sn_mem.specs.Words.{touches}
use Rattle.sn_span.proofs.capturing.word_at.Goals as goal

pub load-requires : goal.load-requires
load-requires g c =
    let place : c.args.bus.now.at + (1 + c.args.frame) ≡ c.args.bus.now.at + 1 + c.args.frame = omega arith in
    subst (λ x. touches (g.P.Port.foot c.args.port.now) x ≡ true) place (c.requires.reads.each (1 + c.args.frame) (omega (arith, c.requires.frame)))
