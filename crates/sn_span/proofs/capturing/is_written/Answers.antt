use Rattle.std.proofs.Common.{◌≡◌, ◌+◌, true, subst, arith}
use Rattle.sn_mem.specs.Words.{touches}
use Rattle.sn_span.proofs.capturing.is_written.Goals as goal

pub load-requires : goal.load-requires
load-requires g c =
    let place : c.args.bus.now.at + 0 ≡ c.args.bus.now.at = omega arith in
    subst (λ x. touches (g.P.Port.foot c.args.port.now) x ≡ true) place (c.requires.reads.each 0 (omega arith))
