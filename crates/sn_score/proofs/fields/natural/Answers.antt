use Rattle.std.proofs.Common.{◌+◌, drop, ap, sym, ◌∙◌}
use Rattle.sn_score.specs.Fields.{natural_after}
use Rattle.sn_score.proofs.Loops.{natural_goes, natural_stops}
use Rattle.sn_score.proofs.fields.natural.Goals as goal

pub loop-digit-preserved : goal.loop-digit-preserved
loop-digit-preserved c =
    let digits = c.args.digits.now in
    let i = c.loop-digit.digit-index in
    ap (λ n. natural_after n (drop (i + 1) digits)) c.with_digit-number.ensures ∙ sym (natural_goes digits i c.loop-digit.number c.loop-digit-test.true) ∙ c.loop-digit.invariant

pub returns : goal.returns
returns c = sym (natural_stops c.args.digits.now c.loop-digit.digit-index c.loop-digit.number c.loop-digit-test.false) ∙ c.loop-digit.invariant
