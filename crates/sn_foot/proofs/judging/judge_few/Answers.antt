use Rattle.std.proofs.Common.{◌∙◌}
use Rattle.sn_foot.specs.Judging.{is_alone}
use Rattle.sn_foot.proofs.Judged.{all_begun, next_begun}
use Rattle.sn_foot.proofs.judging.judge_few.Goals as goal

pub loop-place-preserved : goal.loop-place-preserved
loop-place-preserved c = next_begun c.args.own.now c.loop-place.own c.loop-place.place _ c.judged_among.result c.loop-place-test.true c.loop-place.invariant c.judged_among.ensures

pub returns : goal.returns
returns c = c.loop-place.invariant ∙ all_begun (is_alone c.args.own.now) c.loop-place.place c.args.own.now c.loop-place-test.false
