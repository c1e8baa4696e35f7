use Rattle.std.proofs.Common.{◌≤◌, ◌∙◌, ap, sym, length, arith}
use Rattle.std.proofs.lemmas.List.{take_all}
use Rattle.sn_nodecmd.specs.Laying.{laid_at, laid}
use Rattle.sn_nodecmd.proofs.LayingLemmas.{lay-step}
use Rattle.sn_nodecmd.proofs.laying.lay.Goals as goal

pub loop-place-preserved : goal.loop-place-preserved
loop-place-preserved c =
    c.lay_at.ensures
    ∙ ap (laid_at c.args.field c.number_at-number.result c.loop-place.place) c.loop-place.invariant
    ∙ sym (lay-step c.args.field c.args.last.now c.loop-place.place c.number_at-number.result c.args.controls.now c.loop-place-test.true c.number_at-number.ensures)

pub returns : goal.returns
returns c =
    let past : length c.args.last.now ≤ c.loop-place.place = omega (arith, c.loop-place-test.false) in
    c.loop-place.invariant ∙ ap (λ ns. laid c.args.field ns c.args.controls.now) (take_all c.loop-place.place c.args.last.now past)
