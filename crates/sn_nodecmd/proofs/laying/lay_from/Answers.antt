use Rattle.std.proofs.Common.{◌≤◌, ◌∙◌, ◌+◌, ℤ, ap, sym, length, Some, w32, arith}
use Rattle.std.proofs.lemmas.Int.{to_z-of_z}
use Rattle.sn_nodecmd.specs.Runs.{values_of}
use Rattle.sn_nodecmd.specs.Laying.{laid_at, laid_from}
use Rattle.sn_nodecmd.proofs.LayingLemmas.{laid-step, laid-past}
use Rattle.sn_nodecmd.proofs.laying.lay_from.Goals as goal

pub loop-place-preserved : goal.loop-place-preserved
loop-place-preserved c =
    let field = c.args.field in
    let next = c.loop-place.place + 1 in
    let rest = values_of c.in-Some.rest in
    ap (laid_from field next rest) c.lay_at.ensures
    ∙ ap (λ (v : ℤ). laid_from field next rest (laid_at field (Some v) c.loop-place.place c.loop-place.controls)) (to_z-of_z w32 c.in-Some.value c.in-Some.ensures.fits)
    ∙ sym (laid-step field c.loop-place.place (values_of c.loop-place.left) rest c.in-Some.value c.loop-place.controls c.in-Some.ensures.split)
    ∙ c.loop-place.invariant

pub returns : goal.returns
returns c =
    let past : length c.loop-place.controls ≤ c.loop-place.place = omega (arith, c.loop-place-test.false, ap length c.as_slice.ensures) in
    sym (laid-past c.args.field c.loop-place.place (values_of c.loop-place.left) c.loop-place.controls past) ∙ c.loop-place.invariant
