use Rattle.std.proofs.Common.{◌≤◌, ◌∙◌, ◌+◌, ℤ, ap, sym, set, length, Some, w32, arith}
use Rattle.std.proofs.lemmas.Int.{to_z-of_z}
use Rattle.sn_nodecmd.specs.Runs.{values_of}
use Rattle.sn_nodecmd.specs.Resolving.{entered_from}
use Rattle.sn_nodecmd.proofs.LayingLemmas.{entered-step, entered-past}
use Rattle.sn_nodecmd.proofs.resolved.enter_from.Goals as goal

pub loop-place-preserved : goal.loop-place-preserved
loop-place-preserved c =
    let rest = values_of c.in-Some.rest in
    ap (λ (v : ℤ). entered_from (c.loop-place.place + 1) rest (set c.loop-place.last c.loop-place.place (Some v))) (to_z-of_z w32 c.in-Some.value c.in-Some.ensures.fits)
    ∙ sym (entered-step c.loop-place.place (values_of c.loop-place.left) rest c.in-Some.value c.loop-place.last c.in-Some.ensures.split)
    ∙ c.loop-place.invariant

pub returns : goal.returns
returns c =
    let past : length c.loop-place.last ≤ c.loop-place.place = omega (arith, c.loop-place-test.false) in
    sym (entered-past c.loop-place.place (values_of c.loop-place.left) c.loop-place.last past) ∙ c.loop-place.invariant
