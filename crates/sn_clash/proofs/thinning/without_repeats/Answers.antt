use Rattle.std.proofs.Common.{◌≡◌, ◌≤◌, ◌∙◌, ◌+◌, ℕ, List, [], ◌∷◌, ◌++◌, ap, arith, length, subst, sym, take, take_all}
use Rattle.std.proofs.lemmas.List.{take_more}
use Rattle.sn_foot.specs.declared.uses.Use.{Use}
use Rattle.sn_foot.specs.Uses.{footprint_in}
use Rattle.sn_clash.specs.Marking.{IsThinned}
use Rattle.sn_clash.proofs.Thinned.{same_uses, thinned_nothing}
use Rattle.sn_clash.proofs.thinning.without_repeats.Goals as goal

pub loop-index-init : goal.loop-index-init
loop-index-init c = subst (λ (us : List Use). IsThinned c.in_ok-marks.marks us []) (sym c.new-kept.ensures.items) (thinned_nothing c.in_ok-marks.marks c.in_ok-marks.ensures.long c.in_ok-marks.ensures.none)

pub loop-index-preserved : goal.loop-index-preserved
loop-index-preserved c =
    let us : List Use = c.args.uses.now in
    let n : ℕ = c.loop-index.index in
    let u : Use = c.use_at-used.result in
    let next : take (n + 1) us ≡ take n us ++ u ∷ [] = take_more us n u c.loop-index-test.true ∙ ap (λ (v : Use). take n us ++ v ∷ []) (sym c.use_at-used.ensures) in
    subst (λ (vs : List Use). IsThinned c.put_new.new.marks c.put_new.new.kept.items vs) (sym next) (c.in_ok-put_new.ensures (take n us) c.loop-index.invariant)

pub returns : goal.returns
returns c = λ there.
    let us : List Use = c.args.uses.now in
    let n : ℕ = c.loop-index.index in
    same_uses there c.loop-index.marks c.loop-index.kept.items (take n us) c.loop-index.invariant
    ∙ ap (λ (vs : List Use). footprint_in there vs) (take_all n us (omega (arith, c.loop-index-test.false)))
