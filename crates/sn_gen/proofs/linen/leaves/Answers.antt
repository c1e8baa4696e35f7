use Rattle.std.proofs.Common.{◌≡◌, pos, int_lt, int_le, SFits, w32, replicate, rules, ap, sym, subst, ◌∙◌}
use Rattle.std.proofs.lemmas.Int.{to_z-of_z}
use Rattle.sn_mem.specs.Blocks.{block}
use Rattle.sn_gen.specs.Resting.{Leaves}
use Rattle.sn_gen.proofs.Resting.{open_gate, closed_gate, at_most}
use Rattle.sn_gen.proofs.linen.leaves.Goals as goal

pub returns-in-Open-Some : goal.returns-in-Open-Some
returns-in-Open-Some c =
    let fits : SFits w32 c.in-Open-Some.gate = search rules in
    let same : block c.args.inputs.now 0 ≡ replicate 64 c.in-Open-Some.gate = search rules in
    λ h. subst (λ g. Leaves g c.args.inputs.now) (sym c.in-Open-Some.is-0)
    (open_gate c.args.inputs.now c.in-Open-Some.gate same (ap (λ x. int_lt (pos 0) x) (sym (to_z-of_z w32 c.in-Open-Some.gate fits)) ∙ h))

pub returns-in-Waiting-Some : goal.returns-in-Waiting-Some
returns-in-Waiting-Some c =
    let fits : SFits w32 c.in-Waiting-Some.gate = search rules in
    let same : block c.args.inputs.now 0 ≡ replicate 64 c.in-Waiting-Some.gate = search rules in
    λ h. subst (λ g. Leaves g c.args.inputs.now) (sym c.in-Waiting-Some.is-0)
    (closed_gate c.args.inputs.now c.in-Waiting-Some.gate same (at_most c.in-Waiting-Some.gate (ap (λ x. int_le x (pos 0)) (sym (to_z-of_z w32 c.in-Waiting-Some.gate fits)) ∙ h)))
