use Rattle.std.proofs.Common.{◌∙◌, ℤ, List, ap, map, w32}
use Rattle.std.proofs.lemmas.Int.{to_z-of_z}
use Rattle.sn_world.specs.declared.stage.Held.{Held}
use Rattle.sn_foot.specs.Footprints.{foot_of, found_at}
use Rattle.sn_foot.proofs.feet.foot_of.Goals as goal

pub returns-clause-foot : goal.returns-clause-foot
returns-clause-foot c =
    let same = to_z-of_z w32 c.args.node c.ranges.node in
    c.in_ok-foot.ensures
    ∙ ap (λ (hs : List Held). foot_of c.args.stage.now.buffers hs)
    (ap (λ xs. map (λ h. h.now) xs) c.deref.ensures.value ∙ c.in_ok-nodes.ensures ∙ ap (λ (n : ℤ). found_at n c.args.stage.now.tree.attached) same)
