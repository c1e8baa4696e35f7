use Rattle.std.proofs.Common.{◌∙◌, ◌&&◌, [], ◌∷◌, ap, rules}
use Rattle.sn_reply.specs.declared.reason.Reason.TheVariants as Reasons
use Rattle.sn_tree.specs.declared.node.Spot.{Spot}
use Rattle.sn_tree.specs.Faults.{is_beside_root, is_inside, is_synth}
use Rattle.sn_world.specs.Rows.{first_of}
use Rattle.sn_nodecmd.proofs.OrderLemmas.{no_target, at_target}
use Rattle.sn_nodecmd.proofs.ordering.refusal.Goals as goal

pub returns-in-None : goal.returns-in-None
returns-in-None c = no_target c.args.place.now c.args.tree.now.attached (search rules) c.in-None.ensures

pub returns-in-Some : goal.returns-in-Some
returns-in-Some c =
    c.refusal_at.ensures
    ∙ ap (λ (s : Spot). first_of ((is_inside s.action && is_synth c.in-Some.kind, Reasons.NotGroup) ∷ (is_beside_root s.action s.target, Reasons.Root) ∷ [])) c.spot_of.ensures
    ∙ at_target c.args.place.now c.args.tree.now.attached c.in-Some.kind (search rules) c.in-Some.ensures
