use Rattle.std.proofs.Common.{◌≡◌, ◌≤◌, ◌∙◌, false, ap, sym, subst, w32}
use mir.Val.{SFits}
use Rattle.std.proofs.lemmas.Int.{to_z-of_z}
use Rattle.sn_forest.specs.Walking.{behind_node}
use Rattle.sn_tree.specs.Trees.{first_of, holds, ids, next_after}
use Rattle.sn_tree.specs.Keyed.{labels, front, named}
use Rattle.sn_tree.proofs.LabelLaws.{at, named_front}
use Rattle.sn_tree.proofs.NextLaws.{next_is, no_next}
use Rattle.sn_tree.proofs.store.Store.next_of.Goals as goal

pub onward-rest-requires : goal.onward-rest-requires
onward-rest-requires c =
    let fit : SFits w32 c.args.id = c.ranges.id in
    let u : 1 ≤ named c.args.id c.in-Some.key (front c.args.self.now) = simp to_z-of_z at c.in-Some.ensures in
    let v : 1 ≤ named c.args.id c.in-Some.key (front c.self.inside.forest) = subst (λ t. 1 ≤ named c.args.id c.in-Some.key (front t)) (sym c.self.view_is) u in
    named_front c.self.inside.forest c.args.id c.in-Some.key v

pub returns-in-Some : goal.returns-in-Some
returns-in-Some c =
    let fit : SFits w32 c.args.id = c.ranges.id in
    let u : 1 ≤ named c.args.id c.in-Some.key (front c.args.self.now) = simp to_z-of_z at c.in-Some.ensures in
    let v : 1 ≤ named c.args.id c.in-Some.key (front c.self.inside.forest) = subst (λ t. 1 ≤ named c.args.id c.in-Some.key (front t)) (sym c.self.view_is) u in
    c.first_id.ensures
    ∙ (ap (λ t. first_of (labels t)) (c.step.ensures ∙ ap behind_node c.onward-rest.ensures)
    ∙ (next_is c.self.inside.forest c.args.id c.in-Some.key (at c.self.inside.forest c.args.id c.in-Some.key c.keys_differ.ensures (c.self.invariant.sound.distinct c.args.id) v)
    ∙ ap (λ t. next_after c.args.id (ids (labels (front t)))) c.self.view_is))

pub returns-in-None : goal.returns-in-None
returns-in-None c =
    let fit : SFits w32 c.args.id = c.ranges.id in
    let none_held : holds c.args.id (labels (front c.args.self.now)) ≡ false = simp to_z-of_z at c.in-None.ensures in
    no_next c.args.id (labels (front c.args.self.now)) none_held
