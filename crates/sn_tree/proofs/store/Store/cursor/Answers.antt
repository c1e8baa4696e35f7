use Rattle.std.proofs.Common.{◌≡◌, ◌≤◌, ◌∙◌, false, ap, sym, subst, w32}
use mir.Val.{SFits}
use Rattle.std.proofs.lemmas.Int.{to_z-of_z}
use Rattle.sn_tree.specs.Trees.{holds, subtree}
use Rattle.sn_tree.specs.Keyed.{labels, front, named}
use Rattle.sn_tree.proofs.Reworking.{no_subtree}
use Rattle.sn_tree.proofs.LabelLaws.{named_there, tree_of_id}
use Rattle.sn_tree.proofs.store.Store.cursor.Goals as goal

pub new-requires : goal.new-requires
new-requires c =
    let fit : SFits w32 c.args.id = c.ranges.id in
    let u : 1 ≤ named c.args.id c.in-Some.key (front c.args.self.now) = simp to_z-of_z at c.in-Some.ensures in
    let v : 1 ≤ named c.args.id c.in-Some.key (front c.self.inside.forest) = subst (λ t. 1 ≤ named c.args.id c.in-Some.key (front t)) (sym c.self.view_is) u in
    named_there c.self.inside.forest c.args.id c.in-Some.key v

pub returns-in-Some : goal.returns-in-Some
returns-in-Some c =
    let fit : SFits w32 c.args.id = c.ranges.id in
    let u : 1 ≤ named c.args.id c.in-Some.key (front c.args.self.now) = simp to_z-of_z at c.in-Some.ensures in
    let v : 1 ≤ named c.args.id c.in-Some.key (front c.self.inside.forest) = subst (λ t. 1 ≤ named c.args.id c.in-Some.key (front t)) (sym c.self.view_is) u in
    ap labels c.new.ensures
    ∙ (tree_of_id c.self.inside.forest c.args.id c.in-Some.key c.keys_differ.ensures (c.self.invariant.sound.distinct c.args.id) v
    ∙ ap (λ t. subtree c.args.id (labels (front t))) c.self.view_is)

pub returns-in-None : goal.returns-in-None
returns-in-None c =
    let fit : SFits w32 c.args.id = c.ranges.id in
    let none_held : holds c.args.id (labels (front c.args.self.now)) ≡ false = simp to_z-of_z at c.in-None.ensures in
    ap labels c.ended.ensures ∙ sym (no_subtree c.args.id (labels (front c.args.self.now)) none_held)
