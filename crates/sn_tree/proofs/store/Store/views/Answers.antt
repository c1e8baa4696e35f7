use Rattle.std.proofs.Common.{◌≡◌, ◌≤◌, ◌∙◌, false, negsuc, ap, sym, subst, w32}
use Rattle.std.specs.Prelude.{IfOk}
use mir.Val.{SFits}
use Rattle.std.proofs.lemmas.Int.{to_z-of_z}
use Rattle.sn_tree.specs.Trees.{holds}
use Rattle.sn_tree.specs.Views.{views_below}
use Rattle.sn_tree.specs.Keyed.{labels, front, named, rows_of}
use Rattle.sn_tree.specs.Reading.{views_by}
use Rattle.sn_tree.proofs.LabelLaws.{named_there}
use Rattle.sn_tree.proofs.ReadLaws.{views_any}
use Rattle.sn_tree.proofs.Viewing.{no_views}
use Rattle.sn_tree.proofs.store.Store.views.Goals as goal

pub new-rest-requires : goal.new-rest-requires
new-rest-requires c =
    let fit : SFits w32 c.args.id = c.ranges.id in
    let u : 1 ≤ named c.args.id c.in-Some.key (front c.args.self.now) = simp to_z-of_z at c.in-Some.ensures in
    let v : 1 ≤ named c.args.id c.in-Some.key (front c.self.inside.forest) = subst (λ t. 1 ≤ named c.args.id c.in-Some.key (front t)) (sym c.self.view_is) u in
    named_there c.self.inside.forest c.args.id c.in-Some.key v

pub returns-in-Some : goal.returns-in-Some
returns-in-Some c =
    let fit : SFits w32 c.args.id = c.ranges.id in
    let u : 1 ≤ named c.args.id c.in-Some.key (front c.args.self.now) = simp to_z-of_z at c.in-Some.ensures in
    let v : 1 ≤ named c.args.id c.in-Some.key (front c.self.inside.forest) = subst (λ t. 1 ≤ named c.args.id c.in-Some.key (front t)) (sym c.self.view_is) u in
    subst (λ l. IfOk c.views_in.result (λ views. views.items ≡ l))
    (ap (views_by c.self.inside.forest) (c.new-rows.ensures ∙ ap rows_of c.new-rest.ensures)
    ∙ (views_any c.self.inside.forest c.args.id c.in-Some.key c.keys_differ.ensures (c.self.invariant.sound.distinct c.args.id) v
    ∙ ap (λ t. views_below c.args.id (labels (front t))) c.self.view_is))
    c.views_in.ensures

pub returns-in-None : goal.returns-in-None
returns-in-None c =
    let fit : SFits w32 c.args.id = c.ranges.id in
    let none_held : holds c.args.id (labels (front c.args.self.now)) ≡ false = simp to_z-of_z at c.in-None.ensures in
    c.new.ensures.items ∙ sym (no_views (negsuc 0) (negsuc 0) c.args.id (labels (front c.args.self.now)) none_held)
