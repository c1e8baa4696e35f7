use Rattle.std.proofs.Common.{◌≡◌, ◌≤◌, ◌∙◌, false, negsuc, ap, sym, subst, w32}
use mir.Val.{SFits}
use Rattle.std.proofs.lemmas.Int.{to_z-of_z}
use Rattle.sn_tree.specs.Trees.{holds, view_of}
use Rattle.sn_tree.specs.Keyed.{labels, front, named}
use Rattle.sn_tree.proofs.ViewLaws.{view_seen}
use Rattle.sn_tree.proofs.Viewing.{no_view}
use Rattle.sn_tree.proofs.store.Store.node.Goals as goal

pub returns-in-Some : goal.returns-in-Some
returns-in-Some c =
    let fit : SFits w32 c.args.id = c.ranges.id in
    let u : 1 ≤ named c.args.id c.in-Some.key (front c.args.self.now) = simp to_z-of_z at c.in-Some.ensures in
    let v : 1 ≤ named c.args.id c.in-Some.key (front c.self.inside.forest) = subst (λ t. 1 ≤ named c.args.id c.in-Some.key (front t)) (sym c.self.view_is) u in
    c.see.ensures
    ∙ (sym (view_seen c.self.inside.forest c.args.id c.in-Some.key c.keys_differ.ensures (c.self.invariant.sound.distinct c.args.id) v)
    ∙ ap (λ t. view_of c.args.id (labels (front t))) c.self.view_is)

pub returns-in-None : goal.returns-in-None
returns-in-None c =
    let fit : SFits w32 c.args.id = c.ranges.id in
    let none_held : holds c.args.id (labels (front c.args.self.now)) ≡ false = simp to_z-of_z at c.in-None.ensures in
    sym (no_view (negsuc 0) (negsuc 0) c.args.id (labels (front c.args.self.now)) none_held)
