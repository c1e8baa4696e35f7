use Rattle.std.proofs.Common.{◌≡◌, ◌≤◌, ◌∙◌, false, ap, sym, w32, of_z, to_z}
use mir.Val.{SFits}
use Rattle.std.proofs.lemmas.Int.{to_z-of_z}
use Rattle.sn_tree.specs.Trees.{holds}
use Rattle.sn_tree.proofs.Arranging.{can_go, stays_root, not_there}
use Rattle.sn_tree.specs.Keyed.{labels, front, named}
use Rattle.sn_tree.proofs.LabelLaws.{named_held}
use Rattle.sn_tree.proofs.store.Store.detachable.Goals as goal

pub returns-in_default : goal.returns-in_default
returns-in_default c =
    let h : holds c.args.id (labels (front c.args.self.now)) ≡ false = (let fit : SFits w32 c.args.id = c.ranges.id in simp to_z-of_z at c.in_default.ensures) in
    not_there (labels (front c.args.self.now)) c.args.id h

pub returns-then-id-eq0 : goal.returns-then-id-eq0
returns-then-id-eq0 c =
    let u : 1 ≤ named c.args.id c.in-Some.key (front c.args.self.now) = (let fit : SFits w32 c.args.id = c.ranges.id in simp to_z-of_z at c.in-Some.ensures) in
    stays_root (labels (front c.args.self.now)) c.args.id (named_held c.args.self.now c.args.id c.in-Some.key u) (sym (to_z-of_z w32 c.args.id c.ranges.id) ∙ ap (to_z w32) c.if-id-eq0.true)

pub returns : goal.returns
returns c =
    let u : 1 ≤ named c.args.id c.in-Some.key (front c.args.self.now) = (let fit : SFits w32 c.args.id = c.ranges.id in simp to_z-of_z at c.in-Some.ensures) in
    (can_go (labels (front c.args.self.now)) c.args.id (named_held c.args.self.now c.args.id c.in-Some.key u) (λ e. c.if-id-eq0.false (ap (of_z w32) e)), u)
