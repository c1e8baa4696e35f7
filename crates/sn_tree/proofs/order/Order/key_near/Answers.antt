use Rattle.std.proofs.Common.{◌≡◌, ◌≤◌, ◌∙◌, false, Some, ap, sym, w32}
use mir.Val.{SFits}
use Rattle.std.proofs.lemmas.Int.{to_z-of_z}
use Rattle.std.specs.Option.{option_map}
use Rattle.sn_tree.specs.Trees.{Label, holds, label_of}
use Rattle.sn_tree.specs.Order.{Key}
use Rattle.sn_tree.specs.declared.item.Item.{Item}
use Rattle.sn_tree.specs.Keyed.{labels, front, named}
use Rattle.sn_tree.specs.Ordered.{Ordered}
use Rattle.sn_tree.proofs.StoredLaws.{holds_value}
use Rattle.sn_tree.proofs.LabelLaws.{At, at, at_label, at_item}
use Rattle.sn_tree.proofs.LabelLaws.{named_there}
use Rattle.sn_tree.proofs.OrderCalls.{no_label}
use Rattle.sn_tree.proofs.order.Order.key_near.Goals as goal

pub returns : goal.returns
returns c =
    let u : 1 ≤ named c.args.id c.in-Some.key (front c.self.inside.store) = (let fit : SFits w32 c.args.id = c.ranges.id in simp to_z-of_z at c.in-Some.ensures) in
    let a : At c.self.inside.store c.args.id c.in-Some.key = at c.self.inside.store c.args.id c.in-Some.key c.keys_differ.ensures (c.is_sound.ensures.distinct c.args.id) u in
    ap (λ (x : Item). Some x.key) (at_item c.self.inside.store c.args.id c.in-Some.key a c.in-Some-item.item.now c.in-Some-item.ensures)
    ∙ (sym (ap (option_map (λ (l : Label Key). l.payload)) (at_label c.self.inside.store c.args.id c.in-Some.key a)) ∙ ap (λ (o : Ordered). option_map (λ (l : Label Key). l.payload) (label_of c.args.id o.now.attached)) c.self.view_is)

pub returns-in_default-item : goal.returns-in_default-item
returns-in_default-item c =
    let u : 1 ≤ named c.args.id c.in-Some.key (front c.self.inside.store) = (let fit : SFits w32 c.args.id = c.ranges.id in simp to_z-of_z at c.in-Some.ensures) in
    absurd (holds_value c.self.inside.store c.in-Some.key c.keys_differ.ensures (named_there c.self.inside.store c.args.id c.in-Some.key u) c.in_default-item.ensures)

pub returns-in_default : goal.returns-in_default
returns-in_default c =
    let h : holds c.args.id (labels (front c.self.inside.store)) ≡ false = (let fit : SFits w32 c.args.id = c.ranges.id in simp to_z-of_z at c.in_default.ensures) in
    sym (ap (option_map (λ (l : Label Key). l.payload)) (no_label (labels (front c.self.inside.store)) c.args.id h)) ∙ ap (λ (o : Ordered). option_map (λ (l : Label Key). l.payload) (label_of c.args.id o.now.attached)) c.self.view_is
