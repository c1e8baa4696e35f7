use Rattle.std.proofs.Common.{◌∙◌, inr, sym, ap, w32}
use borrow.Follows.Closed.{read_of}
use mir.Val.{SFits}
use Rattle.std.proofs.lemmas.Int.{to_z-of_z}
use Rattle.std.specs.Option.{option_map, ghost_name_of}
use Rattle.sn_tree.specs.Trees.{Label, label_of}
use Rattle.sn_tree.specs.Model.{NodeTree}
use Rattle.sn_tree.specs.Kept.{payload_of}
use Rattle.sn_tree.specs.Steps.{written}
use Rattle.sn_tree.proofs.Keeping.{slot_is}
use Rattle.sn_tree.proofs.Showing.{payload_shown}
use Rattle.sn_tree.proofs.Writing.{lent, no_payload, root_written, slot_written, slot_keeps}
use Rattle.sn_tree.proofs.tree.Tree.payload_mut.Goals as goal

pub returns-in-None : goal.returns-in-None
returns-in-None g c =
    let fit : SFits w32 c.args.id = c.ranges.id in
    let h = simp to_z-of_z at c.in-None.ensures in
    (ap inr c.self.view_is, record { writes_back = tt; value = no_payload c.self.inside.root c.self.inside.payloads.slots c.self.inside.order.now c.self.inside.order.saved c.args.self.now c.args.id c.self.view_is h })

pub returns-in-Some-None : goal.returns-in-Some-None
returns-in-Some-None g c =
    let fit : SFits w32 c.args.id = c.ranges.id in
    let e = rw c.in-Some-None.field-0-is at c.in-Some-None.ensures in
    let h = simp to_z-of_z at e in (
      lent (λ w. root_written c.self.inside.root c.self.inside.payloads.slots c.self.inside.order.now c.self.inside.order.saved c.self.invariant c.args.id w (sym h) ∙ ap (λ (t : NodeTree g.row.P.Denot). written c.args.id t w) c.self.view_is),
      record { writes_back = tt; value = ap (option_map (payload_of c.self.inside.root c.self.inside.payloads.slots)) h ∙ payload_shown c.self.inside.root c.self.inside.payloads.slots c.self.inside.order.now c.self.inside.order.saved c.args.self.now c.self.view_is c.args.id },
    )

pub returns-in-Some-Some : goal.returns-in-Some-Some
returns-in-Some-Some g c =
    let fit : SFits w32 c.args.id = c.ranges.id in
    let e = rw c.in-Some-Some.field-0-is at c.in-Some-Some.ensures in
    let h = simp to_z-of_z at e in (
      (λ i. read_of (ghost_name_of c.get_mut.result) (λ w. (slot_written c.self.inside.root c.self.inside.payloads.slots c.self.inside.order.now c.self.inside.order.saved c.self.invariant c.args.id w c.in-Some-Some.key (sym h) ∙ ap (λ (t : NodeTree g.row.P.Denot). written c.args.id t w) c.self.view_is) i) (c.self.view_is i)),
      record {
        writes_back = tt;
        value = c.get_mut.ensures.value ∙ (slot_is c.self.inside.root c.self.inside.payloads.slots c.self.inside.order.now c.args.id c.in-Some-Some.key c.self.invariant.now (sym h)
            ∙ ap (λ (t : NodeTree g.row.P.Denot). option_map (λ (l : Label g.row.P.Denot). l.payload) (label_of c.args.id t.attached)) c.self.view_is);
      },
    )

pub invariant_of-self-lent-in-Some-Some : goal.invariant_of-self-lent-in-Some-Some
invariant_of-self-lent-in-Some-Some g c =
    let fit : SFits w32 c.args.id = c.ranges.id in
    let e = rw c.in-Some-Some.field-0-is at c.in-Some-Some.ensures in
    let h = simp to_z-of_z at e in
    λ r. (λ w. slot_keeps c.self.inside.root c.self.inside.payloads.slots c.self.inside.order.now c.self.inside.order.saved c.self.invariant c.args.id w c.in-Some-Some.key (sym h), c.self.invariant)
