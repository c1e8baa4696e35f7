use Rattle.std.proofs.Common.{◌∙◌, sym, ap, w32}
use mir.Val.{SFits}
use Rattle.std.proofs.lemmas.Int.{to_z-of_z}
use Rattle.std.specs.Option.{option_map}
use Rattle.sn_tree.specs.Trees.{Label, label_of}
use Rattle.sn_tree.specs.Model.{NodeTree}
use Rattle.sn_tree.specs.Kept.{payload_of}
use Rattle.sn_tree.proofs.Keeping.{slot_is}
use Rattle.sn_tree.proofs.Showing.{payload_shown}
use Rattle.sn_tree.proofs.tree.Tree.payload_near.Goals as goal

pub returns-in-None : goal.returns-in-None
returns-in-None g c =
    let fit : SFits w32 c.args.id = c.ranges.id in
    let h = simp to_z-of_z at c.in-None.ensures in
    ap (option_map (payload_of c.self.inside.root c.self.inside.payloads.slots)) h ∙ payload_shown c.self.inside.root c.self.inside.payloads.slots c.self.inside.order.now c.self.inside.order.saved c.args.self.now c.self.view_is c.args.id

pub returns-in-Some-None : goal.returns-in-Some-None
returns-in-Some-None g c =
    let fit : SFits w32 c.args.id = c.ranges.id in
    let e = rw c.in-Some-None.field-0-is at c.in-Some-None.ensures in
    let h = simp to_z-of_z at e in
    ap (option_map (payload_of c.self.inside.root c.self.inside.payloads.slots)) h ∙ payload_shown c.self.inside.root c.self.inside.payloads.slots c.self.inside.order.now c.self.inside.order.saved c.args.self.now c.self.view_is c.args.id

pub returns-in-Some-Some : goal.returns-in-Some-Some
returns-in-Some-Some g c =
    let fit : SFits w32 c.args.id = c.ranges.id in
    let e = rw c.in-Some-Some.field-0-is at c.in-Some-Some.ensures in
    let h = simp to_z-of_z at e in
    c.get.ensures ∙ (slot_is c.self.inside.root c.self.inside.payloads.slots c.self.inside.order.now c.args.id c.in-Some-Some.key c.self.invariant.now (sym h)
    ∙ ap (λ (t : NodeTree g.row.P.Denot). option_map (λ (l : Label g.row.P.Denot). l.payload) (label_of c.args.id t.attached)) c.self.view_is)
