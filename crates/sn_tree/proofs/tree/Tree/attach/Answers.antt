use Rattle.std.proofs.Common.{◌∙◌, w32}
use mir.Val.{SFits}
use Rattle.std.proofs.lemmas.Int.{to_z-of_z}
use Rattle.sn_tree.proofs.Showing.{attach_fault_shown}
use Rattle.sn_tree.proofs.Following.{spare}
use Rattle.sn_tree.proofs.OrderedLaws.{attach_answered}
use Rattle.sn_tree.proofs.tree.Tree.attach.Goals as goal

pub attach-requires : goal.attach-requires
attach-requires g c = record { room = spare c.self.inside.root c.self.inside.payloads.slots c.self.inside.order.now c.self.inside.order.saved c.args.self.now c.self.view_is c.requires.room }

pub invariant_of-self : goal.invariant_of-self
invariant_of-self g c =
    (attach_answered c.self.inside.root c.self.inside.payloads.slots c.self.inside.order c.attach.new.self c.args.self.now (record { kept = c.self.invariant; shows = c.self.view_is }) c.args.id c.args.spot.action c.args.spot.target c.attach.result
    (let fit : SFits w32 c.args.id = c.ranges.id in simp to_z-of_z at c.attach.ensures.fault) (let fit : SFits w32 c.args.id = c.ranges.id in simp to_z-of_z at c.attach.ensures.ok) c.attach.ensures.err).kept

pub returns-clause-fault : goal.returns-clause-fault
returns-clause-fault g c =
    let fit : SFits w32 c.args.id = c.ranges.id in
    let h = simp to_z-of_z at c.attach.ensures.fault in
    h ∙ attach_fault_shown c.self.inside.root c.self.inside.payloads.slots c.self.inside.order.now c.self.inside.order.saved c.args.self.now c.self.view_is c.args.id c.args.spot.action c.args.spot.target

pub returns-clause-ok : goal.returns-clause-ok
returns-clause-ok g c =
    (attach_answered c.self.inside.root c.self.inside.payloads.slots c.self.inside.order c.attach.new.self c.args.self.now (record { kept = c.self.invariant; shows = c.self.view_is }) c.args.id c.args.spot.action c.args.spot.target c.attach.result
    (let fit : SFits w32 c.args.id = c.ranges.id in simp to_z-of_z at c.attach.ensures.fault) (let fit : SFits w32 c.args.id = c.ranges.id in simp to_z-of_z at c.attach.ensures.ok) c.attach.ensures.err).ok

pub returns-clause-refused : goal.returns-clause-refused
returns-clause-refused g c =
    (attach_answered c.self.inside.root c.self.inside.payloads.slots c.self.inside.order c.attach.new.self c.args.self.now (record { kept = c.self.invariant; shows = c.self.view_is }) c.args.id c.args.spot.action c.args.spot.target c.attach.result
    (let fit : SFits w32 c.args.id = c.ranges.id in simp to_z-of_z at c.attach.ensures.fault) (let fit : SFits w32 c.args.id = c.ranges.id in simp to_z-of_z at c.attach.ensures.ok) c.attach.ensures.err).refused
