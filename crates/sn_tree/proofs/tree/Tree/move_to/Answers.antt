use Rattle.std.proofs.Common.{◌∙◌, w32}
use mir.Val.{SFits}
use Rattle.std.proofs.lemmas.Int.{to_z-of_z}
use Rattle.sn_tree.proofs.Showing.{move_fault_shown}
use Rattle.sn_tree.proofs.Following.{spare}
use Rattle.sn_tree.proofs.OrderedLaws.{move_answered}
use Rattle.sn_tree.proofs.tree.Tree.move_to.Goals as goal

pub move_to-requires : goal.move_to-requires
move_to-requires g c = record { room = spare c.self.inside.root c.self.inside.payloads.slots c.self.inside.order.now c.self.inside.order.saved c.args.self.now c.self.view_is c.requires.room }

pub invariant_of-self : goal.invariant_of-self
invariant_of-self g c =
    (move_answered c.self.inside.root c.self.inside.payloads.slots c.self.inside.order c.move_to.new.self c.args.self.now (record { kept = c.self.invariant; shows = c.self.view_is }) c.args.id c.args.spot.action c.args.spot.target c.move_to.result
    (let fit : SFits w32 c.args.id = c.ranges.id in simp to_z-of_z at c.move_to.ensures.fault) (let fit : SFits w32 c.args.id = c.ranges.id in simp to_z-of_z at c.move_to.ensures.ok) c.move_to.ensures.err).kept

pub returns-clause-fault : goal.returns-clause-fault
returns-clause-fault g c =
    let fit : SFits w32 c.args.id = c.ranges.id in
    let h = simp to_z-of_z at c.move_to.ensures.fault in
    h ∙ move_fault_shown c.self.inside.root c.self.inside.payloads.slots c.self.inside.order.now c.self.inside.order.saved c.args.self.now c.self.view_is c.args.id c.args.spot.action c.args.spot.target

pub returns-clause-ok : goal.returns-clause-ok
returns-clause-ok g c =
    (move_answered c.self.inside.root c.self.inside.payloads.slots c.self.inside.order c.move_to.new.self c.args.self.now (record { kept = c.self.invariant; shows = c.self.view_is }) c.args.id c.args.spot.action c.args.spot.target c.move_to.result
    (let fit : SFits w32 c.args.id = c.ranges.id in simp to_z-of_z at c.move_to.ensures.fault) (let fit : SFits w32 c.args.id = c.ranges.id in simp to_z-of_z at c.move_to.ensures.ok) c.move_to.ensures.err).ok

pub returns-clause-refused : goal.returns-clause-refused
returns-clause-refused g c =
    (move_answered c.self.inside.root c.self.inside.payloads.slots c.self.inside.order c.move_to.new.self c.args.self.now (record { kept = c.self.invariant; shows = c.self.view_is }) c.args.id c.args.spot.action c.args.spot.target c.move_to.result
    (let fit : SFits w32 c.args.id = c.ranges.id in simp to_z-of_z at c.move_to.ensures.fault) (let fit : SFits w32 c.args.id = c.ranges.id in simp to_z-of_z at c.move_to.ensures.ok) c.move_to.ensures.err).refused
