use Rattle.std.proofs.Common.{◌∙◌, w32}
use mir.Val.{SFits}
use Rattle.std.proofs.lemmas.Int.{to_z-of_z}
use Rattle.sn_tree.proofs.Showing.{detach_fault_shown}
use Rattle.sn_tree.proofs.Following.{spare}
use Rattle.sn_tree.proofs.OrderedLaws.{detach_answered}
use Rattle.sn_tree.proofs.tree.Tree.detach.Goals as goal

pub detach-requires : goal.detach-requires
detach-requires g c = record { room = spare c.self.inside.root c.self.inside.payloads.slots c.self.inside.order.now c.self.inside.order.saved c.args.self.now c.self.view_is c.requires.room }

pub invariant_of-self : goal.invariant_of-self
invariant_of-self g c =
    (detach_answered c.self.inside.root c.self.inside.payloads.slots c.self.inside.order c.detach.new.self c.args.self.now (record { kept = c.self.invariant; shows = c.self.view_is }) c.args.id c.detach.result
    (let fit : SFits w32 c.args.id = c.ranges.id in simp to_z-of_z at c.detach.ensures.fault) (let fit : SFits w32 c.args.id = c.ranges.id in simp to_z-of_z at c.detach.ensures.ok) c.detach.ensures.err).kept

pub returns-clause-fault : goal.returns-clause-fault
returns-clause-fault g c =
    let fit : SFits w32 c.args.id = c.ranges.id in
    let h = simp to_z-of_z at c.detach.ensures.fault in
    h ∙ detach_fault_shown c.self.inside.root c.self.inside.payloads.slots c.self.inside.order.now c.self.inside.order.saved c.args.self.now c.self.view_is c.args.id

pub returns-clause-ok : goal.returns-clause-ok
returns-clause-ok g c =
    (detach_answered c.self.inside.root c.self.inside.payloads.slots c.self.inside.order c.detach.new.self c.args.self.now (record { kept = c.self.invariant; shows = c.self.view_is }) c.args.id c.detach.result
    (let fit : SFits w32 c.args.id = c.ranges.id in simp to_z-of_z at c.detach.ensures.fault) (let fit : SFits w32 c.args.id = c.ranges.id in simp to_z-of_z at c.detach.ensures.ok) c.detach.ensures.err).ok

pub returns-clause-refused : goal.returns-clause-refused
returns-clause-refused g c =
    (detach_answered c.self.inside.root c.self.inside.payloads.slots c.self.inside.order c.detach.new.self c.args.self.now (record { kept = c.self.invariant; shows = c.self.view_is }) c.args.id c.detach.result
    (let fit : SFits w32 c.args.id = c.ranges.id in simp to_z-of_z at c.detach.ensures.fault) (let fit : SFits w32 c.args.id = c.ranges.id in simp to_z-of_z at c.detach.ensures.ok) c.detach.ensures.err).refused
