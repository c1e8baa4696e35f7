use Rattle.std.proofs.Common.{◌≡◌, ◌≤◌, ◌∙◌, ap, sym, subst, None, Some, w32}
use mir.Val.{SFits}
use Rattle.std.proofs.lemmas.Int.{to_z-of_z}
use Rattle.sn_forest.specs.declared.place.Place.TheVariants.{After}
use Rattle.sn_tree.specs.Faults.{detach_fault}
use Rattle.sn_tree.specs.Saving.{HasSpare, spent}
use Rattle.sn_tree.specs.Steps.{detaching}
use Rattle.sn_tree.specs.Keyed.{labels, front, named, sides}
use Rattle.sn_tree.specs.Ordered.{Ordered, saved_by}
use Rattle.sn_tree.proofs.OrderGives.{Gives, spare_of, shift_gives}
use Rattle.sn_tree.proofs.OrderCalls.{detach_goes}
use Rattle.sn_tree.proofs.order.Order.detach.Goals as goal

pub shift_node-requires-clause-spare : goal.shift_node-requires-clause-spare
shift_node-requires-clause-spare c = spare_of c.self.inside.store c.self.inside.journal (subst (λ (o : Ordered). HasSpare o.saved) (sym c.self.view_is) c.requires.room)

pub shift_node-requires-clause-node : goal.shift_node-requires-clause-node
shift_node-requires-clause-node c =
    let h : (detach_fault c.args.id (labels (front c.self.inside.store)) ≡ None) × (1 ≤ named c.args.id c.in-Ok.key (front c.self.inside.store)) = (let fit : SFits w32 c.args.id = c.ranges.id in simp to_z-of_z at c.in-Ok.ensures) in
    (detach_goes c.self.inside.store c.keys_differ.ensures c.is_sound.ensures c.self.invariant.1 c.args.id c.in-Ok.key c.end-end.result h.0 h.1 c.end-end.ensures).node

pub shift_node-requires-clause-place : goal.shift_node-requires-clause-place
shift_node-requires-clause-place c =
    let h : (detach_fault c.args.id (labels (front c.self.inside.store)) ≡ None) × (1 ≤ named c.args.id c.in-Ok.key (front c.self.inside.store)) = (let fit : SFits w32 c.args.id = c.ranges.id in simp to_z-of_z at c.in-Ok.ensures) in
    (detach_goes c.self.inside.store c.keys_differ.ensures c.is_sound.ensures c.self.invariant.1 c.args.id c.in-Ok.key c.end-end.result h.0 h.1 c.end-end.ensures).goes

pub shift_node-requires-clause-sound : goal.shift_node-requires-clause-sound
shift_node-requires-clause-sound c =
    let h : (detach_fault c.args.id (labels (front c.self.inside.store)) ≡ None) × (1 ≤ named c.args.id c.in-Ok.key (front c.self.inside.store)) = (let fit : SFits w32 c.args.id = c.ranges.id in simp to_z-of_z at c.in-Ok.ensures) in
    (detach_goes c.self.inside.store c.keys_differ.ensures c.is_sound.ensures c.self.invariant.1 c.args.id c.in-Ok.key c.end-end.result h.0 h.1 c.end-end.ensures).sound

pub invariant_of-self : goal.invariant_of-self
invariant_of-self c =
    let h : (detach_fault c.args.id (labels (front c.self.inside.store)) ≡ None) × (1 ≤ named c.args.id c.in-Ok.key (front c.self.inside.store)) = (let fit : SFits w32 c.args.id = c.ranges.id in simp to_z-of_z at c.in-Ok.ensures) in
    let g : Gives c.shift_node.new.store c.shift_node.new.journal (detaching c.args.id (sides c.self.inside.store)) (spent 1 (saved_by c.self.inside.store c.self.inside.journal)) = shift_gives c.self.inside.store c.shift_node.new.store c.self.inside.journal c.shift_node.new.journal c.in-Ok.key (After c.end-end.result) (detaching c.args.id (sides c.self.inside.store))
    (detach_goes c.self.inside.store c.keys_differ.ensures c.is_sound.ensures c.self.invariant.1 c.args.id c.in-Ok.key c.end-end.result h.0 h.1 c.end-end.ensures) c.shift_node.ensures.nodes
    (record { ready = c.shift_node.ensures.ready; kept = c.shift_node.ensures.saved }) in
    (g.ready, g.few)

pub returns-clause-ok : goal.returns-clause-ok
returns-clause-ok c =
    let h : (detach_fault c.args.id (labels (front c.self.inside.store)) ≡ None) × (1 ≤ named c.args.id c.in-Ok.key (front c.self.inside.store)) = (let fit : SFits w32 c.args.id = c.ranges.id in simp to_z-of_z at c.in-Ok.ensures) in
    let g : Gives c.shift_node.new.store c.shift_node.new.journal (detaching c.args.id (sides c.self.inside.store)) (spent 1 (saved_by c.self.inside.store c.self.inside.journal)) = shift_gives c.self.inside.store c.shift_node.new.store c.self.inside.journal c.shift_node.new.journal c.in-Ok.key (After c.end-end.result) (detaching c.args.id (sides c.self.inside.store))
    (detach_goes c.self.inside.store c.keys_differ.ensures c.is_sound.ensures c.self.invariant.1 c.args.id c.in-Ok.key c.end-end.result h.0 h.1 c.end-end.ensures) c.shift_node.ensures.nodes
    (record { ready = c.shift_node.ensures.ready; kept = c.shift_node.ensures.saved }) in
    g.shows ∙ ap (λ (o : Ordered). let n : Ordered = record { now = detaching c.args.id o.now; saved = spent 1 o.saved } in n) c.self.view_is

pub returns-in-Err-clause-fault : goal.returns-in-Err-clause-fault
returns-in-Err-clause-fault c =
    let h : detach_fault c.args.id (labels (front c.self.inside.store)) ≡ Some c.in-Err.fault = (let fit : SFits w32 c.args.id = c.ranges.id in simp to_z-of_z at c.in-Err.ensures) in
    sym h ∙ ap (λ (o : Ordered). detach_fault c.args.id o.now.attached) c.self.view_is

pub returns-clause-fault : goal.returns-clause-fault
returns-clause-fault c =
    let h : (detach_fault c.args.id (labels (front c.self.inside.store)) ≡ None) × (1 ≤ named c.args.id c.in-Ok.key (front c.self.inside.store)) = (let fit : SFits w32 c.args.id = c.ranges.id in simp to_z-of_z at c.in-Ok.ensures) in
    sym h.0 ∙ ap (λ (o : Ordered). detach_fault c.args.id o.now.attached) c.self.view_is
