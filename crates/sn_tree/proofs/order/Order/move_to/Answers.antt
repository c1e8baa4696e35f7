use Rattle.std.proofs.Common.{◌≡◌, ◌∙◌, ap, sym, subst, None, Some, w32}
use mir.Val.{SFits}
use Rattle.std.proofs.lemmas.Int.{to_z-of_z}
use Rattle.sn_tree.specs.Faults.{move_fault}
use Rattle.sn_tree.specs.Saving.{HasSpare, spent}
use Rattle.sn_tree.specs.Steps.{moving}
use Rattle.sn_tree.specs.Keyed.{labels, front, sides}
use Rattle.sn_tree.specs.Stored.{IsMovable}
use Rattle.sn_tree.specs.Ordered.{Ordered, saved_by}
use Rattle.sn_tree.proofs.OrderGives.{Gives, spare_of, shift_gives}
use Rattle.sn_tree.proofs.OrderCalls.{move_goes}
use Rattle.sn_tree.proofs.order.Order.move_to.Goals as goal

pub shift_node-requires-clause-spare : goal.shift_node-requires-clause-spare
shift_node-requires-clause-spare c = spare_of c.self.inside.store c.self.inside.journal (subst (λ (o : Ordered). HasSpare o.saved) (sym c.self.view_is) c.requires.room)

pub shift_node-requires-clause-node : goal.shift_node-requires-clause-node
shift_node-requires-clause-node c =
    let h : (move_fault c.args.id c.args.spot.action c.args.spot.target (labels (front c.self.inside.store)) ≡ None) × IsMovable c.self.inside.store c.args.id c.args.spot.action c.args.spot.target c.in-Ok.found.0 c.in-Ok.found.1 = (let fit : SFits w32 c.args.id = c.ranges.id in simp to_z-of_z at c.in-Ok.ensures) in
    (move_goes c.self.inside.store c.keys_differ.ensures c.is_sound.ensures c.self.invariant.1 c.args.id c.args.spot.action c.args.spot.target c.in-Ok.found.0 c.in-Ok.found.1 h.0 h.1).node

pub shift_node-requires-clause-place : goal.shift_node-requires-clause-place
shift_node-requires-clause-place c =
    let h : (move_fault c.args.id c.args.spot.action c.args.spot.target (labels (front c.self.inside.store)) ≡ None) × IsMovable c.self.inside.store c.args.id c.args.spot.action c.args.spot.target c.in-Ok.found.0 c.in-Ok.found.1 = (let fit : SFits w32 c.args.id = c.ranges.id in simp to_z-of_z at c.in-Ok.ensures) in
    (move_goes c.self.inside.store c.keys_differ.ensures c.is_sound.ensures c.self.invariant.1 c.args.id c.args.spot.action c.args.spot.target c.in-Ok.found.0 c.in-Ok.found.1 h.0 h.1).goes

pub shift_node-requires-clause-sound : goal.shift_node-requires-clause-sound
shift_node-requires-clause-sound c =
    let h : (move_fault c.args.id c.args.spot.action c.args.spot.target (labels (front c.self.inside.store)) ≡ None) × IsMovable c.self.inside.store c.args.id c.args.spot.action c.args.spot.target c.in-Ok.found.0 c.in-Ok.found.1 = (let fit : SFits w32 c.args.id = c.ranges.id in simp to_z-of_z at c.in-Ok.ensures) in
    (move_goes c.self.inside.store c.keys_differ.ensures c.is_sound.ensures c.self.invariant.1 c.args.id c.args.spot.action c.args.spot.target c.in-Ok.found.0 c.in-Ok.found.1 h.0 h.1).sound

pub invariant_of-self : goal.invariant_of-self
invariant_of-self c =
    let h : (move_fault c.args.id c.args.spot.action c.args.spot.target (labels (front c.self.inside.store)) ≡ None) × IsMovable c.self.inside.store c.args.id c.args.spot.action c.args.spot.target c.in-Ok.found.0 c.in-Ok.found.1 = (let fit : SFits w32 c.args.id = c.ranges.id in simp to_z-of_z at c.in-Ok.ensures) in
    let g : Gives c.shift_node.new.store c.shift_node.new.journal (moving c.args.id c.args.spot.action c.args.spot.target (sides c.self.inside.store)) (spent 1 (saved_by c.self.inside.store c.self.inside.journal)) = shift_gives c.self.inside.store c.shift_node.new.store c.self.inside.journal c.shift_node.new.journal c.in-Ok.found.0 c.in-Ok.found.1 (moving c.args.id c.args.spot.action c.args.spot.target (sides c.self.inside.store))
    (move_goes c.self.inside.store c.keys_differ.ensures c.is_sound.ensures c.self.invariant.1 c.args.id c.args.spot.action c.args.spot.target c.in-Ok.found.0 c.in-Ok.found.1 h.0 h.1) c.shift_node.ensures.nodes
    (record { ready = c.shift_node.ensures.ready; kept = c.shift_node.ensures.saved }) in
    (g.ready, g.few)

pub returns-clause-ok : goal.returns-clause-ok
returns-clause-ok c =
    let h : (move_fault c.args.id c.args.spot.action c.args.spot.target (labels (front c.self.inside.store)) ≡ None) × IsMovable c.self.inside.store c.args.id c.args.spot.action c.args.spot.target c.in-Ok.found.0 c.in-Ok.found.1 = (let fit : SFits w32 c.args.id = c.ranges.id in simp to_z-of_z at c.in-Ok.ensures) in
    let g : Gives c.shift_node.new.store c.shift_node.new.journal (moving c.args.id c.args.spot.action c.args.spot.target (sides c.self.inside.store)) (spent 1 (saved_by c.self.inside.store c.self.inside.journal)) = shift_gives c.self.inside.store c.shift_node.new.store c.self.inside.journal c.shift_node.new.journal c.in-Ok.found.0 c.in-Ok.found.1 (moving c.args.id c.args.spot.action c.args.spot.target (sides c.self.inside.store))
    (move_goes c.self.inside.store c.keys_differ.ensures c.is_sound.ensures c.self.invariant.1 c.args.id c.args.spot.action c.args.spot.target c.in-Ok.found.0 c.in-Ok.found.1 h.0 h.1) c.shift_node.ensures.nodes
    (record { ready = c.shift_node.ensures.ready; kept = c.shift_node.ensures.saved }) in
    g.shows ∙ ap (λ (o : Ordered). let n : Ordered = record { now = moving c.args.id c.args.spot.action c.args.spot.target o.now; saved = spent 1 o.saved } in n) c.self.view_is

pub returns-in-Err-clause-fault : goal.returns-in-Err-clause-fault
returns-in-Err-clause-fault c =
    let h : move_fault c.args.id c.args.spot.action c.args.spot.target (labels (front c.self.inside.store)) ≡ Some c.in-Err.fault = (let fit : SFits w32 c.args.id = c.ranges.id in simp to_z-of_z at c.in-Err.ensures) in
    sym h ∙ ap (λ (o : Ordered). move_fault c.args.id c.args.spot.action c.args.spot.target o.now.attached) c.self.view_is

pub returns-clause-fault : goal.returns-clause-fault
returns-clause-fault c =
    let h : (move_fault c.args.id c.args.spot.action c.args.spot.target (labels (front c.self.inside.store)) ≡ None) × IsMovable c.self.inside.store c.args.id c.args.spot.action c.args.spot.target c.in-Ok.found.0 c.in-Ok.found.1 = (let fit : SFits w32 c.args.id = c.ranges.id in simp to_z-of_z at c.in-Ok.ensures) in
    sym h.0 ∙ ap (λ (o : Ordered). move_fault c.args.id c.args.spot.action c.args.spot.target o.now.attached) c.self.view_is
