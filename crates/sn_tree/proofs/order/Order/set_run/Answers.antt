use Rattle.std.proofs.Common.{◌≡◌, ◌≤◌, ◌∙◌, ap, sym, subst, false, w32}
use mir.Val.{SFits}
use Rattle.std.proofs.lemmas.Int.{to_z-of_z}
use Rattle.sn_tree.specs.Trees.{holds}
use Rattle.sn_tree.specs.Faults.{set_run_fault}
use Rattle.sn_tree.specs.Saving.{HasSpare, spent}
use Rattle.sn_tree.specs.Steps.{setting}
use Rattle.sn_tree.specs.Keyed.{labels, front, named, sides}
use Rattle.sn_tree.specs.Ordered.{Ordered, saved_by}
use Rattle.sn_tree.proofs.LabelLaws.{named_held}
use Rattle.sn_tree.proofs.OrderGives.{Gives, spare_of, run_gives}
use Rattle.sn_tree.proofs.LabelLaws.{named_there}
use Rattle.sn_tree.proofs.OrderCalls.{run_missing, run_free}
use Rattle.sn_tree.proofs.order.Order.set_run.Goals as goal

pub returns-in_default-clause-fault : goal.returns-in_default-clause-fault
returns-in_default-clause-fault c =
    let h : holds c.args.id (labels (front c.self.inside.store)) ≡ false = (let fit : SFits w32 c.args.id = c.ranges.id in simp to_z-of_z at c.in_default.ensures) in
    sym (run_missing (labels (front c.self.inside.store)) c.args.id h) ∙ ap (λ (o : Ordered). set_run_fault c.args.id o.now.attached) c.self.view_is

pub run_node-requires-clause-spare : goal.run_node-requires-clause-spare
run_node-requires-clause-spare c = spare_of c.self.inside.store c.self.inside.journal (subst (λ (o : Ordered). HasSpare o.saved) (sym c.self.view_is) c.requires.room)

pub run_node-requires-clause-node : goal.run_node-requires-clause-node
run_node-requires-clause-node c =
    let u : 1 ≤ named c.args.id c.in-Some.key (front c.self.inside.store) = (let fit : SFits w32 c.args.id = c.ranges.id in simp to_z-of_z at c.in-Some.ensures) in
    named_there c.self.inside.store c.args.id c.in-Some.key u

pub returns-clause-fault : goal.returns-clause-fault
returns-clause-fault c =
    let u : 1 ≤ named c.args.id c.in-Some.key (front c.self.inside.store) = (let fit : SFits w32 c.args.id = c.ranges.id in simp to_z-of_z at c.in-Some.ensures) in
    sym (run_free (labels (front c.self.inside.store)) c.args.id (named_held c.self.inside.store c.args.id c.in-Some.key u)) ∙ ap (λ (o : Ordered). set_run_fault c.args.id o.now.attached) c.self.view_is

pub invariant_of-self : goal.invariant_of-self
invariant_of-self c =
    let u : 1 ≤ named c.args.id c.in-Some.key (front c.self.inside.store) = (let fit : SFits w32 c.args.id = c.ranges.id in simp to_z-of_z at c.in-Some.ensures) in
    let g : Gives c.run_node.new.store c.run_node.new.journal (setting c.args.id c.args.on (sides c.self.inside.store)) (spent 1 (saved_by c.self.inside.store c.self.inside.journal)) =
    run_gives c.self.inside.store c.run_node.new.store c.self.inside.journal c.run_node.new.journal c.args.id c.in-Some.key c.args.on c.keys_differ.ensures c.is_sound.ensures c.self.invariant.1 u c.run_node.ensures.nodes
    (record { ready = c.run_node.ensures.ready; kept = c.run_node.ensures.saved }) in
    (g.ready, g.few)

pub returns-clause-ok : goal.returns-clause-ok
returns-clause-ok c =
    let u : 1 ≤ named c.args.id c.in-Some.key (front c.self.inside.store) = (let fit : SFits w32 c.args.id = c.ranges.id in simp to_z-of_z at c.in-Some.ensures) in
    let g : Gives c.run_node.new.store c.run_node.new.journal (setting c.args.id c.args.on (sides c.self.inside.store)) (spent 1 (saved_by c.self.inside.store c.self.inside.journal)) =
    run_gives c.self.inside.store c.run_node.new.store c.self.inside.journal c.run_node.new.journal c.args.id c.in-Some.key c.args.on c.keys_differ.ensures c.is_sound.ensures c.self.invariant.1 u c.run_node.ensures.nodes
    (record { ready = c.run_node.ensures.ready; kept = c.run_node.ensures.saved }) in
    g.shows ∙ ap (λ (o : Ordered). let n : Ordered = record { now = setting c.args.id c.args.on o.now; saved = spent 1 o.saved } in n) c.self.view_is
