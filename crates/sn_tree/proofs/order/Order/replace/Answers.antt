use Rattle.std.proofs.Common.{◌≡◌, ◌≤◌, ◌∙◌, ap, sym, subst, true, None, Some, w32}
use mir.Val.{SFits}
use Rattle.std.proofs.lemmas.Int.{to_z-of_z}
use Rattle.sn_forest.specs.Trees.{none, tree}
use Rattle.sn_forest.specs.Places.{put}
use Rattle.sn_forest.specs.declared.place.Place.TheVariants.{Before, After}
use Rattle.sn_tree.specs.Faults.{replace_fault}
use Rattle.sn_tree.specs.Saving.{HasSpare, noted, spent}
use Rattle.sn_tree.specs.Steps.{replacing}
use Rattle.sn_tree.specs.declared.item.Item.{Item}
use Rattle.sn_tree.specs.Keyed.{labels, front, named, names, sides}
use Rattle.sn_tree.specs.Stored.{IsAmong}
use Rattle.sn_tree.specs.Ordered.{Ordered, AreFew, ordered_by, saved_by}
use Rattle.sn_tree.proofs.OrderShifts.{Shifts}
use Rattle.sn_tree.proofs.OrderGives.{Gives, spare_of, spare_noted, shift_gives}
use Rattle.sn_tree.proofs.OrderCalls.{replace_comes, replace_goes}
use Rattle.sn_tree.proofs.order.Order.replace.Goals as goal

pub insert_node-requires-clause-place : goal.insert_node-requires-clause-place
insert_node-requires-clause-place c =
    let h : (replace_fault c.args.id c.args.target (labels (front c.self.inside.store)) ≡ None) × (1 ≤ named c.args.target c.in-Ok.old (front c.self.inside.store)) =
    (let fit : SFits w32 c.args.id = c.ranges.id in let fits : SFits w32 c.args.target = c.ranges.target in simp to_z-of_z at c.in-Ok.ensures) in
    let comes : IsAmong c.self.inside.store (Before c.in-Ok.old) × (names c.args.id (front c.self.inside.store) ≡ 0) = replace_comes c.self.inside.store c.keys_differ.ensures c.is_sound.ensures c.args.id c.args.target c.in-Ok.old h.0 h.1 in
    comes.0

pub insert_node-requires-clause-absent : goal.insert_node-requires-clause-absent
insert_node-requires-clause-absent c =
    let h : (replace_fault c.args.id c.args.target (labels (front c.self.inside.store)) ≡ None) × (1 ≤ named c.args.target c.in-Ok.old (front c.self.inside.store)) =
    (let fit : SFits w32 c.args.id = c.ranges.id in let fits : SFits w32 c.args.target = c.ranges.target in simp to_z-of_z at c.in-Ok.ensures) in
    let comes : IsAmong c.self.inside.store (Before c.in-Ok.old) × (names c.args.id (front c.self.inside.store) ≡ 0) = replace_comes c.self.inside.store c.keys_differ.ensures c.is_sound.ensures c.args.id c.args.target c.in-Ok.old h.0 h.1 in
    let fit : SFits w32 c.args.id = c.ranges.id in
    let item : c.new_item.result ≡ record { id = c.args.id; kind = c.args.kind; running = true; key = Some c.args.key } = simp to_z-of_z at c.new_item.ensures in
    ap (λ (x : Item). names x.id (front c.self.inside.store)) item ∙ comes.1

pub shift_node-requires-clause-spare : goal.shift_node-requires-clause-spare
shift_node-requires-clause-spare c =
    spare_of c.insert_node.new.store c.insert_node.new.journal
    (subst HasSpare (sym c.in-Ok-insert_node.ensures.saved) (spare_noted c.args.key (saved_by c.self.inside.store c.self.inside.journal) (subst (λ (o : Ordered). HasSpare o.saved) (sym c.self.view_is) c.requires.room)))

pub shift_node-requires-clause-node : goal.shift_node-requires-clause-node
shift_node-requires-clause-node c =
    let h : (replace_fault c.args.id c.args.target (labels (front c.self.inside.store)) ≡ None) × (1 ≤ named c.args.target c.in-Ok.old (front c.self.inside.store)) =
    (let fit : SFits w32 c.args.id = c.ranges.id in let fits : SFits w32 c.args.target = c.ranges.target in simp to_z-of_z at c.in-Ok.ensures) in
    let fit : SFits w32 c.args.id = c.ranges.id in
    let item : c.new_item.result ≡ record { id = c.args.id; kind = c.args.kind; running = true; key = Some c.args.key } = simp to_z-of_z at c.new_item.ensures in
    let s : Shifts c.insert_node.new.store c.in-Ok.old (After c.end-end.result) (replacing c.args.id c.args.kind c.args.target (Some c.args.key) (sides c.self.inside.store)) =
    replace_goes c.self.inside.store c.keys_differ.ensures c.is_sound.ensures c.self.invariant.1 c.args.id c.args.kind c.args.target c.in-Ok.old (Some c.args.key) h.0 h.1 c.in-Ok-insert_node.field-0 c.in-Ok-insert_node.ensures.fresh c.insert_node.new.store
    (c.in-Ok-insert_node.ensures.nodes ∙ ap (λ x. put (Before c.in-Ok.old) (tree c.in-Ok-insert_node.field-0 x none none) c.self.inside.store) item) c.end-end.result c.end-end.ensures in
    s.node

pub shift_node-requires-clause-place : goal.shift_node-requires-clause-place
shift_node-requires-clause-place c =
    let h : (replace_fault c.args.id c.args.target (labels (front c.self.inside.store)) ≡ None) × (1 ≤ named c.args.target c.in-Ok.old (front c.self.inside.store)) =
    (let fit : SFits w32 c.args.id = c.ranges.id in let fits : SFits w32 c.args.target = c.ranges.target in simp to_z-of_z at c.in-Ok.ensures) in
    let fit : SFits w32 c.args.id = c.ranges.id in
    let item : c.new_item.result ≡ record { id = c.args.id; kind = c.args.kind; running = true; key = Some c.args.key } = simp to_z-of_z at c.new_item.ensures in
    let s : Shifts c.insert_node.new.store c.in-Ok.old (After c.end-end.result) (replacing c.args.id c.args.kind c.args.target (Some c.args.key) (sides c.self.inside.store)) =
    replace_goes c.self.inside.store c.keys_differ.ensures c.is_sound.ensures c.self.invariant.1 c.args.id c.args.kind c.args.target c.in-Ok.old (Some c.args.key) h.0 h.1 c.in-Ok-insert_node.field-0 c.in-Ok-insert_node.ensures.fresh c.insert_node.new.store
    (c.in-Ok-insert_node.ensures.nodes ∙ ap (λ x. put (Before c.in-Ok.old) (tree c.in-Ok-insert_node.field-0 x none none) c.self.inside.store) item) c.end-end.result c.end-end.ensures in
    s.goes

pub shift_node-requires-clause-sound : goal.shift_node-requires-clause-sound
shift_node-requires-clause-sound c =
    let h : (replace_fault c.args.id c.args.target (labels (front c.self.inside.store)) ≡ None) × (1 ≤ named c.args.target c.in-Ok.old (front c.self.inside.store)) =
    (let fit : SFits w32 c.args.id = c.ranges.id in let fits : SFits w32 c.args.target = c.ranges.target in simp to_z-of_z at c.in-Ok.ensures) in
    let fit : SFits w32 c.args.id = c.ranges.id in
    let item : c.new_item.result ≡ record { id = c.args.id; kind = c.args.kind; running = true; key = Some c.args.key } = simp to_z-of_z at c.new_item.ensures in
    let s : Shifts c.insert_node.new.store c.in-Ok.old (After c.end-end.result) (replacing c.args.id c.args.kind c.args.target (Some c.args.key) (sides c.self.inside.store)) =
    replace_goes c.self.inside.store c.keys_differ.ensures c.is_sound.ensures c.self.invariant.1 c.args.id c.args.kind c.args.target c.in-Ok.old (Some c.args.key) h.0 h.1 c.in-Ok-insert_node.field-0 c.in-Ok-insert_node.ensures.fresh c.insert_node.new.store
    (c.in-Ok-insert_node.ensures.nodes ∙ ap (λ x. put (Before c.in-Ok.old) (tree c.in-Ok-insert_node.field-0 x none none) c.self.inside.store) item) c.end-end.result c.end-end.ensures in
    s.sound

pub returns-in-Err-clause-fault : goal.returns-in-Err-clause-fault
returns-in-Err-clause-fault c =
    let h : replace_fault c.args.id c.args.target (labels (front c.self.inside.store)) ≡ Some c.in-Err.fault =
    (let fit : SFits w32 c.args.id = c.ranges.id in let fits : SFits w32 c.args.target = c.ranges.target in simp to_z-of_z at c.in-Err.ensures) in
    sym h ∙ ap (λ (o : Ordered). replace_fault c.args.id c.args.target o.now.attached) c.self.view_is

pub returns-clause-fault : goal.returns-clause-fault
returns-clause-fault c =
    let h : (replace_fault c.args.id c.args.target (labels (front c.self.inside.store)) ≡ None) × (1 ≤ named c.args.target c.in-Ok.old (front c.self.inside.store)) =
    (let fit : SFits w32 c.args.id = c.ranges.id in let fits : SFits w32 c.args.target = c.ranges.target in simp to_z-of_z at c.in-Ok.ensures) in
    sym h.0 ∙ ap (λ (o : Ordered). replace_fault c.args.id c.args.target o.now.attached) c.self.view_is

pub invariant_of-self-2 : goal.invariant_of-self-2
invariant_of-self-2 c =
    let h : (replace_fault c.args.id c.args.target (labels (front c.self.inside.store)) ≡ None) × (1 ≤ named c.args.target c.in-Ok.old (front c.self.inside.store)) =
    (let fit : SFits w32 c.args.id = c.ranges.id in let fits : SFits w32 c.args.target = c.ranges.target in simp to_z-of_z at c.in-Ok.ensures) in
    let fit : SFits w32 c.args.id = c.ranges.id in
    let item : c.new_item.result ≡ record { id = c.args.id; kind = c.args.kind; running = true; key = Some c.args.key } = simp to_z-of_z at c.new_item.ensures in
    let s : Shifts c.insert_node.new.store c.in-Ok.old (After c.end-end.result) (replacing c.args.id c.args.kind c.args.target (Some c.args.key) (sides c.self.inside.store)) =
    replace_goes c.self.inside.store c.keys_differ.ensures c.is_sound.ensures c.self.invariant.1 c.args.id c.args.kind c.args.target c.in-Ok.old (Some c.args.key) h.0 h.1 c.in-Ok-insert_node.field-0 c.in-Ok-insert_node.ensures.fresh c.insert_node.new.store
    (c.in-Ok-insert_node.ensures.nodes ∙ ap (λ x. put (Before c.in-Ok.old) (tree c.in-Ok-insert_node.field-0 x none none) c.self.inside.store) item) c.end-end.result c.end-end.ensures in
    let g : Gives c.shift_node.new.store c.shift_node.new.journal (replacing c.args.id c.args.kind c.args.target (Some c.args.key) (sides c.self.inside.store)) (spent 1 (saved_by c.insert_node.new.store c.insert_node.new.journal)) =
    shift_gives c.insert_node.new.store c.shift_node.new.store c.insert_node.new.journal c.shift_node.new.journal c.in-Ok.old (After c.end-end.result) (replacing c.args.id c.args.kind c.args.target (Some c.args.key) (sides c.self.inside.store))
    s c.shift_node.ensures.nodes (record { ready = c.shift_node.ensures.ready; kept = c.shift_node.ensures.saved }) in
    (g.ready, g.few)

pub returns-clause-ok : goal.returns-clause-ok
returns-clause-ok c =
    let h : (replace_fault c.args.id c.args.target (labels (front c.self.inside.store)) ≡ None) × (1 ≤ named c.args.target c.in-Ok.old (front c.self.inside.store)) =
    (let fit : SFits w32 c.args.id = c.ranges.id in let fits : SFits w32 c.args.target = c.ranges.target in simp to_z-of_z at c.in-Ok.ensures) in
    let fit : SFits w32 c.args.id = c.ranges.id in
    let item : c.new_item.result ≡ record { id = c.args.id; kind = c.args.kind; running = true; key = Some c.args.key } = simp to_z-of_z at c.new_item.ensures in
    let s : Shifts c.insert_node.new.store c.in-Ok.old (After c.end-end.result) (replacing c.args.id c.args.kind c.args.target (Some c.args.key) (sides c.self.inside.store)) =
    replace_goes c.self.inside.store c.keys_differ.ensures c.is_sound.ensures c.self.invariant.1 c.args.id c.args.kind c.args.target c.in-Ok.old (Some c.args.key) h.0 h.1 c.in-Ok-insert_node.field-0 c.in-Ok-insert_node.ensures.fresh c.insert_node.new.store
    (c.in-Ok-insert_node.ensures.nodes ∙ ap (λ x. put (Before c.in-Ok.old) (tree c.in-Ok-insert_node.field-0 x none none) c.self.inside.store) item) c.end-end.result c.end-end.ensures in
    let g : Gives c.shift_node.new.store c.shift_node.new.journal (replacing c.args.id c.args.kind c.args.target (Some c.args.key) (sides c.self.inside.store)) (spent 1 (saved_by c.insert_node.new.store c.insert_node.new.journal)) =
    shift_gives c.insert_node.new.store c.shift_node.new.store c.insert_node.new.journal c.shift_node.new.journal c.in-Ok.old (After c.end-end.result) (replacing c.args.id c.args.kind c.args.target (Some c.args.key) (sides c.self.inside.store))
    s c.shift_node.ensures.nodes (record { ready = c.shift_node.ensures.ready; kept = c.shift_node.ensures.saved }) in
    g.shows
    ∙ (ap (λ k. let n : Ordered = record { now = replacing c.args.id c.args.kind c.args.target (Some c.args.key) (sides c.self.inside.store); saved = spent 1 k } in n) c.in-Ok-insert_node.ensures.saved
    ∙ ap (λ (o : Ordered). let n : Ordered = record { now = replacing c.args.id c.args.kind c.args.target (Some c.args.key) o.now; saved = spent 1 (noted c.args.key o.saved) } in n) c.self.view_is)

pub invariant_of-self : goal.invariant_of-self
invariant_of-self c = (c.insert_node.ensures.ready, subst AreFew (sym c.in-Err-insert_node.ensures.err_nodes) c.self.invariant.1)

pub returns-in-Err-insert_node-clause-fault : goal.returns-in-Err-insert_node-clause-fault
returns-in-Err-insert_node-clause-fault c =
    let h : (replace_fault c.args.id c.args.target (labels (front c.self.inside.store)) ≡ None) × (1 ≤ named c.args.target c.in-Ok.old (front c.self.inside.store)) =
    (let fit : SFits w32 c.args.id = c.ranges.id in let fits : SFits w32 c.args.target = c.ranges.target in simp to_z-of_z at c.in-Ok.ensures) in
    sym h.0 ∙ ap (λ (o : Ordered). replace_fault c.args.id c.args.target o.now.attached) c.self.view_is

pub returns-in-Err-insert_node-clause-err : goal.returns-in-Err-insert_node-clause-err
returns-in-Err-insert_node-clause-err c = (λ i. ordered_by (c.in-Err-insert_node.ensures.err_nodes i) (c.in-Err-insert_node.ensures.err_saved i)) ∙ c.self.view_is
