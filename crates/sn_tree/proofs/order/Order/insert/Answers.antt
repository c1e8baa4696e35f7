use Rattle.std.proofs.Common.{◌≡◌, ◌∙◌, ap, sym, subst, true, None, Some, w32}
use mir.Val.{SFits}
use Rattle.std.proofs.lemmas.Int.{to_z-of_z}
use Rattle.sn_forest.specs.Trees.{none, tree}
use Rattle.sn_forest.specs.Places.{put}
use Rattle.sn_tree.specs.Faults.{insert_fault}
use Rattle.sn_tree.specs.Saving.{noted}
use Rattle.sn_tree.specs.Steps.{inserting}
use Rattle.sn_tree.specs.declared.item.Item.{Item}
use Rattle.sn_tree.specs.Keyed.{labels, front, names, sides}
use Rattle.sn_tree.specs.Stored.{IsSpot}
use Rattle.sn_tree.specs.Ordered.{Ordered, AreFew, ordered_by, saved_by}
use Rattle.sn_tree.proofs.OrderGives.{Gives, insert_gives}
use Rattle.sn_tree.proofs.OrderCalls.{Comes, insert_comes}
use Rattle.sn_tree.proofs.order.Order.insert.Goals as goal

pub insert_node-requires-clause-place : goal.insert_node-requires-clause-place
insert_node-requires-clause-place c =
    let h : (insert_fault c.args.id c.args.spot.action c.args.spot.target (labels (front c.self.inside.store)) ≡ None) × IsSpot c.self.inside.store c.args.spot.action c.args.spot.target c.in-Ok.place = (let fit : SFits w32 c.args.id = c.ranges.id in simp to_z-of_z at c.in-Ok.ensures) in
    let comes : Comes c.self.inside.store c.args.id c.args.spot.action c.args.spot.target c.in-Ok.place = insert_comes c.self.inside.store c.keys_differ.ensures c.is_sound.ensures c.args.id c.args.spot.action c.args.spot.target c.in-Ok.place h.0 h.1 in
    comes.among

pub insert_node-requires-clause-absent : goal.insert_node-requires-clause-absent
insert_node-requires-clause-absent c =
    let h : (insert_fault c.args.id c.args.spot.action c.args.spot.target (labels (front c.self.inside.store)) ≡ None) × IsSpot c.self.inside.store c.args.spot.action c.args.spot.target c.in-Ok.place = (let fit : SFits w32 c.args.id = c.ranges.id in simp to_z-of_z at c.in-Ok.ensures) in
    let comes : Comes c.self.inside.store c.args.id c.args.spot.action c.args.spot.target c.in-Ok.place = insert_comes c.self.inside.store c.keys_differ.ensures c.is_sound.ensures c.args.id c.args.spot.action c.args.spot.target c.in-Ok.place h.0 h.1 in
    let fit : SFits w32 c.args.id = c.ranges.id in
    let item : c.new_item.result ≡ record { id = c.args.id; kind = c.args.kind; running = true; key = Some c.args.key } = simp to_z-of_z at c.new_item.ensures in
    ap (λ (x : Item). names x.id (front c.self.inside.store)) item ∙ comes.absent

pub returns-in-Err-clause-fault : goal.returns-in-Err-clause-fault
returns-in-Err-clause-fault c =
    let h : insert_fault c.args.id c.args.spot.action c.args.spot.target (labels (front c.self.inside.store)) ≡ Some c.in-Err.fault = (let fit : SFits w32 c.args.id = c.ranges.id in simp to_z-of_z at c.in-Err.ensures) in
    sym h ∙ ap (λ (o : Ordered). insert_fault c.args.id c.args.spot.action c.args.spot.target o.now.attached) c.self.view_is

pub returns-clause-fault : goal.returns-clause-fault
returns-clause-fault c =
    let h : (insert_fault c.args.id c.args.spot.action c.args.spot.target (labels (front c.self.inside.store)) ≡ None) × IsSpot c.self.inside.store c.args.spot.action c.args.spot.target c.in-Ok.place = (let fit : SFits w32 c.args.id = c.ranges.id in simp to_z-of_z at c.in-Ok.ensures) in
    let comes : Comes c.self.inside.store c.args.id c.args.spot.action c.args.spot.target c.in-Ok.place = insert_comes c.self.inside.store c.keys_differ.ensures c.is_sound.ensures c.args.id c.args.spot.action c.args.spot.target c.in-Ok.place h.0 h.1 in
    sym h.0 ∙ ap (λ (o : Ordered). insert_fault c.args.id c.args.spot.action c.args.spot.target o.now.attached) c.self.view_is

pub returns-clause-ok : goal.returns-clause-ok
returns-clause-ok c =
    let h : (insert_fault c.args.id c.args.spot.action c.args.spot.target (labels (front c.self.inside.store)) ≡ None) × IsSpot c.self.inside.store c.args.spot.action c.args.spot.target c.in-Ok.place = (let fit : SFits w32 c.args.id = c.ranges.id in simp to_z-of_z at c.in-Ok.ensures) in
    let comes : Comes c.self.inside.store c.args.id c.args.spot.action c.args.spot.target c.in-Ok.place = insert_comes c.self.inside.store c.keys_differ.ensures c.is_sound.ensures c.args.id c.args.spot.action c.args.spot.target c.in-Ok.place h.0 h.1 in
    let fit : SFits w32 c.args.id = c.ranges.id in
    let item : c.new_item.result ≡ record { id = c.args.id; kind = c.args.kind; running = true; key = Some c.args.key } = simp to_z-of_z at c.new_item.ensures in
    let g : Gives c.insert_node.new.store c.insert_node.new.journal (inserting c.args.id c.args.kind c.args.spot.action c.args.spot.target (Some c.args.key) (sides c.self.inside.store)) (noted c.args.key (saved_by c.self.inside.store c.self.inside.journal)) =
    insert_gives c.self.inside.store c.insert_node.new.store c.self.inside.journal c.insert_node.new.journal c.args.spot.action c.args.spot.target c.in-Ok.place c.in-Ok-insert_node.field-0 c.args.id c.args.kind (Some c.args.key) c.args.key c.keys_differ.ensures c.is_sound.ensures h.1 comes.beside comes.few
    (c.in-Ok-insert_node.ensures.nodes ∙ ap (λ x. put c.in-Ok.place (tree c.in-Ok-insert_node.field-0 x none none) c.self.inside.store) item)
    (record { ready = c.insert_node.ensures.ready; kept = c.in-Ok-insert_node.ensures.saved }) in
    g.shows ∙ ap (λ (o : Ordered). let n : Ordered = record { now = inserting c.args.id c.args.kind c.args.spot.action c.args.spot.target (Some c.args.key) o.now; saved = noted c.args.key o.saved } in n) c.self.view_is

pub invariant_of-self-2 : goal.invariant_of-self-2
invariant_of-self-2 c =
    let h : (insert_fault c.args.id c.args.spot.action c.args.spot.target (labels (front c.self.inside.store)) ≡ None) × IsSpot c.self.inside.store c.args.spot.action c.args.spot.target c.in-Ok.place = (let fit : SFits w32 c.args.id = c.ranges.id in simp to_z-of_z at c.in-Ok.ensures) in
    let comes : Comes c.self.inside.store c.args.id c.args.spot.action c.args.spot.target c.in-Ok.place = insert_comes c.self.inside.store c.keys_differ.ensures c.is_sound.ensures c.args.id c.args.spot.action c.args.spot.target c.in-Ok.place h.0 h.1 in
    let fit : SFits w32 c.args.id = c.ranges.id in
    let item : c.new_item.result ≡ record { id = c.args.id; kind = c.args.kind; running = true; key = Some c.args.key } = simp to_z-of_z at c.new_item.ensures in
    let g : Gives c.insert_node.new.store c.insert_node.new.journal (inserting c.args.id c.args.kind c.args.spot.action c.args.spot.target (Some c.args.key) (sides c.self.inside.store)) (noted c.args.key (saved_by c.self.inside.store c.self.inside.journal)) =
    insert_gives c.self.inside.store c.insert_node.new.store c.self.inside.journal c.insert_node.new.journal c.args.spot.action c.args.spot.target c.in-Ok.place c.in-Ok-insert_node.field-0 c.args.id c.args.kind (Some c.args.key) c.args.key c.keys_differ.ensures c.is_sound.ensures h.1 comes.beside comes.few
    (c.in-Ok-insert_node.ensures.nodes ∙ ap (λ x. put c.in-Ok.place (tree c.in-Ok-insert_node.field-0 x none none) c.self.inside.store) item)
    (record { ready = c.insert_node.ensures.ready; kept = c.in-Ok-insert_node.ensures.saved }) in
    (g.ready, g.few)

pub invariant_of-self : goal.invariant_of-self
invariant_of-self c = (c.insert_node.ensures.ready, subst AreFew (sym c.in-Err-insert_node.ensures.err_nodes) c.self.invariant.1)

pub returns-in-Err-insert_node-clause-fault : goal.returns-in-Err-insert_node-clause-fault
returns-in-Err-insert_node-clause-fault c =
    let h : (insert_fault c.args.id c.args.spot.action c.args.spot.target (labels (front c.self.inside.store)) ≡ None) × IsSpot c.self.inside.store c.args.spot.action c.args.spot.target c.in-Ok.place = (let fit : SFits w32 c.args.id = c.ranges.id in simp to_z-of_z at c.in-Ok.ensures) in
    sym h.0 ∙ ap (λ (o : Ordered). insert_fault c.args.id c.args.spot.action c.args.spot.target o.now.attached) c.self.view_is

pub returns-in-Err-insert_node-clause-err : goal.returns-in-Err-insert_node-clause-err
returns-in-Err-insert_node-clause-err c = (λ i. ordered_by (c.in-Err-insert_node.ensures.err_nodes i) (c.in-Err-insert_node.ensures.err_saved i)) ∙ c.self.view_is
