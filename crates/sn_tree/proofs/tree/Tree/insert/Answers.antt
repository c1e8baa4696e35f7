use Rattle.std.proofs.Common.{◌∙◌, ap, refl, sym, w32}
use mir.Val.{SFits}
use Rattle.std.proofs.lemmas.Int.{to_z-of_z}
use Rattle.sn_tree.specs.Ordered.{Ordered}
use Rattle.sn_tree.proofs.Showing.{insert_fault_shown}
use Rattle.sn_tree.proofs.Following.{insert_gives, insert_beside, insert_free, insert_there, same_slots}
use Rattle.sn_tree.proofs.OrderedLaws.{uninserted_is, stays_same}
use Rattle.sn_tree.proofs.tree.Tree.insert.Goals as goal

pub returns-in-Err-clause-fault : goal.returns-in-Err-clause-fault
returns-in-Err-clause-fault g c =
    let fit : SFits w32 c.args.id = c.ranges.id in
    let h = simp to_z-of_z at c.refusal.ensures in
    uninserted_is c.unreserved.result ∙ (c.unreserved.ensures.fault ∙ (h ∙ insert_fault_shown c.self.inside.root c.self.inside.payloads.slots c.self.inside.order.now c.self.inside.order.saved c.args.self.now c.self.view_is c.args.id c.args.spot.action c.args.spot.target))

pub returns-in-Err-clause-refused : goal.returns-in-Err-clause-refused
returns-in-Err-clause-refused g c =
    (stays_same c.self.inside.root c.self.inside.payloads.slots c.self.inside.order c.self.inside.order c.reserve.new.self.slots c.args.self.now (record { kept = c.self.invariant; shows = c.self.view_is }) (same_slots c.self.inside.payloads c.reserve.new.self c.in-Err.ensures.rest_kept) refl).shows

pub invariant_of-self-in-Ok-insert : goal.invariant_of-self-in-Ok-insert
invariant_of-self-in-Ok-insert g c =
    let fit : SFits w32 c.args.id = c.ranges.id in
    let ok = simp to_z-of_z at c.in-Ok-insert.ensures.ok in
    let free = simp to_z-of_z at c.in-Ok-insert.ensures.fault in
    (insert_gives c.self.inside.root c.self.inside.payloads c.reserve.new.self c.insert_reserved.new.self c.self.inside.order.now c.insert.new.self.now c.self.inside.order.saved c.insert.new.self.saved c.args.self.now c.args.id c.args.kind c.args.spot c.args.spot c.args.payload c.vacant_key-key.result c.insert_reserved.result
    c.self.invariant c.self.view_is c.in-Ok.ensures.rest_kept c.vacant_key-key.ensures.value c.insert_reserved.ensures.key c.insert_reserved.ensures.was_vacant c.insert_reserved.ensures.updates
    refl (ap (λ (o : Ordered). o.now) ok) (ap (λ (o : Ordered). o.saved) ok)
    (insert_beside c.args.id c.args.spot.action c.args.spot.target c.self.inside.order.now.attached (sym free)) (insert_free c.args.id c.args.spot.action c.args.spot.target c.self.inside.order.now.attached (sym free)) (insert_there c.args.id c.args.spot.action c.args.spot.target c.self.inside.order.now.attached (sym free))).0

pub returns-in-Ok-insert-clause-fault : goal.returns-in-Ok-insert-clause-fault
returns-in-Ok-insert-clause-fault g c =
    let fit : SFits w32 c.args.id = c.ranges.id in
    let h = simp to_z-of_z at c.in-Ok-insert.ensures.fault in
    h ∙ insert_fault_shown c.self.inside.root c.self.inside.payloads.slots c.self.inside.order.now c.self.inside.order.saved c.args.self.now c.self.view_is c.args.id c.args.spot.action c.args.spot.target

pub returns-in-Ok-insert-clause-ok : goal.returns-in-Ok-insert-clause-ok
returns-in-Ok-insert-clause-ok g c =
    let fit : SFits w32 c.args.id = c.ranges.id in
    let ok = simp to_z-of_z at c.in-Ok-insert.ensures.ok in
    let free = simp to_z-of_z at c.in-Ok-insert.ensures.fault in
    (insert_gives c.self.inside.root c.self.inside.payloads c.reserve.new.self c.insert_reserved.new.self c.self.inside.order.now c.insert.new.self.now c.self.inside.order.saved c.insert.new.self.saved c.args.self.now c.args.id c.args.kind c.args.spot c.args.spot c.args.payload c.vacant_key-key.result c.insert_reserved.result
    c.self.invariant c.self.view_is c.in-Ok.ensures.rest_kept c.vacant_key-key.ensures.value c.insert_reserved.ensures.key c.insert_reserved.ensures.was_vacant c.insert_reserved.ensures.updates
    refl (ap (λ (o : Ordered). o.now) ok) (ap (λ (o : Ordered). o.saved) ok)
    (insert_beside c.args.id c.args.spot.action c.args.spot.target c.self.inside.order.now.attached (sym free)) (insert_free c.args.id c.args.spot.action c.args.spot.target c.self.inside.order.now.attached (sym free)) (insert_there c.args.id c.args.spot.action c.args.spot.target c.self.inside.order.now.attached (sym free))).1

pub invariant_of-self-in-Err-insert : goal.invariant_of-self-in-Err-insert
invariant_of-self-in-Err-insert g c =
    (stays_same c.self.inside.root c.self.inside.payloads.slots c.self.inside.order c.insert.new.self c.reserve.new.self.slots c.args.self.now (record { kept = c.self.invariant; shows = c.self.view_is }) (same_slots c.self.inside.payloads c.reserve.new.self c.in-Ok.ensures.rest_kept) c.in-Err-insert.ensures.err).kept

pub returns-in-Err-insert-clause-fault : goal.returns-in-Err-insert-clause-fault
returns-in-Err-insert-clause-fault g c =
    let fit : SFits w32 c.args.id = c.ranges.id in
    let h = simp to_z-of_z at c.in-Err-insert.ensures.fault in
    uninserted_is c.uninserted.result ∙ (c.uninserted.ensures.fault ∙ (h ∙ insert_fault_shown c.self.inside.root c.self.inside.payloads.slots c.self.inside.order.now c.self.inside.order.saved c.args.self.now c.self.view_is c.args.id c.args.spot.action c.args.spot.target))

pub returns-in-Err-insert-clause-refused : goal.returns-in-Err-insert-clause-refused
returns-in-Err-insert-clause-refused g c =
    (stays_same c.self.inside.root c.self.inside.payloads.slots c.self.inside.order c.insert.new.self c.reserve.new.self.slots c.args.self.now (record { kept = c.self.invariant; shows = c.self.view_is }) (same_slots c.self.inside.payloads c.reserve.new.self c.in-Ok.ensures.rest_kept) c.in-Err-insert.ensures.err).shows
