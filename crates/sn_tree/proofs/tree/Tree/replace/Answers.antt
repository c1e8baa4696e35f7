use Rattle.std.proofs.Common.{◌∙◌, ap, refl, sym, w32}
use mir.Val.{SFits}
use Rattle.std.proofs.lemmas.Int.{to_z-of_z}
use Rattle.sn_tree.specs.declared.node.AddAction.TheVariants.{Before}
use Rattle.sn_tree.specs.Saving.{noted}
use Rattle.sn_tree.specs.Ordered.{Ordered}
use Rattle.sn_tree.proofs.Showing.{replace_fault_shown}
use Rattle.sn_tree.proofs.Following.{same_slots, spare}
use Rattle.sn_tree.proofs.Replacing.{replace_gives}
use Rattle.sn_tree.proofs.OrderedLaws.{uninserted_is, stays_same}
use Rattle.sn_tree.proofs.tree.Tree.replace.Goals as goal

pub returns-in-Err-clause-fault : goal.returns-in-Err-clause-fault
returns-in-Err-clause-fault g c =
    let fit : SFits w32 c.args.id = c.ranges.id in
    let reach : SFits w32 c.args.target = c.ranges.target in
    let h = simp to_z-of_z at c.refusal_to_replace.ensures in
    uninserted_is c.unreserved.result ∙ (c.unreserved.ensures.fault ∙ (h ∙ replace_fault_shown c.self.inside.root c.self.inside.payloads.slots c.self.inside.order.now c.self.inside.order.saved c.args.self.now c.self.view_is c.args.id c.args.target))

pub returns-in-Err-clause-refused : goal.returns-in-Err-clause-refused
returns-in-Err-clause-refused g c =
    (stays_same c.self.inside.root c.self.inside.payloads.slots c.self.inside.order c.self.inside.order c.reserve.new.self.slots c.args.self.now (record { kept = c.self.invariant; shows = c.self.view_is }) (same_slots c.self.inside.payloads c.reserve.new.self c.in-Err.ensures.rest_kept) refl).shows

pub replace-requires : goal.replace-requires
replace-requires g c = record { room = spare c.self.inside.root c.self.inside.payloads.slots c.self.inside.order.now c.self.inside.order.saved c.args.self.now c.self.view_is c.requires.room }

pub invariant_of-self-in-Ok-replace : goal.invariant_of-self-in-Ok-replace
invariant_of-self-in-Ok-replace g c =
    let fit : SFits w32 c.args.id = c.ranges.id in
    let reach : SFits w32 c.args.target = c.ranges.target in
    let ok = simp to_z-of_z at c.in-Ok-replace.ensures.ok in
    let free = simp to_z-of_z at c.in-Ok-replace.ensures.fault in
    (replace_gives c.self.inside.root c.self.inside.payloads c.reserve.new.self c.insert_reserved.new.self c.self.inside.order.now c.replace.new.self.now c.self.inside.order.saved (noted c.vacant_key-key.result c.self.inside.order.saved) c.replace.new.self.saved c.args.self.now c.args.id c.args.kind (record { action = Before; target = c.args.target }) c.args.target c.args.payload c.vacant_key-key.result c.insert_reserved.result
    c.self.invariant c.self.view_is c.in-Ok.ensures.rest_kept c.vacant_key-key.ensures.value c.insert_reserved.ensures.key c.insert_reserved.ensures.was_vacant c.insert_reserved.ensures.updates
    refl (ap (λ (o : Ordered). o.now) ok) refl (ap (λ (o : Ordered). o.saved) ok) (sym free)).0

pub returns-in-Ok-replace-clause-fault : goal.returns-in-Ok-replace-clause-fault
returns-in-Ok-replace-clause-fault g c =
    let fit : SFits w32 c.args.id = c.ranges.id in
    let reach : SFits w32 c.args.target = c.ranges.target in
    let h = simp to_z-of_z at c.in-Ok-replace.ensures.fault in
    h ∙ replace_fault_shown c.self.inside.root c.self.inside.payloads.slots c.self.inside.order.now c.self.inside.order.saved c.args.self.now c.self.view_is c.args.id c.args.target

pub returns-in-Ok-replace-clause-ok : goal.returns-in-Ok-replace-clause-ok
returns-in-Ok-replace-clause-ok g c =
    let fit : SFits w32 c.args.id = c.ranges.id in
    let reach : SFits w32 c.args.target = c.ranges.target in
    let ok = simp to_z-of_z at c.in-Ok-replace.ensures.ok in
    let free = simp to_z-of_z at c.in-Ok-replace.ensures.fault in
    (replace_gives c.self.inside.root c.self.inside.payloads c.reserve.new.self c.insert_reserved.new.self c.self.inside.order.now c.replace.new.self.now c.self.inside.order.saved (noted c.vacant_key-key.result c.self.inside.order.saved) c.replace.new.self.saved c.args.self.now c.args.id c.args.kind (record { action = Before; target = c.args.target }) c.args.target c.args.payload c.vacant_key-key.result c.insert_reserved.result
    c.self.invariant c.self.view_is c.in-Ok.ensures.rest_kept c.vacant_key-key.ensures.value c.insert_reserved.ensures.key c.insert_reserved.ensures.was_vacant c.insert_reserved.ensures.updates
    refl (ap (λ (o : Ordered). o.now) ok) refl (ap (λ (o : Ordered). o.saved) ok) (sym free)).1

pub invariant_of-self-in-Err-replace : goal.invariant_of-self-in-Err-replace
invariant_of-self-in-Err-replace g c =
    (stays_same c.self.inside.root c.self.inside.payloads.slots c.self.inside.order c.replace.new.self c.reserve.new.self.slots c.args.self.now (record { kept = c.self.invariant; shows = c.self.view_is }) (same_slots c.self.inside.payloads c.reserve.new.self c.in-Ok.ensures.rest_kept) c.in-Err-replace.ensures.err).kept

pub returns-in-Err-replace-clause-fault : goal.returns-in-Err-replace-clause-fault
returns-in-Err-replace-clause-fault g c =
    let fit : SFits w32 c.args.id = c.ranges.id in
    let reach : SFits w32 c.args.target = c.ranges.target in
    let h = simp to_z-of_z at c.in-Err-replace.ensures.fault in
    uninserted_is c.uninserted.result ∙ (c.uninserted.ensures.fault ∙ (h ∙ replace_fault_shown c.self.inside.root c.self.inside.payloads.slots c.self.inside.order.now c.self.inside.order.saved c.args.self.now c.self.view_is c.args.id c.args.target))

pub returns-in-Err-replace-clause-refused : goal.returns-in-Err-replace-clause-refused
returns-in-Err-replace-clause-refused g c =
    (stays_same c.self.inside.root c.self.inside.payloads.slots c.self.inside.order c.replace.new.self c.reserve.new.self.slots c.args.self.now (record { kept = c.self.invariant; shows = c.self.view_is }) (same_slots c.self.inside.payloads c.reserve.new.self c.in-Ok.ensures.rest_kept) c.in-Err-replace.ensures.err).shows
