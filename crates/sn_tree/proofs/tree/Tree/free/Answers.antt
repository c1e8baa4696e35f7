use Rattle.std.proofs.Common.{◌∙◌}
use Rattle.sn_tree.proofs.Journaling.{closed, free_payload, not_detached_root}
use Rattle.sn_tree.proofs.OrderedLaws.{free_stands, now_is, none_freed}
use Rattle.sn_tree.proofs.tree.Tree.free.Goals as goal

pub free-requires : goal.free-requires
free-requires g c = record { closed = closed c.self.inside.root c.self.inside.payloads.slots c.self.inside.order.now c.self.inside.order.saved c.args.self.now c.self.view_is c.requires.closed }

pub invariant_of-self : goal.invariant_of-self
invariant_of-self g c = (none_freed c.self.inside.root c.self.inside.payloads.slots c.self.inside.order c.free.new.self c.args.self.now (record { kept = c.self.invariant; shows = c.self.view_is }) c.requires.closed c.in-None.ensures.value c.in-None.ensures.rest).kept

pub returns-in-None-clause-rest : goal.returns-in-None-clause-rest
returns-in-None-clause-rest g c = (none_freed c.self.inside.root c.self.inside.payloads.slots c.self.inside.order c.free.new.self c.args.self.now (record { kept = c.self.invariant; shows = c.self.view_is }) c.requires.closed c.in-None.ensures.value c.in-None.ensures.rest).shows

pub invariant_of-self-in-Some-None : goal.invariant_of-self-in-Some-None
invariant_of-self-in-Some-None g c = let e = rw c.in-Some-None.field-0-is at c.in-Some-None.ensures.value in absurd (not_detached_root c.self.inside.payloads.slots c.self.inside.order.now c.self.inside.order.saved c.self.invariant e)

pub returns-in-Some-None-clause-value : goal.returns-in-Some-None-clause-value
returns-in-Some-None-clause-value g c = let e = rw c.in-Some-None.field-0-is at c.in-Some-None.ensures.value in absurd (not_detached_root c.self.inside.payloads.slots c.self.inside.order.now c.self.inside.order.saved c.self.invariant e)

pub returns-in-Some-None-clause-rest : goal.returns-in-Some-None-clause-rest
returns-in-Some-None-clause-rest g c = let e = rw c.in-Some-None.field-0-is at c.in-Some-None.ensures.value in absurd (not_detached_root c.self.inside.payloads.slots c.self.inside.order.now c.self.inside.order.saved c.self.invariant e)

pub invariant_of-self-in-Some-Some : goal.invariant_of-self-in-Some-Some
invariant_of-self-in-Some-Some g c =
    let e = rw c.in-Some-Some.field-0-is at c.in-Some-Some.ensures.value in
    (free_stands c.self.inside.root c.self.inside.payloads c.try_remove.new.self c.self.inside.order c.free.new.self c.args.self.now c.in-Some-Some.key (record { kept = c.self.invariant; shows = c.self.view_is }) c.requires.closed e c.in-Some-Some.ensures.rest c.try_remove.ensures.updates).kept

pub returns-in-Some-Some-clause-value : goal.returns-in-Some-Some-clause-value
returns-in-Some-Some-clause-value g c =
    let e = rw c.in-Some-Some.field-0-is at c.in-Some-Some.ensures.value in
    c.try_remove.ensures.value
    ∙ free_payload c.self.inside.root c.self.inside.payloads c.try_remove.new.self c.self.inside.order.now c.free.new.self.now c.self.inside.order.saved c.args.self.now c.in-Some-Some.key c.self.invariant c.self.view_is c.requires.closed e (now_is c.self.inside.root c.self.inside.payloads c.try_remove.new.self c.self.inside.order c.free.new.self c.args.self.now c.in-Some-Some.key (record { kept = c.self.invariant; shows = c.self.view_is }) c.requires.closed e c.in-Some-Some.ensures.rest c.try_remove.ensures.updates) c.try_remove.ensures.updates

pub returns-in-Some-Some-clause-rest : goal.returns-in-Some-Some-clause-rest
returns-in-Some-Some-clause-rest g c =
    let e = rw c.in-Some-Some.field-0-is at c.in-Some-Some.ensures.value in
    (free_stands c.self.inside.root c.self.inside.payloads c.try_remove.new.self c.self.inside.order c.free.new.self c.args.self.now c.in-Some-Some.key (record { kept = c.self.invariant; shows = c.self.view_is }) c.requires.closed e c.in-Some-Some.ensures.rest c.try_remove.ensures.updates).shows
