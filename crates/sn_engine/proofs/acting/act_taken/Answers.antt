use Rattle.std.proofs.Common.{map, sym, ap, subst, ◌∙◌}
use Rattle.std.specs.List.{AllByRecursion}
use Rattle.sn_osc.specs.Shape.{message_of}
use Rattle.sn_reply.specs.Sending.{IsAnswerable}
use Rattle.sn_world.specs.World.{turn_of, world_of}
use Rattle.sn_engine.specs.Boundary.{act_messages, both, messages_ask, entries_ask, act_entries, due_at}
use Rattle.sn_engine.proofs.ActingLemmas.{taken, done, taken_kept, both-assoc, both-nothing}
use Rattle.sn_engine.proofs.KeptLemmas.{then_stays}
use Rattle.sn_engine.proofs.acting.act_taken.Goals as goal

pub act_messages-requires-clause-messages : goal.act_messages-requires-clause-messages
act_messages-requires-clause-messages g c =
    let t = taken c.args.now c.loop-entry.queue c.take_due.new.self c.in-Some.entry c.in-Some.ensures.taken c.in-Some.ensures.left in
    subst (λ ms. AllByRecursion IsAnswerable (map message_of ms)) (sym c.as_slice.ensures) (t.answerable c.loop-entry.invariant.waiting)

pub returns-in_err-more-clause-waiting : goal.returns-in_err-more-clause-waiting
returns-in_err-more-clause-waiting g c =
    let t = taken c.args.now c.loop-entry.queue c.take_due.new.self c.in-Some.entry c.in-Some.ensures.taken c.in-Some.ensures.left in
    t.others c.loop-entry.invariant.waiting

pub returns-in_err-more-clause-kept : goal.returns-in_err-more-clause-kept
returns-in_err-more-clause-kept g c = taken_kept c.args.now c.args.queue.now c.loop-entry.queue c.take_due.new.self c.loop-entry.invariant.kept c.in-Some.ensures.left

pub loop-entry-smaller : goal.loop-entry-smaller
loop-entry-smaller g c =
    let t = taken c.args.now c.loop-entry.queue c.take_due.new.self c.in-Some.entry c.in-Some.ensures.taken c.in-Some.ensures.left in
    t.fewer

pub loop-entry-preserved : goal.loop-entry-preserved
loop-entry-preserved g c =
    let i = c.loop-entry.invariant in
    let t = taken c.args.now c.loop-entry.queue c.take_due.new.self c.in-Some.entry c.in-Some.ensures.taken c.in-Some.ensures.left in
    let turn_before = turn_of c.loop-entry.stage (g.P.Port.words c.loop-entry.port) c.loop-entry.replies in
    let from = c.in-Some.entry.from in
    let rest = entries_ask (due_at c.args.now c.take_due.new.self) (turn_of c.act_messages.new.stage (g.P.Port.words c.act_messages.new.port) c.act_messages.new.replies) in
    record {
      asked =
          ap (λ a. both a rest) c.both-asked.ensures
          ∙ both-assoc c.loop-entry.asked c.in_ok-more.more rest
          ∙ ap (both c.loop-entry.asked)
          ((λ k. both ((c.in_ok-more.ensures.asked ∙ ap (λ ms. messages_ask from (map message_of ms) turn_before) c.as_slice.ensures) k)
          (entries_ask (due_at c.args.now c.take_due.new.self) ((c.in_ok-more.ensures.acts ∙ ap (λ ms. act_messages from (map message_of ms) turn_before) c.as_slice.ensures) k)))
          ∙ t.asks turn_before)
          ∙ i.asked;
      acts = ap (act_entries (due_at c.args.now c.take_due.new.self)) (c.in_ok-more.ensures.acts ∙ ap (λ ms. act_messages c.in-Some.entry.from (map message_of ms) (turn_of c.loop-entry.stage (g.P.Port.words c.loop-entry.port) c.loop-entry.replies)) c.as_slice.ensures) ∙ t.acts _ ∙ i.acts;
      layout =
          then_stays c.args.watch.now.stays c.loop-entry.watch.stays c.act_messages.new.watch.stays (world_of c.args.stage.now (g.P.Port.words c.args.port.now)) (world_of c.loop-entry.stage (g.P.Port.words c.loop-entry.port)) (world_of c.act_messages.new.stage (g.P.Port.words c.act_messages.new.port))
          i.layout c.in_ok-more.ensures.layout;
      left = t.left ∙ i.left;
      kept = taken_kept c.args.now c.args.queue.now c.loop-entry.queue c.take_due.new.self i.kept c.in-Some.ensures.left;
      waiting = t.others i.waiting;
      pictures = c.act_messages.ensures.pictures;
      region = c.act_messages.ensures.region ∙ i.region;
      len = c.act_messages.ensures.len ∙ i.len;
      foot = c.act_messages.ensures.port.0 ∙ i.foot;
      rest = c.act_messages.ensures.port.1 ∙ i.rest;
    }

pub returns-clause-acts : goal.returns-clause-acts
returns-clause-acts g c =
    let d = done c.args.now c.loop-entry.queue c.take_due.new.self c.in_default.ensures.taken c.in_default.ensures.left in
    sym (d.acts _) ∙ c.loop-entry.invariant.acts

pub returns-clause-left : goal.returns-clause-left
returns-clause-left g c =
    let d = done c.args.now c.loop-entry.queue c.take_due.new.self c.in_default.ensures.taken c.in_default.ensures.left in
    d.left ∙ c.loop-entry.invariant.left

pub returns-clause-kept : goal.returns-clause-kept
returns-clause-kept g c = taken_kept c.args.now c.args.queue.now c.loop-entry.queue c.take_due.new.self c.loop-entry.invariant.kept c.in_default.ensures.left

pub returns-clause-waiting : goal.returns-clause-waiting
returns-clause-waiting g c =
    let d = done c.args.now c.loop-entry.queue c.take_due.new.self c.in_default.ensures.taken c.in_default.ensures.left in
    d.others c.loop-entry.invariant.waiting

pub returns-clause-asked : goal.returns-clause-asked
returns-clause-asked g c =
    let d = done c.args.now c.loop-entry.queue c.take_due.new.self c.in_default.ensures.taken c.in_default.ensures.left in
    sym (both-nothing c.loop-entry.asked _ (d.asks _)) ∙ c.loop-entry.invariant.asked
