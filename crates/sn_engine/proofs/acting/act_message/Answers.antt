use Rattle.std.proofs.Common.{rules, ◌≡◌, ◌<◌, ◌-◌, sym, ap, ◌∙◌}
use Rattle.sn_osc.specs.Shape.{message_of}
use Rattle.sn_world.specs.World.{turn_of}
use Rattle.sn_world.specs.Answers.{next_told}
use Rattle.sn_engine.specs.Boundary.{Acted, act_message, asked_by}
use Rattle.sn_engine.proofs.CompletionLemmas.{one_completed, all_done, none_carried}
use Rattle.sn_engine.proofs.acting.act_message.Goals as goal

pub loop-preserved : goal.loop-preserved
loop-preserved g c =
    let i = c.loop.invariant in
    let e = c.in_ok-handled-2.ensures in
    let before : Acted = record { turn = turn_of c.loop.stage (g.P.Port.words c.loop.port) c.loop.replies; next = next_told c.loop.handled } in
    let after : Acted = record { turn = turn_of c.complete.new.stage (g.P.Port.words c.complete.new.port) c.complete.new.replies; next = next_told c.in_ok-handled-2.handled } in
    let whole = act_message c.args.from (message_of c.args.message.now) (turn_of c.args.stage.now (g.P.Port.words c.args.port.now) c.args.replies.now) in
    let more : c.loop.counter < 8 = search rules in
    record {
      acts = one_completed c.loop.counter c.args.from before after whole more (λ k. record { turn = e.acts k; next = sym e.next k }) i.acts;
      answerable = e.answerable;
      pictures = e.pictures;
      region = e.region ∙ i.region;
      len = e.len ∙ i.len;
      foot = e.port.0 ∙ i.foot;
      rest = e.port.1 ∙ i.rest;
    }

pub returns-clause-acts : goal.returns-clause-acts
returns-clause-acts g c =
    let last : c.loop.counter ≡ 8 = search rules in
    ap (λ (a : Acted). a.turn) (all_done c.loop.counter c.args.from (record { turn = turn_of c.loop.stage (g.P.Port.words c.loop.port) c.loop.replies; next = next_told c.loop.handled })
    (act_message c.args.from (message_of c.args.message.now) (turn_of c.args.stage.now (g.P.Port.words c.args.port.now) c.args.replies.now)) last c.loop.invariant.acts)

pub returns-clause-asked : goal.returns-clause-asked
returns-clause-asked g c =
    let last : c.loop.counter ≡ 8 = search rules in
    c.asked_by-2.ensures ∙ ap (λ (a : Acted). asked_by a.next) (all_done c.loop.counter c.args.from (record { turn = turn_of c.loop.stage (g.P.Port.words c.loop.port) c.loop.replies; next = next_told c.loop.handled })
    (act_message c.args.from (message_of c.args.message.now) (turn_of c.args.stage.now (g.P.Port.words c.args.port.now) c.args.replies.now)) last c.loop.invariant.acts)

pub returns-then-not-carries-clause-acts : goal.returns-then-not-carries-clause-acts
returns-then-not-carries-clause-acts g c =
    let last : Acted = record { turn = turn_of c.loop.stage (g.P.Port.words c.loop.port) c.loop.replies; next = next_told c.loop.handled } in
    ap (λ (a : Acted). a.turn) (sym (none_carried (8 - c.loop.counter) c.args.from last (search rules)) ∙ c.loop.invariant.acts)

pub returns-then-not-carries-clause-asked : goal.returns-then-not-carries-clause-asked
returns-then-not-carries-clause-asked g c =
    let last : Acted = record { turn = turn_of c.loop.stage (g.P.Port.words c.loop.port) c.loop.replies; next = next_told c.loop.handled } in
    c.asked_by.ensures ∙ ap (λ (a : Acted). asked_by a.next) (sym (none_carried (8 - c.loop.counter) c.args.from last (search rules)) ∙ c.loop.invariant.acts)
