use Rattle.std.proofs.Common.{◌∙◌, ap, refl, sym, List, arith}
use Rattle.sn_mem.specs.declared.extents.Extent.{Extent}
use Rattle.sn_reply.specs.Replies.{ReplyShape}
use Rattle.sn_queue.specs.Waiting.{WaitingList}
use Rattle.sn_world.specs.World.{world_of}
use Rattle.sn_engine.specs.Boundary.{due_at, left_at, entries_ask}
use Rattle.sn_engine.proofs.QuietLemmas as quiet
use Rattle.sn_engine.proofs.Bounded.{a_turn, acted_turn, acted_clashes, acted_replies}
use Rattle.sn_engine.proofs.KeptLemmas.{clashes_stay, planned_stays, told_again}
use Rattle.sn_engine.proofs.PlanLemmas.{none_spanned}
use Rattle.sn_engine.proofs.bounding.act_boundary.Goals as goal

pub returns-then-not-has_due-clause-world : goal.returns-then-not-has_due-clause-world
returns-then-not-has_due-clause-world g c = quiet.same_world c.args.now c.args.queue.now c.has_due.result c.has_due.ensures c.if-not-has_due.true (world_of c.args.stage.now (g.P.Port.words c.args.port.now))

pub returns-then-not-has_due-clause-quit : goal.returns-then-not-has_due-clause-quit
returns-then-not-has_due-clause-quit g c = quiet.goes_on c.args.now c.args.queue.now c.has_due.result c.has_due.ensures c.if-not-has_due.true (world_of c.args.stage.now (g.P.Port.words c.args.port.now))

pub returns-then-not-has_due-clause-left : goal.returns-then-not-has_due-clause-left
returns-then-not-has_due-clause-left g c = quiet.all_wait c.args.now c.args.queue.now c.has_due.result c.has_due.ensures c.if-not-has_due.true (world_of c.args.stage.now (g.P.Port.words c.args.port.now))

pub returns-then-not-has_due-clause-clashes : goal.returns-then-not-has_due-clause-clashes
returns-then-not-has_due-clause-clashes g c = quiet.same_clashes c.args.now c.args.queue.now c.has_due.result c.has_due.ensures c.if-not-has_due.true (world_of c.args.stage.now (g.P.Port.words c.args.port.now)) c.args.held.now (c.requires.hold c.if-hold.true (g.P.Port.words c.args.port.now))

pub returns-then-not-has_due-clause-hold : goal.returns-then-not-has_due-clause-hold
returns-then-not-has_due-clause-hold g c = λ _. c.requires.hold c.if-hold.true

pub returns-then-not-has_due-clause-replies : goal.returns-then-not-has_due-clause-replies
returns-then-not-has_due-clause-replies g c = quiet.nothing_said c.args.now c.args.queue.now c.has_due.result c.has_due.ensures c.if-not-has_due.true (world_of c.args.stage.now (g.P.Port.words c.args.port.now)) c.args.held.now (c.requires.hold c.if-hold.true (g.P.Port.words c.args.port.now)) c.args.said.now c.requires.silent

pub returns-then-not-has_due-clause-planned : goal.returns-then-not-has_due-clause-planned
returns-then-not-has_due-clause-planned g c = c.requires.planned c.if-hold.true

pub returns-then-not-has_due-clause-spanned : goal.returns-then-not-has_due-clause-spanned
returns-then-not-has_due-clause-spanned g c = λ outputs copies still. still c.if-hold.true

pub returns-clause-spanned : goal.returns-clause-spanned
returns-clause-spanned g c = λ outputs copies still. none_spanned _ outputs copies _ c.in_ok-planned.ensures.none

pub of-requires-clause-stands : goal.of-requires-clause-stands
of-requires-clause-stands g c = record { words = g.P.Port.words c.act_below.new.port; pictures = c.act_below.ensures.pictures }

pub of-requires-clause-clashes : goal.of-requires-clause-clashes
of-requires-clause-clashes g c = c.in_ok-take_clashes.ensures.held

pub of-requires-clause-copies : goal.of-requires-clause-copies
of-requires-clause-copies g c = omega (arith, c.requires.copies, ap (λ (e : Extent). e.len) c.act_below.ensures.region)

pub of-requires-clause-lanes : goal.of-requires-clause-lanes
of-requires-clause-lanes g c = c.requires.lanes

pub returns-then-not-has_due-clause-others : goal.returns-then-not-has_due-clause-others
returns-then-not-has_due-clause-others g c = λ k low from. refl

pub returns-clause-world : goal.returns-clause-world
returns-clause-world g c =
    ap (λ t. t.world) (acted_turn c.args.now c.args.queue.now (world_of c.args.stage.now (g.P.Port.words c.args.port.now)) (world_of c.act_below.new.stage (g.P.Port.words c.act_below.new.port)) c.args.said.now c.act_below.new.replies c.requires.silent c.in_ok-quits.ensures.acts)

pub returns-clause-quit : goal.returns-clause-quit
returns-clause-quit g c =
    c.in_ok-quits.ensures.quit ∙ ap (λ (rs : List ReplyShape). (entries_ask (due_at c.args.now c.args.queue.now) (a_turn (world_of c.args.stage.now (g.P.Port.words c.args.port.now)) rs)).quit) c.requires.silent

pub returns-clause-left : goal.returns-clause-left
returns-clause-left g c =
    c.in_ok-quits.ensures.left ∙ ap (λ (rs : List ReplyShape). let q : WaitingList = record c.args.queue.now { waiting = left_at c.args.now c.args.queue.now (a_turn (world_of c.args.stage.now (g.P.Port.words c.args.port.now)) rs) } in q) c.requires.silent

pub returns-clause-clashes : goal.returns-clause-clashes
returns-clause-clashes g c =
    acted_clashes c.args.now c.args.queue.now (world_of c.args.stage.now (g.P.Port.words c.args.port.now)) (world_of c.act_below.new.stage (g.P.Port.words c.act_below.new.port)) c.act_below.new.replies c.take_clashes.new.held
    (acted_turn c.args.now c.args.queue.now _ _ c.args.said.now c.act_below.new.replies c.requires.silent c.in_ok-quits.ensures.acts)
    (c.in_ok-take_clashes.ensures.held (g.P.Port.words c.act_below.new.port))

pub returns-clause-replies : goal.returns-clause-replies
returns-clause-replies g c =
    acted_replies c.args.now c.args.queue.now (world_of c.args.stage.now (g.P.Port.words c.args.port.now)) (world_of c.act_below.new.stage (g.P.Port.words c.act_below.new.port)) c.act_below.new.replies c.take_clashes.new.said c.args.held.now
    (acted_turn c.args.now c.args.queue.now _ _ c.args.said.now c.act_below.new.replies c.requires.silent c.in_ok-quits.ensures.acts)
    (c.in_ok-take_clashes.ensures.told (g.P.Port.words c.act_below.new.port))

pub returns-then-stays-clause-world : goal.returns-then-stays-clause-world
returns-then-stays-clause-world g c =
    ap (λ t. t.world) (acted_turn c.args.now c.args.queue.now (world_of c.args.stage.now (g.P.Port.words c.args.port.now)) (world_of c.act_below.new.stage (g.P.Port.words c.act_below.new.port)) c.args.said.now c.act_below.new.replies c.requires.silent c.in_ok-quits.ensures.acts)

pub returns-then-stays-clause-quit : goal.returns-then-stays-clause-quit
returns-then-stays-clause-quit g c =
    c.in_ok-quits.ensures.quit ∙ ap (λ (rs : List ReplyShape). (entries_ask (due_at c.args.now c.args.queue.now) (a_turn (world_of c.args.stage.now (g.P.Port.words c.args.port.now)) rs)).quit) c.requires.silent

pub returns-then-stays-clause-left : goal.returns-then-stays-clause-left
returns-then-stays-clause-left g c =
    c.in_ok-quits.ensures.left ∙ ap (λ (rs : List ReplyShape). let q : WaitingList = record c.args.queue.now { waiting = left_at c.args.now c.args.queue.now (a_turn (world_of c.args.stage.now (g.P.Port.words c.args.port.now)) rs) } in q) c.requires.silent

pub returns-then-stays-clause-clashes : goal.returns-then-stays-clause-clashes
returns-then-stays-clause-clashes g c =
    let kept = c.in_ok-quits.ensures.layout c.if-stays.true in
    let clashes = clashes_stay c.args.stage.now c.act_below.new.stage (g.P.Port.words c.args.port.now) (g.P.Port.words c.act_below.new.port) kept.1 c.args.held.now (c.requires.hold (sym c.new-watch.ensures ∙ kept.0)) in
    acted_clashes c.args.now c.args.queue.now (world_of c.args.stage.now (g.P.Port.words c.args.port.now)) (world_of c.act_below.new.stage (g.P.Port.words c.act_below.new.port)) c.act_below.new.replies c.args.held.now
    (acted_turn c.args.now c.args.queue.now _ _ c.args.said.now c.act_below.new.replies c.requires.silent c.in_ok-quits.ensures.acts)
    (clashes (g.P.Port.words c.act_below.new.port))

pub returns-then-stays-clause-hold : goal.returns-then-stays-clause-hold
returns-then-stays-clause-hold g c =
    let kept = c.in_ok-quits.ensures.layout c.if-stays.true in
    λ _. clashes_stay c.args.stage.now c.act_below.new.stage (g.P.Port.words c.args.port.now) (g.P.Port.words c.act_below.new.port) kept.1 c.args.held.now (c.requires.hold (sym c.new-watch.ensures ∙ kept.0))

pub returns-then-stays-clause-planned : goal.returns-then-stays-clause-planned
returns-then-stays-clause-planned g c =
    let kept = c.in_ok-quits.ensures.layout c.if-stays.true in
    planned_stays c.args.stage.now c.act_below.new.stage (g.P.Port.words c.args.port.now) (g.P.Port.words c.act_below.new.port) kept.1 c.args.workers c.args.planned.now.jobs c.args.planned.now.quiet c.args.planned.now.eventful c.act_below.ensures.region (c.requires.planned (sym c.new-watch.ensures ∙ kept.0))

pub returns-then-stays-clause-spanned : goal.returns-then-stays-clause-spanned
returns-then-stays-clause-spanned g c = λ outputs copies still. still (sym c.new-watch.ensures ∙ (c.in_ok-quits.ensures.layout c.if-stays.true).0)

pub returns-then-stays-clause-replies : goal.returns-then-stays-clause-replies
returns-then-stays-clause-replies g c =
    let kept = c.in_ok-quits.ensures.layout c.if-stays.true in
    let clashes = clashes_stay c.args.stage.now c.act_below.new.stage (g.P.Port.words c.args.port.now) (g.P.Port.words c.act_below.new.port) kept.1 c.args.held.now (c.requires.hold (sym c.new-watch.ensures ∙ kept.0)) in
    acted_replies c.args.now c.args.queue.now (world_of c.args.stage.now (g.P.Port.words c.args.port.now)) (world_of c.act_below.new.stage (g.P.Port.words c.act_below.new.port)) c.act_below.new.replies c.act_below.new.replies c.args.held.now
    (acted_turn c.args.now c.args.queue.now _ _ c.args.said.now c.act_below.new.replies c.requires.silent c.in_ok-quits.ensures.acts)
    (told_again c.act_below.new.replies c.args.held.now (world_of c.act_below.new.stage (g.P.Port.words c.act_below.new.port)) (clashes (g.P.Port.words c.act_below.new.port)))
