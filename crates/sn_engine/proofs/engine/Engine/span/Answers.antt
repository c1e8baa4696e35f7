use Rattle.std.proofs.Common.{◌≤◌, ◌<◌, ◌∙◌, ⊎_elim, ap, arith}
use Rattle.std.proofs.lemmas.Bool.{cases_lt}
use Rattle.sn_engine.specs.Playing.{Playing}
use Rattle.sn_engine.specs.Planning.{IsPlannedFor}
use Rattle.sn_engine.proofs.RowLemmas.{is_most, is_quiet_row, one_is_quiet}
use Rattle.sn_engine.proofs.engine.Engine.span.Goals as goal

pub span-requires : goal.span-requires
span-requires c = (c.self.invariant.7 (c.self.invariant.8 (c.is_bounded.ensures.bounded c.if-not-is_bounded.false))).plan.few

pub returns-clause-quiet : goal.returns-clause-quiet
returns-clause-quiet c =
    let e = c.self.inside in
    let i = c.self.invariant in
    let planned : IsPlannedFor e.settings.workers e.stage e.planned.jobs e.planned.quiet e.planned.eventful = i.7 (i.8 (c.is_bounded.ensures.bounded c.if-not-is_bounded.false)) in
    is_quiet_row _ c.args.self.now e.planned.quiet c.span.result c.self.view_is (planned.quiet_is e.memory.words) c.span.ensures.some c.span.ensures.quiet

pub returns-clause-most : goal.returns-clause-most
returns-clause-most c = λ bounded early n few row.
    let e = c.self.inside in
    let i = c.self.invariant in
    let planned : IsPlannedFor e.settings.workers e.stage e.planned.jobs e.planned.quiet e.planned.eventful = i.7 (i.8 (c.is_bounded.ensures.bounded c.if-not-is_bounded.false)) in
    is_most _ c.args.self.now e.planned.quiet n c.span.result c.self.view_is (planned.quiet_is e.memory.words) c.span.ensures.some row (λ two span. c.span.ensures.most (omega (arith, ap (λ (p : Playing). p.running.block) c.self.view_is, early)) n two few span)

pub returns-then-not-is_bounded-clause-quiet : goal.returns-then-not-is_bounded-clause-quiet
returns-then-not-is_bounded-clause-quiet c = one_is_quiet c.args.self.now

pub returns-then-not-is_bounded-clause-most : goal.returns-then-not-is_bounded-clause-most
returns-then-not-is_bounded-clause-most c = λ bounded. absurd (c.is_bounded.ensures.other c.if-not-is_bounded.true (ap (λ (p : Playing). p.running.standing) c.self.view_is ∙ bounded))

pub returns-clause-want : goal.returns-clause-want
returns-clause-want c = ⊎_elim
    (λ (low : c.span.result < 2). omega (arith, low, c.requires))
    (λ (two : 2 ≤ c.span.result). c.span.ensures.want two)
    (cases_lt c.span.result 2)
