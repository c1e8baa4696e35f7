use Rattle.std.proofs.Common.{◌≡◌, ◌+◌, ◌*◌, ◌<◌, ◌∙◌, ℕ, List, length, ap, sym, subst, arith}
use Rattle.sn_mem.specs.declared.extents.Extent.{Extent}
use Rattle.sn_span.specs.Captures.{CanCapture, captured}
use Rattle.sn_span.specs.Unrolling.{start}
use Rattle.sn_play.specs.declared.span.Span.{Span}
use Rattle.sn_play.specs.Blocks.{IsReady, outcome_of}
use Rattle.sn_play.proofs.Spanned.{block_ready}
use Rattle.sn_play.proofs.SpanRuns.{capture_can, capture_makes, few_jobs, in_block, job_foot, job_makes}
use Rattle.sn_play.proofs.span.SpanWork.run.Goals as goal

-- where the job stands
at_place : (n m j k i : ℕ) → m ≡ n → j ≡ start m k + i → j ≡ start n k + i
at_place n m j k i same place = place ∙ ap (λ x. start x k + i) same

-- if it stands last in its block
at_end : (n m j k i : ℕ) → m ≡ n → j ≡ start m k + i → i ≡ m → j ≡ start n k + n
at_end n m j k i same place last = at_place n m j k i same place ∙ ap (λ x. start n k + x) (last ∙ same)

pub place_of-place-requires : goal.place_of-place-requires
place_of-place-requires g c = omega (arith, c.jobs-jobs.ensures, few_jobs c.args.self.now c.requires.ready c.args.job c.is_well_formed.ensures c.requires.job)

pub overflow_mul-at : goal.overflow_mul-at
overflow_mul-at g c =
    let w : Span = c.args.self.now in
    let p = c.place_of-place in
    let low : p.result.block < w.blocks = in_block w c.requires.ready c.args.job p.result.block p.result.number c.requires.job (at_place (length w.first.plan.now) c.jobs-jobs.result c.args.job p.result.block p.result.number c.jobs-jobs.ensures p.ensures.place) in
    omega (arith, low, c.requires.ready.before, c.requires.ready.bounded)

pub overflow_add-at : goal.overflow_add-at
overflow_add-at g c =
    let w : Span = c.args.self.now in
    let p = c.place_of-place in
    let low : p.result.block < w.blocks = in_block w c.requires.ready c.args.job p.result.block p.result.number c.requires.job (at_place (length w.first.plan.now) c.jobs-jobs.result c.args.job p.result.block p.result.number c.jobs-jobs.ensures p.ensures.place) in
    omega (arith, low, c.requires.ready.before, c.requires.ready.bounded)

pub capture-requires-clause-can : goal.capture-requires-clause-can
capture-requires-clause-can g c =
    let w : Span = c.args.self.now in
    let p = c.place_of-place in
    let e : c.args.job ≡ start (length w.first.plan.now) p.result.block + length w.first.plan.now = at_end (length w.first.plan.now) c.jobs-jobs.result c.args.job p.result.block p.result.number c.jobs-jobs.ensures p.ensures.place c.if-place-jobs.true in
    subst (λ (es : List Extent). CanCapture (g.P.Port.foot c.args.port.now) es (w.copies + 512 * p.result.block)) (sym c.as_slice.ensures)
    (capture_can w c.requires.ready c.root_holds_all.ensures c.ids_are_distinct.ensures c.args.job p.result.block (g.P.Port.foot c.args.port.now) c.requires.job e c.requires.foot)

pub capture-requires-clause-block : goal.capture-requires-clause-block
capture-requires-clause-block g c =
    let w : Span = c.args.self.now in
    let p = c.place_of-place in
    let low : p.result.block < w.blocks = in_block w c.requires.ready c.args.job p.result.block p.result.number c.requires.job (at_place (length w.first.plan.now) c.jobs-jobs.result c.args.job p.result.block p.result.number c.jobs-jobs.ensures p.ensures.place) in
    omega (arith, low, c.requires.ready.early, c.from.ensures)

pub run-requires-clause-ready : goal.run-requires-clause-ready
run-requires-clause-ready g c =
    let w : Span = c.args.self.now in
    let r = c.requires.ready in
    let p = c.place_of-place in
    let low : p.result.block < w.blocks = in_block w r c.args.job p.result.block p.result.number c.requires.job (at_place (length w.first.plan.now) c.jobs-jobs.result c.args.job p.result.block p.result.number c.jobs-jobs.ensures p.ensures.place) in
    subst (λ (n : ℕ). IsReady (record w.first { block = n })) (ap (λ (k : ℕ). w.first.block + k) (sym c.from.ensures)) (block_ready w c.root_holds_all.ensures c.ids_are_distinct.ensures r p.result.block low)

pub run-requires-clause-foot : goal.run-requires-clause-foot
run-requires-clause-foot g c =
    let w : Span = c.args.self.now in
    let p = c.place_of-place in
    job_foot w c.requires.ready c.root_holds_all.ensures c.ids_are_distinct.ensures c.args.job p.result.block p.result.number (g.P.Port.foot c.args.port.now) c.requires.job
    (at_place (length w.first.plan.now) c.jobs-jobs.result c.args.job p.result.block p.result.number c.jobs-jobs.ensures p.ensures.place)
    (omega (arith, p.ensures.number, c.if-place-jobs.false, c.jobs-jobs.ensures))
    c.requires.foot

pub returns-then-place-jobs-clause-words : goal.returns-then-place-jobs-clause-words
returns-then-place-jobs-clause-words g c =
    let w : Span = c.args.self.now in
    let p = c.place_of-place in
    let ws : List ℕ = g.P.Port.words c.args.port.now in
    let e : c.args.job ≡ start (length w.first.plan.now) p.result.block + length w.first.plan.now = at_end (length w.first.plan.now) c.jobs-jobs.result c.args.job p.result.block p.result.number c.jobs-jobs.ensures p.ensures.place c.if-place-jobs.true in
    c.capture.ensures.words
    ∙ (ap (λ (es : List Extent). captured es (w.copies + 512 * p.result.block) (w.first.block + c.from.result) ws) c.as_slice.ensures
    ∙ (ap (λ b. captured w.outputs.now (w.copies + 512 * p.result.block) (w.first.block + b) ws) c.from.ensures
    ∙ capture_makes w c.requires.ready c.root_holds_all.ensures c.ids_are_distinct.ensures c.args.job p.result.block ws c.requires.job e))

pub returns-else-place-jobs-clause-words : goal.returns-else-place-jobs-clause-words
returns-else-place-jobs-clause-words g c =
    let w : Span = c.args.self.now in
    let p = c.place_of-place in
    let ws : List ℕ = g.P.Port.words c.args.port.now in
    c.run.ensures.words
    ∙ (ap (λ b. outcome_of (record w.first { block = w.first.block + b }) p.result.number ws) c.from.ensures
    ∙ job_makes w c.requires.ready c.root_holds_all.ensures c.ids_are_distinct.ensures c.args.job p.result.block p.result.number ws c.requires.job
    (at_place (length w.first.plan.now) c.jobs-jobs.result c.args.job p.result.block p.result.number c.jobs-jobs.ensures p.ensures.place)
    (omega (arith, p.ensures.number, c.if-place-jobs.false, c.jobs-jobs.ensures)))
