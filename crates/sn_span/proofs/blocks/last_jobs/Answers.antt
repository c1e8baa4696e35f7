use Rattle.std.proofs.Common.{◌≡◌, ◌==◌, ◌∙◌, ℕ, List, length, ap, sym}
use Rattle.sn_span.proofs.Lasts.{ends, none_passing, passes_more, fails_more}
use Rattle.sn_span.proofs.blocks.last_jobs.Goals as goal
use Rattle.sn_span.proofs.blocks.last_jobs.Goals.{then-is_empty+in_ok-push, else-is_empty}

pub loop-job-init : goal.loop-job-init
loop-job-init c = c.new-last.ensures ∙ sym (none_passing (ends c.args.plan.now))

pub loop-job-preserved : goal.loop-job-preserved
loop-job-preserved c =
    let test : ends c.args.plan.now c.loop-job.job ≡ c.is_empty.result = ap (λ (xs : List ℕ). length xs == 0) (sym (c.as_slice.ensures ∙ c.successors.ensures)) ∙ sym c.is_empty.ensures in
    elim c.if-is_empty.branch [
      | then-is_empty+in_ok-push w ↦ passes_more (ends c.args.plan.now) c.loop-job.job c.loop-job.last c.if-is_empty.last c.loop-job.invariant (test ∙ w.if-is_empty.true) (w.last-is ∙ w.in_ok-push.ensures.ok)
      | else-is_empty w ↦ w.last-is ∙ fails_more (ends c.args.plan.now) c.loop-job.job c.loop-job.last c.loop-job.invariant (test ∙ w.if-is_empty.false)
    ]
