use Rattle.std.proofs.Common.{◌++◌, ◌∙◌, List, ap, sym, append-nil}
use Rattle.sn_mem.proofs.Tables.{table_none}
use Rattle.sn_round.specs.declared.jobs.Job.{Job}
use Rattle.sn_span.specs.Unrolling.{job_in}
use Rattle.sn_span.proofs.Places.{table_behind}
use Rattle.sn_span.proofs.blocks.put_jobs.Goals as goal

pub loop-job-init : goal.loop-job-init
loop-job-init c =
    let old : List Job = c.args.jobs.now.items in
    sym (ap (λ (xs : List Job). old ++ xs) (table_none (job_in c.args.plan.now c.args.block)) ∙ append-nil old)

pub loop-job-preserved : goal.loop-job-preserved
loop-job-preserved c = table_behind (job_in c.args.plan.now c.args.block) c.loop-job.job c.args.jobs.now.items c.loop-job.jobs.items c.push.new.self.items c.in_ok-next.next c.loop-job.invariant c.in_ok-next.ensures c.in_ok-push.ensures.items
