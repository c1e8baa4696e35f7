use Rattle.std.proofs.Common.{◌≡◌, ◌+◌, ◌∙◌, ℕ, List, ap, arith, length, subst, sym}
use Rattle.sn_report.specs.Costs.{units_in}
use Rattle.sn_report.specs.Certificates.{cost_after}
use Rattle.sn_report.specs.Tracing.{AreLeast}
use Rattle.sn_report.proofs.LevelLemmas.{least_more, least_none}
use Rattle.sn_report.proofs.levels.least_levels.Goals as goal

pub loop-job-init : goal.loop-job-init
loop-job-init c = subst (λ (ls : List ℕ). AreLeast (units_in c.args.stage.now) c.args.plan.now 0 ls) (sym c.new-levels.ensures.items) (least_none (units_in c.args.stage.now) c.args.plan.now)

pub loop-job-preserved : goal.loop-job-preserved
loop-job-preserved c =
    let units = units_in c.args.stage.now in
    let jobs = c.args.plan.now in
    let is = c.in_ok-level.ensures ∙ ap (λ (ls : List ℕ). cost_after units jobs ls c.loop-job.job) c.deref.ensures.value in
    subst (λ (ls : List ℕ). AreLeast units jobs (c.loop-job.job + 1) ls) (sym c.in_ok-push.ensures.items)
    (least_more units jobs c.loop-job.job c.loop-job.levels.items c.in_ok-level.level c.is_well_formed.ensures c.loop-job.invariant is)

pub returns : goal.returns
returns c =
    let all : c.loop-job.job ≡ length c.args.plan.now = omega (arith, c.jobs-job-end.ensures, c.loop-job-test.false, c.loop-job.auto.job-end) in
    subst (λ (n : ℕ). AreLeast (units_in c.args.stage.now) c.args.plan.now n c.loop-job.levels.items) all c.loop-job.invariant
