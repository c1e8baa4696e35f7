use Rattle.std.proofs.Common.{rules, ◌≡◌, ◌∙◌, ◌<◌, ◌≤◌, length, arith}
use Rattle.sn_round.specs.Jobs.{predecessors}
use Rattle.sn_machine.specs.Steps.{set_count}
use Rattle.sn_machine.specs.States.{counts_in}
use Rattle.sn_table.specs.Answers.{main_view}
use Rattle.sn_table.proofs.Arming.{arm_none, arm_more, armed_idle, armed_all, armed_counts}
use Rattle.sn_table.proofs.seats.Shared.arm.Goals as goal

pub loop-job-init : goal.loop-job-init
loop-job-init c = record { main = c.requires.main; armed = arm_none (main_view c.args.main.now) c.requires.idle }

pub set-requires-clause-idle : goal.set-requires-clause-idle
set-requires-clause-idle c = armed_idle (main_view c.args.main.now) (main_view c.loop-job.main) _ c.loop-job.invariant.armed

pub loop-job-preserved : goal.loop-job-preserved
loop-job-preserved c =
    let k = c.loop-job.job in
    let jobs = c.args.plan.now in
    let l : k < length jobs = search rules in
    let e : main_view c.set.new.main ≡ set_count (main_view c.loop-job.main) k (length (predecessors jobs k)) = search rules in
    record { main = c.set.ensures.main; armed = e ∙ arm_more (main_view c.args.main.now) (main_view c.loop-job.main) k jobs l c.loop-job.invariant.armed }

pub returns-clause-step : goal.returns-clause-step
returns-clause-step c =
    let l : length c.args.plan.now ≤ c.loop-job.job = search rules in
    armed_all (main_view c.args.main.now) (main_view c.loop-job.main) c.loop-job.job c.args.plan.now l c.loop-job.invariant.armed

pub returns-clause-armed : goal.returns-clause-armed
returns-clause-armed c j m =
    let main = c.args.main.now in
    let l : length c.args.plan.now ≤ c.loop-job.job = search rules in
    let few : length c.args.plan.now ≤ length (counts_in (main_view main).main.phase) = omega (arith, c.requires.few, main.fits.counts, c.requires.main.2) in
    armed_counts (main_view main) (main_view c.loop-job.main) c.args.plan.now (armed_all (main_view main) (main_view c.loop-job.main) c.loop-job.job c.args.plan.now l c.loop-job.invariant.armed) few j m
