use Rattle.std.proofs.Common.{◌≡◌, ◌∙◌, ◌<◌, ℕ, Bool, arith, ap, length, sym, true}
use Rattle.std.specs.Prelude.{nat_le}
use Rattle.std.specs.List.{list_all}
use Rattle.sn_report.specs.Costs.{units_in}
use Rattle.sn_report.specs.Certificates.{below, cost_after, level_at}
use Rattle.sn_report.proofs.Certified.{all_fails, all_more}
use Rattle.sn_report.proofs.checking.have_levels.Goals as goal

pub loop-job-preserved : goal.loop-job-preserved
loop-job-preserved c =
    let test : ℕ → Bool = λ j. nat_le (cost_after (units_in c.args.stage.now) c.args.plan.now c.args.levels.now j) (level_at c.args.levels.now j) in
    all_more test c.loop-job.job c.loop-job.invariant (sym c.is_level.ensures ∙ c.if-not-is_level.false)

pub returns-then-not-is_level : goal.returns-then-not-is_level
returns-then-not-is_level c =
    let test : ℕ → Bool = λ j. nat_le (cost_after (units_in c.args.stage.now) c.args.plan.now c.args.levels.now j) (level_at c.args.levels.now j) in
    let within : c.loop-job.job < length c.args.plan.now = omega (arith, c.jobs-job-end.ensures, c.loop-job-test.true) in
    sym (all_fails test (length c.args.plan.now) c.loop-job.job within (sym c.is_level.ensures ∙ c.if-not-is_level.true))

pub returns : goal.returns
returns c =
    let test : ℕ → Bool = λ j. nat_le (cost_after (units_in c.args.stage.now) c.args.plan.now c.args.levels.now j) (level_at c.args.levels.now j) in
    let all : c.loop-job.job ≡ length c.args.plan.now = omega (arith, c.jobs-job-end.ensures, c.loop-job-test.false, c.loop-job.auto.job-end) in
    sym c.loop-job.invariant ∙ ap (λ (n : ℕ). list_all test (below n)) all
