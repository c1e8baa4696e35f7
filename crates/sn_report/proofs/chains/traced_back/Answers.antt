use Rattle.std.proofs.Common.{◌≡◌, ◌≤◌, ◌∙◌, ◌++◌, ℕ, List, Some, ap, arith, reverse, subst, sym, append-nil}
use Rattle.sn_round.specs.Jobs.{predecessors}
use Rattle.sn_report.specs.Tracing.{Comes, ceiling, first_greatest}
use Rattle.sn_report.proofs.Traced.{before_below, found_below, traced_on, traced_whole}
use Rattle.sn_report.proofs.chains.traced_back.Goals as goal

pub loop-job-init : goal.loop-job-init
loop-job-init c = record {
  within = c.requires;
  on = λ front comes. subst (Comes c.args.plan.now c.args.levels.now c.args.jobs.now) (sym (append-nil front) ∙ ap (λ (l : List ℕ). front ++ reverse l) (sym c.new-chain.ensures.items)) comes;
}

pub loop-job-preserved : goal.loop-job-preserved
loop-job-preserved c =
    let jobs = c.args.plan.now in
    let e : first_greatest c.args.levels.now c.loop-job.rest.now ≡ Some c.in-Some.job = sym c.in-Some.ensures in
    let j = c.in-Some.job in
    let low = found_below c.args.levels.now c.loop-job.rest.now j e in
    let rest = c.as_slice-rest.ensures ∙ c.predecessors.ensures in
    record {
      within = let few : ceiling (predecessors jobs j) ≤ j = before_below jobs j c.is_well_formed.ensures in
          let same = ap ceiling rest in
          omega (arith, few, same, low, c.loop-job.invariant.within);
      on = λ front comes.
          subst (λ (l : List ℕ). Comes jobs c.args.levels.now c.args.jobs.now (front ++ reverse l)) (sym c.in_ok-push.ensures.items)
          (traced_on jobs c.args.levels.now c.args.jobs.now c.loop-job.rest.now c.loop-job.chain.items j e c.loop-job.invariant.on front (subst (λ (l : List ℕ). Comes jobs c.args.levels.now l front) rest comes));
    }

pub loop-job-smaller : goal.loop-job-smaller
loop-job-smaller c =
    let jobs = c.args.plan.now in
    let j = c.in-Some.job in
    let low = found_below c.args.levels.now c.loop-job.rest.now j (sym c.in-Some.ensures) in
    let few : ceiling (predecessors jobs j) ≤ j = before_below jobs j c.is_well_formed.ensures in
    let same = ap ceiling (c.as_slice-rest.ensures ∙ c.predecessors.ensures) in
    omega (arith, few, same, low)

pub predecessors-requires : goal.predecessors-requires
predecessors-requires c =
    let low = found_below c.args.levels.now c.loop-job.rest.now c.in-Some.job (sym c.in-Some.ensures) in
    omega (arith, low, c.loop-job.invariant.within)

pub returns : goal.returns
returns c = traced_whole c.args.plan.now c.args.levels.now c.args.jobs.now c.loop-job.rest.now c.loop-job.chain.items (sym c.in_default.ensures) c.loop-job.invariant.on
