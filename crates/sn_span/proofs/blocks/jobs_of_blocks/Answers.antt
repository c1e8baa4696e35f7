use Rattle.std.proofs.Common.{◌≡◌, ◌<◌, ◌^◌, ◌++◌, ◌∙◌, ℕ, List, length, ap, sym, subst, arith}
use Rattle.sn_round.specs.declared.jobs.Job.{Job}
use Rattle.sn_round.specs.Jobs.{AreJobs}
use Rattle.sn_span.specs.Unrolling.{block_of, start}
use Rattle.sn_span.proofs.Places.{unrolled_none, unrolled_more}
use Rattle.sn_span.proofs.Listing.{are_jobs}
use Rattle.sn_span.proofs.blocks.jobs_of_blocks.Goals as goal

pub loop-block-init : goal.loop-block-init
loop-block-init c = c.new-jobs.ensures.items ∙ sym (unrolled_none c.args.plan.now c.args.outputs.now c.args.at)

pub loop-block-preserved : goal.loop-block-preserved
loop-block-preserved c =
    c.in_ok-put_block.ensures
    ∙ (ap (λ (jobs : List Job). jobs ++ block_of c.args.plan.now c.args.outputs.now c.args.at c.loop-block.block) c.loop-block.invariant
    ∙ sym (unrolled_more c.args.plan.now c.args.outputs.now c.args.at c.loop-block.block))

pub new-requires : goal.new-requires
new-requires c =
    let n : ℕ = length c.args.plan.now in
    let same : c.loop-block.block ≡ c.args.blocks = omega (arith, c.loop-block-test.false, c.loop-block.auto.block-end) in
    let few : start n c.loop-block.block < 2 ^ 32 = omega (arith, ap (start n) same, c.requires.jobs) in
    subst (λ (jobs : List Job). AreJobs jobs) (sym c.loop-block.invariant) (are_jobs c.args.plan.now c.args.outputs.now c.args.at c.loop-block.block c.is_well_formed.ensures few)
