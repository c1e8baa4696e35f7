use Rattle.std.proofs.Common.{◌≡◌, List, sym, subst}
use Rattle.std.proofs.lemmas.Result.{IfOk-weaker}
use Rattle.sn_round.specs.declared.jobs.Job.{Job}
use Rattle.sn_round.specs.Jobs.{IsRaceFree}
use Rattle.sn_span.specs.Rounds.{EndsAsRounds}
use Rattle.sn_span.specs.Unrolling.{unrolled}
use Rattle.sn_span.proofs.Orders.{race_free}
use Rattle.sn_span.proofs.Spanning.{ends_as_rounds}
use Rattle.sn_span.proofs.blocks.unroll.Goals as goal

pub returns : goal.returns
returns c =
    let jobs : List Job = c.args.plan.now in
    let all : List Job = unrolled jobs c.args.outputs.now c.args.copies.at c.args.blocks in
    record {
      plan = c.jobs_of_blocks.ensures;
      race_free = λ free. IfOk-weaker c.jobs_of_blocks.result (λ (a : List Job). a ≡ all) (λ (a : List Job). IsRaceFree a)
          (λ a is. subst (λ (x : List Job). IsRaceFree x) (sym is) (race_free jobs c.args.outputs.now c.args.copies.at c.args.blocks c.is_well_formed.ensures free))
          c.jobs_of_blocks.ensures;
      rounds = λ b f base has keep. IfOk-weaker c.jobs_of_blocks.result (λ (a : List Job). a ≡ all) (λ (a : List Job). EndsAsRounds jobs c.args.outputs.now c.args.copies.at c.args.blocks b f base a)
          (λ a is. subst (λ (x : List Job). EndsAsRounds jobs c.args.outputs.now c.args.copies.at c.args.blocks b f base x) (sym is) (ends_as_rounds jobs c.args.outputs.now c.args.copies c.args.blocks b f base has keep))
          c.jobs_of_blocks.ensures;
    }
