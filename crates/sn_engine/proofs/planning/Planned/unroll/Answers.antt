use Rattle.std.proofs.Common.{◌≡◌, ◌≤◌, ◌∙◌, List, length, sym, ap, subst, arith}
use Rattle.sn_round.specs.declared.jobs.Job.{Job}
use Rattle.sn_round.specs.Jobs.{IsRaceFree}
use Rattle.sn_engine.proofs.SpanCounts.{less_room}
use Rattle.sn_engine.proofs.planning.Planned.unroll.Goals as goal

pub unroll_once-requires-clause-free : goal.unroll_once-requires-clause-free
unroll_once-requires-clause-free c = subst (λ (js : List Job). IsRaceFree js) (sym c.loop-left.invariant.jobs) c.requires.free

pub unroll_once-requires-clause-few : goal.unroll_once-requires-clause-few
unroll_once-requires-clause-few c =
    let i = c.loop-left.invariant in
    let two : 2 ≤ c.args.blocks = omega (arith, c.loop-left-test.true, i.few) in
    omega (arith, c.requires.few two, i.few, c.greatest_power-power.ensures.most)

pub unroll_once-requires-clause-room : goal.unroll_once-requires-clause-room
unroll_once-requires-clause-room c =
    let i = c.loop-left.invariant in
    let two : 2 ≤ c.args.blocks = omega (arith, c.loop-left-test.true, i.few) in
    let same : length c.args.self.now.jobs ≡ length c.loop-left.self.jobs = ap (λ (js : List Job). length js) (sym i.jobs) in
    less_room (length c.loop-left.self.jobs) (length c.args.self.now.jobs) c.greatest_power-power.result c.args.blocks same (omega (arith, i.few, c.greatest_power-power.ensures.most)) (c.requires.room two)

pub loop-left-preserved : goal.loop-left-preserved
loop-left-preserved c =
    let i = c.loop-left.invariant in
    let made = c.unroll_once.ensures in record {
      few = omega (arith, i.few);
      jobs = made.jobs ∙ i.jobs;
      quiet = made.quiet ∙ i.quiet;
      eventful = made.eventful ∙ i.eventful;
      spanned = c.in_ok-unroll_once.ensures.spanned;
    }
