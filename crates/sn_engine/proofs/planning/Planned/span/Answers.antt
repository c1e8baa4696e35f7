use Rattle.std.proofs.Common.{◌≤◌, ℕ, length, sym, subst, arith, rules}
use Rattle.sn_span.specs.Unrolling.{start}
use Rattle.sn_engine.proofs.SpanCounts.{less_room}
use Rattle.sn_engine.proofs.planning.Planned.span.Goals as goal

pub returns-clause-quiet : goal.returns-clause-quiet
returns-clause-quiet c = λ two.
    let n : ℕ = c.blocks_before_due.result in
    let low : n ≤ c.most_blocks-most.result = omega (arith, c.blocks_before_due.ensures.few two, c.min.ensures) in record {
      few = omega (arith, low, c.most_blocks-most.ensures.few);
      room = less_room (length c.args.self.now.jobs) _ n c.most_blocks-most.result c.jobs.ensures low c.most_blocks-most.ensures.room;
      none_due = c.blocks_before_due.ensures.none_due two;
      quiet_is = search rules;
    }

pub returns-clause-most : goal.returns-clause-most
returns-clause-most c = λ early n two few span.
    let low : n ≤ c.most_blocks-most.result = c.most_blocks-most.ensures.most n span.few (subst (λ m. start m n ≤ 65536) (sym c.jobs.ensures) span.room) in
    c.blocks_before_due.ensures.most n two (omega (arith, low, few, c.min.ensures)) span.none_due
