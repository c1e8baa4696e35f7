use Rattle.std.proofs.Common.{◌<◌, ◌+◌, ℕ, List, length, sym, subst, arith}
use Rattle.std.specs.List.{All}
use Rattle.sn_span.specs.Unrolling.{start}
use Rattle.sn_span.proofs.Orders.{all_lower}
use Rattle.sn_span.proofs.blocks.job_in.Goals as goal

pub predecessors_in-requires-clause-before : goal.predecessors_in-requires-clause-before
predecessors_in-requires-clause-before c =
    let n : ℕ = length c.args.plan.now in
    let room : start n c.args.block + n < 4294967296 = omega (arith, c.requires.room) in
    subst (λ m. All (λ p. start m c.args.block + p < 4294967296) c.predecessors.result.now) (sym c.jobs.ensures)
    (subst (λ (ps : List ℕ). All (λ p. start n c.args.block + p < 4294967296) ps) (sym c.predecessors.ensures) (all_lower c.args.plan.now (start n c.args.block) c.args.job c.is_well_formed.ensures c.requires.job room))
