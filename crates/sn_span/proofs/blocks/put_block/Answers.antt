use Rattle.std.proofs.Common.{◌≡◌, ◌<◌, ◌+◌, ℕ, suc, List, length, ap, sym, subst, arith}
use Rattle.std.specs.List.{All}
use Rattle.sn_span.specs.Unrolling.{start}
use Rattle.sn_span.proofs.Places.{start_next}
use Rattle.sn_span.proofs.Orders.{all_last}
use Rattle.sn_span.proofs.blocks.put_block.Goals as goal

pub predecessors_in-requires-clause-before : goal.predecessors_in-requires-clause-before
predecessors_in-requires-clause-before c =
    let n : ℕ = length c.args.plan.now in
    let s : c.args.block + 1 ≡ suc c.args.block = omega arith in
    let room : start n c.args.block + n < 4294967296 = omega (arith, c.requires.room, ap (start n) s, start_next n c.args.block) in
    subst (λ m. All (λ p. start m c.args.block + p < 4294967296) c.args.last.now) (sym c.jobs.ensures)
    (subst (λ (ps : List ℕ). All (λ p. start n c.args.block + p < 4294967296) ps) (sym c.requires.last) (all_last c.args.plan.now (start n c.args.block) room))
