use Rattle.std.proofs.Common.{◌≤◌, ◌+◌, length, arith, rules}
use Rattle.std.proofs.lemmas.Nat.{mul-le}
use Rattle.sn_calls.proofs.rounds.unrolled.Goals as goal

pub unroll-requires-clause-jobs : goal.unroll-requires-clause-jobs
unroll-requires-clause-jobs c =
    let jobs : length c.args.plan.now ≤ 1000 = search rules in
    let few : c.in_ok-blocks.blocks ≤ 32 = search rules in
    let all = mul-le c.in_ok-blocks.blocks (length c.args.plan.now + 1) 32 1001 few (omega (arith, jobs)) in
    omega (arith, all)
