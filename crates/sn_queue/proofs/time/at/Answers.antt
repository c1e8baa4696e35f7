use Rattle.std.proofs.Common.{rules, arith, subst, sym, ◌≡◌, ◌+◌, ◌≤◌, ◌^◌}
use Rattle.sn_queue.specs.Time.{at, IsLeastDue}
use Rattle.sn_queue.proofs.TimeLaws.{at-is_least}
use Rattle.sn_queue.proofs.time.at.Goals as goal

pub returns-clause-least : goal.returns-clause-least
returns-clause-least c later =
    let small : c.args.rate ≤ 2 ^ 38 = omega arith in
    let value : c.from.result + c.div_ceil.result ≡ at c.args.block c.args.base c.args.rate = search rules in
    subst (λ n. IsLeastDue n c.args.block c.args.base c.args.rate) (sym value) (at-is_least c.args.block c.args.base c.args.rate c.requires.rate small later)
