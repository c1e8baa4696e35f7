use Rattle.std.proofs.Common.{rules, arith, ◌≡◌, ◌≤◌, ◌^◌, sym, ap, subst, ◌∙◌}
use Rattle.sn_queue.specs.Time.{due, key_of, acts_at, IsInReach}
use Rattle.sn_queue.proofs.TimeLaws.{due-at, due-key, reach-at, reach-tag, reach-max}
use Rattle.sn_queue.proofs.clock.Clock.key.Goals as goal

pub returns-in-1-clause-in_reach : goal.returns-in-1-clause-in_reach
returns-in-1-clause-in_reach c =
    let clock = c.args.self.now in
    subst (λ n. IsInReach n clock.base clock.rate) (sym c.at-arrival.ensures.value) (reach-at c.args.boundary clock.base clock.rate clock.some clock.small c.requires)

pub returns-in-1-clause-acts_at : goal.returns-in-1-clause-acts_at
returns-in-1-clause-acts_at c =
    let clock = c.args.self.now in
    let small : clock.rate ≤ 2 ^ 38 = omega (arith, clock.small) in
    let is : due c.at-arrival.result clock.base clock.rate ≡ c.args.boundary = ap (λ n. due n clock.base clock.rate) c.at-arrival.ensures.value ∙ due-at c.args.boundary clock.base clock.rate clock.some small in
    is ∙ sym (ap (λ tag. acts_at tag c.args.boundary clock.base clock.rate) c.in-1.is)

pub returns-in_default-clause-in_reach : goal.returns-in_default-clause-in_reach
returns-in_default-clause-in_reach c =
    let clock = c.args.self.now in
    let tag = subst (λ n. IsInReach n clock.base clock.rate) (sym c.from.ensures) (reach-tag c.args.tag clock.base clock.rate c.ranges.tag.fits clock.small) in
    let arrival = subst (λ n. IsInReach n clock.base clock.rate) (sym c.at-arrival.ensures.value) (reach-at c.args.boundary clock.base clock.rate clock.some clock.small c.requires) in
    subst (λ n. IsInReach n clock.base clock.rate) (sym c.max.ensures) (reach-max c.from.result c.at-arrival.result clock.base clock.rate tag arrival)

pub returns-in_default-clause-acts_at : goal.returns-in_default-clause-acts_at
returns-in_default-clause-acts_at c =
    let clock = c.args.self.now in
    let small : clock.rate ≤ 2 ^ 38 = omega (arith, clock.small) in
    let value : c.max.result ≡ key_of c.args.tag c.args.boundary clock.base clock.rate = search rules in
    rw value (due-key c.args.tag c.args.boundary clock.base clock.rate clock.some small)
