use Rattle.std.proofs.Common.{rules, arith, ◌≡◌, ◌∙◌, ◌<◌, length, set, get_or, ap}
use Rattle.sn_machine.specs.States.{State}
use Rattle.sn_machine.specs.Steps.{CanClaim, claim_view, claim_word, after_claim}
use Rattle.sn_machine.specs.Calls.{state_of}
use Rattle.sn_machine.proofs.Seated.{takes}
use Rattle.sn_machine.proofs.machine.Machine.claim.Goals as goal

pub returns : goal.returns
returns c =
    let s : State = state_of c.args.self.now in
    let near : c.args.seat < c.args.self.now.views.len = search rules in
    let inside : c.args.seat < length s.views = omega (arith, near, c.args.self.now.views.ok.0) in
    let counts : c.set.new.self ≡ set s.counts c.args.job (claim_word (get_or s.counts c.args.job 0)) = c.set.ensures ∙ ap (set s.counts c.args.job) (c.claim_word.ensures ∙ ap claim_word c.word-word.ensures) in
    let view : c.claim.new.self ≡ claim_view c.index_mut-view.result.now c.args.job (get_or s.counts c.args.job 0) = c.in_ok-claim.ensures ∙ ap (claim_view c.index_mut-view.result.now c.args.job) c.word-word.ensures in
    takes s c.args.seat (λ v. CanClaim v c.args.job) (λ v. after_claim s c.args.seat v c.args.job) c.index.result.now c.index_mut-view.result.now
    (record { memory = s.memory; counts = c.set.new.self; views = set s.views c.args.seat c.claim.new.self })
    inside c.index.ensures c.index_mut-view.ensures.value (search rules)
    (λ can i. record { memory = s.memory; counts = counts i; views = set s.views c.args.seat (view i) })
