use Rattle.std.proofs.Common.{◌≡◌, ◌≤◌, ◌<◌, Some, arith, ap, sym, ◌∙◌}
use Rattle.sn_queue.specs.Meaning.{meaning}
use Rattle.sn_queue.specs.Steps.{last_due, clear_after}
use Rattle.sn_queue.proofs.Clearing.{IsInOrder-popped, clear_after-popped, clear_after-all}
use Rattle.sn_queue.proofs.queue.Queue.drop_last_after.Goals as goal

pub invariant_of-self : goal.invariant_of-self
invariant_of-self c = IsInOrder-popped c.self.inside c.pop_last.new.self c.pop_last.result c.self.invariant c.pop_last.ensures.removal c.pop_last.ensures.unchanged

pub returns-in-Some-clause-same : goal.returns-in-Some-clause-same
returns-in-Some-clause-same c =
    let last : last_due (meaning c.self.inside) ≡ Some c.in-Some.last = ap last_due c.self.view_is ∙ sym c.last.ensures.value ∙ c.in-Some.is in
    let late : c.args.now < c.in-Some.last = omega arith in
    clear_after-popped c.self.inside c.pop_last.new.self c.pop_last.result c.args.now c.in-Some.last c.self.invariant c.pop_last.ensures.removal c.pop_last.ensures.unchanged last late
    ∙ ap (λ q. clear_after q c.args.now) c.self.view_is

pub returns-in_default-clause-done : goal.returns-in_default-clause-done
returns-in_default-clause-done c _ =
    let last : last_due c.args.self.now ≡ Some c.in-Some.last = sym c.last.ensures.value ∙ c.in-Some.is in
    let early : c.in-Some.last ≤ c.args.now = omega arith in
    clear_after-all c.args.self.now c.args.now c.in-Some.last last early
