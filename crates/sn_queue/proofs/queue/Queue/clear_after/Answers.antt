use Rattle.std.proofs.Common.{◌≡◌, length, arith, ap, sym, ◌∙◌}
use Rattle.sn_queue.specs.Steps.{clear_after}
use Rattle.sn_queue.proofs.Clearing.{length-clear_after}
use Rattle.sn_queue.proofs.queue.Queue.clear_after.Goals as goal

pub overflow_sub-result : goal.overflow_sub-result
overflow_sub-result c =
    let left : c.drop_last_after.new.self ≡ clear_after c.args.self.now c.args.now = sym (c.drop_last_after.ensures.done c.loop-test.false) ∙ c.drop_last_after.ensures.same ∙ c.loop.invariant in
    let is : c.len.result ≡ length (clear_after c.args.self.now c.args.now).waiting = c.len.ensures.value ∙ ap (λ q. length q.waiting) left in
    omega (arith, length-clear_after c.args.self.now c.args.now, is, c.len-before.ensures.value)

pub returns-clause-dropped : goal.returns-clause-dropped
returns-clause-dropped c =
    let left : c.drop_last_after.new.self ≡ clear_after c.args.self.now c.args.now = sym (c.drop_last_after.ensures.done c.loop-test.false) ∙ c.drop_last_after.ensures.same ∙ c.loop.invariant in
    let is : c.len.result ≡ length (clear_after c.args.self.now c.args.now).waiting = c.len.ensures.value ∙ ap (λ q. length q.waiting) left in
    omega (arith, length-clear_after c.args.self.now c.args.now, is, c.len-before.ensures.value)
