use Rattle.std.proofs.Common.{◌≡◌, length}
use Rattle.sn_queue.specs.Steps.{clear_after}
use Rattle.sn_queue.proofs.queue.Queue.clear_after.Given as goal

abbrev pub invariant-loop : goal.invariant-loop
invariant-loop l = clear_after l.self l.now ≡ clear_after l.fn.self l.now

abbrev pub decreases-loop : goal.decreases-loop
decreases-loop l = length l.self.waiting
