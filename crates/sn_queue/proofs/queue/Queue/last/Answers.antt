use Rattle.std.proofs.Common.{ap, sym, ◌∙◌, ◌-◌, Some, length}
use Rattle.sn_queue.specs.Time.{IsInReach}
use Rattle.sn_queue.specs.Meaning.{meaning}
use Rattle.sn_queue.specs.Steps.{last_due}
use Rattle.sn_queue.proofs.Taking.{All-entry}
use Rattle.sn_queue.proofs.Clearing.{greatest-entry}
use Rattle.sn_queue.proofs.queue.Queue.last.Goals as goal

pub due-requires : goal.due-requires
due-requires c =
    All-entry (λ w. IsInReach w.key c.self.inside.clock.base c.self.inside.clock.rate) c.self.inside.waiting.entries (length c.self.inside.waiting.entries - 1) (c.in_ok-rank.rank.now, c.in_ok-rank.field-0-1.now) c.self.invariant.keys c.in_ok-rank.ensures.last

pub returns-clause-value : goal.returns-clause-value
returns-clause-value c =
    let here = greatest-entry (meaning c.self.inside) c.self.inside.waiting.entries (c.in_ok-rank.rank.now, c.in_ok-rank.field-0-1.now) c.self.invariant.order c.in_ok-rank.ensures.last in
    ap Some c.due.ensures.value ∙ sym here ∙ ap last_due c.self.view_is
