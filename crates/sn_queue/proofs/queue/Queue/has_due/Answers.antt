use Rattle.std.proofs.Common.{ap, sym, ◌∙◌, leb}
use Rattle.std.specs.List.{list_any}
use Rattle.sn_queue.specs.Time.{IsInReach}
use Rattle.sn_queue.specs.Meaning.{meaning}
use Rattle.sn_queue.specs.Steps.{is_due}
use Rattle.sn_queue.proofs.Taking.{All-entry, any-entry}
use Rattle.sn_queue.proofs.queue.Queue.has_due.Goals as goal

pub due-requires : goal.due-requires
due-requires c =
    All-entry (λ w. IsInReach w.key c.self.inside.clock.base c.self.inside.clock.rate) c.self.inside.waiting.entries 0 (c.in-Some.rank.now, c.in-Some.field-0-1.now) c.self.invariant.keys c.in-Some.ensures.first

pub returns-in-Some : goal.returns-in-Some
returns-in-Some c =
    let here = any-entry (meaning c.self.inside) c.args.now c.self.inside.waiting.entries (c.in-Some.rank.now, c.in-Some.field-0-1.now) c.self.invariant.order c.in-Some.ensures.first in
    ap (λ n. leb n c.args.now) c.due.ensures.value ∙ sym here ∙ ap (λ q. list_any (is_due q c.args.now) q.waiting) c.self.view_is
