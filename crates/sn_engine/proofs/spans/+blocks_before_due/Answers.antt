use Rattle.std.proofs.Common.{◌≡◌, ◌+◌, ◌-◌, ◌∙◌, ap, rules}
use Rattle.std.specs.List.{list_any}
use Rattle.sn_queue.specs.Steps.{is_due}
use Rattle.sn_engine.proofs.SpanCounts.{fewer_may}
use Rattle.sn_engine.proofs.spans.+blocks_before_due.Goals as goal

pub returns-clause-most : goal.returns-clause-most
returns-clause-most t c = λ n two few none.
    let q = c.args.queue.now in
    let most : c.from.result ≡ c.args.most = search rules in
    c.blocks_before_due.ensures.most n two
    (fewer_may q c.args.block c.args.most n c.has_due.result (c.has_due.ensures ∙ ap (λ m. list_any (is_due q (c.args.block + m - 1)) q.waiting) most) c.if-not-has_due.false few none)
    none
