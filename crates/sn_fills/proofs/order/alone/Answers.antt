use Rattle.std.proofs.Common.{ℕ, List, subst}
use Rattle.sn_fills.specs.declared.fill.Fill.{Fill}
use Rattle.sn_fills.specs.Rows.{IsPut}
use Rattle.sn_fills.proofs.Overlaying.{one-in-order}
use Rattle.sn_fills.proofs.order.alone.Goals as goal

pub returns : goal.returns
returns c =
    let f : Fill = c.args.fill.now in
    let row = c.put.new.self in
    one-in-order f row.end row.fills.items c.requires
    (subst (λ (fs : List Fill). IsPut f 4294967295 0 fs row.end row.fills.items) c.new-row.ensures.fills
    (subst (λ (k : ℕ). IsPut f 4294967295 k c.new-row.result.fills.items row.end row.fills.items) c.new-row.ensures.end c.in_ok-put.ensures))
