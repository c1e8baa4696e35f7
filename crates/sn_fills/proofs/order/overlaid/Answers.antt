use Rattle.std.proofs.Common.{ℕ, pos, List, get_or, arith}
use Rattle.std.proofs.lemmas.List.{drop_more}
use Rattle.sn_fills.specs.declared.fill.Fill.{Fill}
use Rattle.sn_fills.proofs.Overlaying.{short, more-overlaid, all-overlaid}
use Rattle.sn_fills.proofs.order.overlaid.Goals as goal

abbrev nothing : Fill
nothing = record { first = 0; count = 0; value = pos 0 }

pub put-requires-clause-fill : goal.put-requires-clause-fill
put-requires-clause-fill c =
    let fs : List Fill = c.args.later.now in
    let n : ℕ = c.loop-fill.fill-index in
    omega (arith, short c.args.earlier.now fs n c.loop-fill.index c.loop-fill.row.end c.loop-fill.row.fills.items (get_or fs n nothing) c.loop-fill.invariant (drop_more fs n nothing c.loop-fill-test.true))

pub loop-fill-preserved : goal.loop-fill-preserved
loop-fill-preserved c =
    let fs : List Fill = c.args.later.now in
    let n : ℕ = c.loop-fill.fill-index in
    more-overlaid c.args.earlier.now fs n c.loop-fill.index c.loop-fill.row.end c.loop-fill.row.fills.items (get_or fs n nothing) c.loop-fill.invariant (drop_more fs n nothing c.loop-fill-test.true)
    c.in_ok-index.index c.put_before.new.row.end c.put_before.new.row.fills.items c.in_ok-index.ensures c.put.new.self.end c.put.new.self.fills.items c.in_ok-put.ensures

pub returns : goal.returns
returns c =
    all-overlaid c.args.earlier.now c.args.later.now c.loop-fill.fill-index c.loop-fill.index c.loop-fill.row.end c.loop-fill.row.fills.items c.requires.earlier c.requires.later
    c.loop-fill.invariant c.loop-fill-test.false c.in_ok-put_before.field-0 c.put_before-2.new.row.end c.put_before-2.new.row.fills.items c.in_ok-put_before.ensures
