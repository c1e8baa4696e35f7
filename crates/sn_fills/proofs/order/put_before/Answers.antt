use Rattle.std.proofs.Common.{ℕ, pos, List, get_or, arith}
use Rattle.std.proofs.lemmas.List.{drop_more}
use Rattle.sn_fills.specs.declared.fill.Fill.{Fill}
use Rattle.sn_fills.proofs.Lying.{order-drop}
use Rattle.sn_fills.proofs.Putting.{none-so-far, more-put, last-put, all-put, next-short}
use Rattle.sn_fills.proofs.order.put_before.Goals as goal

abbrev nothing : Fill
nothing = record { first = 0; count = 0; value = pos 0 }

pub loop-next-init : goal.loop-next-init
loop-next-init c =
    none-so-far c.args.fills.now c.args.until c.args.index c.args.row.now.end c.args.row.now.fills.items c.requires.row c.requires.until c.requires.index
    (order-drop c.args.index 0 4294967295 c.args.fills.now c.requires.fills)

pub put-requires-clause-fill : goal.put-requires-clause-fill
put-requires-clause-fill c =
    let fs : List Fill = c.args.fills.now in
    let n : ℕ = c.loop-next.next in
    omega (arith, next-short fs n (get_or fs n nothing) c.loop-next.invariant.rest (drop_more fs n nothing c.loop-next-test.true))

pub end-requires : goal.end-requires
end-requires c =
    let fs : List Fill = c.args.fills.now in
    let n : ℕ = c.loop-next.next in
    omega (arith, next-short fs n (get_or fs n nothing) c.loop-next.invariant.rest (drop_more fs n nothing c.loop-next-test.true))

pub returns-then-end-until : goal.returns-then-end-until
returns-then-end-until c =
    let fs : List Fill = c.args.fills.now in
    let n : ℕ = c.loop-next.next in
    last-put fs c.args.until n c.args.row.now.end c.args.row.now.fills.items c.loop-next.row.end c.loop-next.row.fills.items (get_or fs n nothing) c.loop-next.invariant
    (drop_more fs n nothing c.loop-next-test.true) c.put.new.self.end c.put.new.self.fills.items c.in_ok-put.ensures (omega (arith, c.end.ensures, c.if-end-until.true))

pub loop-next-preserved : goal.loop-next-preserved
loop-next-preserved c =
    let fs : List Fill = c.args.fills.now in
    let n : ℕ = c.loop-next.next in
    more-put fs c.args.until n c.args.row.now.end c.args.row.now.fills.items c.loop-next.row.end c.loop-next.row.fills.items (get_or fs n nothing) c.loop-next.invariant
    (drop_more fs n nothing c.loop-next-test.true) c.put.new.self.end c.put.new.self.fills.items c.in_ok-put.ensures (omega (arith, c.end.ensures, c.if-end-until.false))

pub returns : goal.returns
returns c =
    all-put c.args.fills.now c.args.until c.loop-next.next c.args.row.now.end c.args.row.now.fills.items c.loop-next.row.end c.loop-next.row.fills.items c.loop-next.invariant c.loop-next-test.false
