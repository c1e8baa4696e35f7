use Rattle.std.proofs.Common.{arith}
use Rattle.sn_tree.proofs.CursorLaws.{count_start, count_few, count_next, count_ends, pass_fewer}
use Rattle.sn_tree.proofs.cursor.count_tops.Goals as goal

pub loop-row-init : goal.loop-row-init
loop-row-init c = count_start c.args.rest

pub overflow_add-found : goal.overflow_add-found
overflow_add-found c = omega (arith, count_few c.args.rest c.loop-row.rest c.loop-row.found c.in-Some._row.key c.in-Some._row.item.now c.loop-row.invariant c.in-Some.ensures, c.requires)

pub loop-row-preserved : goal.loop-row-preserved
loop-row-preserved c = count_next c.args.rest c.loop-row.rest c.pass.new.self c.loop-row.found c.in-Some._row.key c.in-Some._row.item.now c.loop-row.invariant c.in-Some.ensures c.pass.ensures

pub loop-row-smaller : goal.loop-row-smaller
loop-row-smaller c = pass_fewer c.loop-row.rest c.pass.new.self c.in-Some._row.key c.in-Some._row.item.now c.in-Some.ensures c.pass.ensures

pub returns : goal.returns
returns c = count_ends c.args.rest c.loop-row.rest c.loop-row.found c.loop-row.invariant c.in_default.ensures
