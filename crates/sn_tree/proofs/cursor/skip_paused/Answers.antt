use Rattle.sn_tree.proofs.CursorLaws.{skip_start, skip_next, skip_runs, skip_ends, pass_fewer}
use Rattle.sn_tree.proofs.cursor.skip_paused.Goals as goal

pub loop-row-init : goal.loop-row-init
loop-row-init c = skip_start c.args.rest.now

pub returns-then-row-clause-runs : goal.returns-then-row-clause-runs
returns-then-row-clause-runs c = skip_runs c.loop-row.rest c.in-Some.row.key c.in-Some.row.item.now c.in-Some.ensures c.if-row.true

pub loop-row-preserved : goal.loop-row-preserved
loop-row-preserved c = skip_next c.args.rest.now c.loop-row.rest c.pass.new.self c.in-Some.row.key c.in-Some.row.item.now c.loop-row.invariant c.in-Some.ensures c.if-row.false c.pass.ensures

pub loop-row-smaller : goal.loop-row-smaller
loop-row-smaller c = pass_fewer c.loop-row.rest c.pass.new.self c.in-Some.row.key c.in-Some.row.item.now c.in-Some.ensures c.pass.ensures

pub returns-clause-runs : goal.returns-clause-runs
returns-clause-runs c = skip_ends c.loop-row.rest c.in_default.ensures
