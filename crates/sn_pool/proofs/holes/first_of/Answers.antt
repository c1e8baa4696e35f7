use Rattle.std.proofs.Common.{sym, ap, ◌∙◌, arith}
use Rattle.std.proofs.lemmas.List.{drop_all}
use Rattle.sn_mem.specs.declared.extents.Extent.{Extent}
use Rattle.sn_pool.specs.Holes.{first_of}
use Rattle.sn_pool.proofs.Least.{first_here, first_later, first_none}
use Rattle.sn_pool.proofs.holes.first_of.Goals as goal

pub returns-then-run-n : goal.returns-then-run-n
returns-then-run-n c =
    let d : Extent = record { at = 0; len = 0 } in
    sym (c.loop-run.invariant ∙ first_here c.args.n c.args.runs.now c.loop-run.run-index d c.loop-run-test.true c.if-run-n.true)

pub loop-run-preserved : goal.loop-run-preserved
loop-run-preserved c =
    let d : Extent = record { at = 0; len = 0 } in
    c.loop-run.invariant ∙ first_later c.args.n c.args.runs.now c.loop-run.run-index d c.loop-run-test.true (omega (arith, c.if-run-n.false))

pub returns : goal.returns
returns c = sym (c.loop-run.invariant ∙ ap (first_of c.args.n) (drop_all c.loop-run.run-index c.args.runs.now (omega arith)) ∙ first_none c.args.n)
