use Rattle.std.proofs.Common.{◌+◌, drop, sym, ap, ◌∙◌, arith}
use Rattle.std.proofs.lemmas.List.{drop_all}
use Rattle.sn_mem.specs.declared.extents.Extent.{Extent}
use Rattle.sn_pool.specs.Holes.{least_of}
use Rattle.sn_pool.proofs.Least.{least_later, least_last}
use Rattle.sn_pool.proofs.holes.least_of.Goals as goal

pub loop-run-preserved : goal.loop-run-preserved
loop-run-preserved c =
    let d : Extent = record { at = 0; len = 0 } in
    let i = c.loop-run.run-index in
    ap (λ p. least_of p (drop (i + 1) c.args.runs.now)) c.min-least.ensures ∙ sym (least_later c.loop-run.least c.args.runs.now i d c.loop-run-test.true) ∙ c.loop-run.invariant

pub returns : goal.returns
returns c =
    sym (least_last c.loop-run.least) ∙ ap (least_of c.loop-run.least) (sym (drop_all c.loop-run.run-index c.args.runs.now (omega arith))) ∙ c.loop-run.invariant
