use Rattle.std.proofs.Common.{◌++◌, ◌∙◌, List, ap, sym, append_assoc, arith}
use Rattle.sn_mem.specs.declared.extents.Extent.{Extent}
use Rattle.sn_foot.specs.Canonical.{merged, where_some}
use Rattle.sn_foot.proofs.Runs.{merged_touching, merged_past}
use Rattle.sn_foot.proofs.merging.absorb.Goals as goal

pub returns-then-next-end-clause-merged : goal.returns-then-next-end-clause-merged
returns-then-next-end-clause-merged c = λ rest.
    ap (λ (xs : List Extent). c.args.found.now ++ xs) (ap (λ (e : Extent). merged e rest) c.both.ensures.both ∙ sym (merged_touching c.args.last c.args.next rest (omega (arith, c.if-next-end.true, c.end.ensures))))

pub returns-clause-merged : goal.returns-clause-merged
returns-clause-merged c = λ rest.
    ap (λ (xs : List Extent). xs ++ merged c.args.next rest) c.in_ok-push_some.ensures
    ∙ append_assoc c.args.found.now (where_some c.args.last) (merged c.args.next rest)
    ∙ ap (λ (xs : List Extent). c.args.found.now ++ xs) (sym (merged_past c.args.last c.args.next rest (omega (arith, c.if-next-end.false, c.end.ensures))))
