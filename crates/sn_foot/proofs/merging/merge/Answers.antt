use Rattle.std.proofs.Common.{◌++◌, ◌+◌, ◌∙◌, ◌≡◌, List, [], ap, sym, drop}
use Rattle.std.proofs.lemmas.List.{drop_all}
use Rattle.sn_mem.specs.declared.extents.Extent.{Extent}
use Rattle.sn_foot.specs.Canonical.{merged}
use Rattle.sn_foot.proofs.Runs.{next_one, merged_none, rising_lower}
use Rattle.sn_foot.proofs.merging.merge.Goals as goal

pub loop-extent-preserved : goal.loop-extent-preserved
loop-extent-preserved c =
    let i = c.loop-extent.invariant in
    let next = next_one c.loop-extent.last.at c.args.extents.now c.loop-extent.extent-index (record { at = 0; len = 0 }) c.loop-extent-test.true i.order i.ends in
    record {
      merged = c.in_ok-last.ensures.merged (drop (c.loop-extent.extent-index + 1) c.args.extents.now) ∙ ap (λ (es : List Extent). c.loop-extent.found ++ merged c.loop-extent.last es) (sym next.is) ∙ i.merged;
      order = rising_lower _ _ _ c.in_ok-last.ensures.order next.order;
      ends = next.all;
      last = c.in_ok-last.ensures.ends;
    }

pub returns : goal.returns
returns c =
    let none : drop c.loop-extent.extent-index c.args.extents.now ≡ [] = drop_all c.loop-extent.extent-index c.args.extents.now c.loop-extent-test.false in
    c.in_ok-push_some.ensures
    ∙ ap (λ (es : List Extent). c.loop-extent.found ++ es) (sym (ap (λ (es : List Extent). merged c.loop-extent.last es) none ∙ merged_none c.loop-extent.last))
    ∙ c.loop-extent.invariant.merged
