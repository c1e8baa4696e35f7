use Rattle.std.proofs.Common.{◌<◌, sym, subst}
use Rattle.sn_forest.specs.Trees.{count, subtree}
use Rattle.sn_tree.specs.Keyed.{left_at}
use Rattle.sn_tree.proofs.Indexing.{IsForgetting, forget_start, forget_next}
use Rattle.sn_tree.proofs.index.forget_all.Goals as goal

pub loop-next-init : goal.loop-next-init
loop-next-init c = forget_start c.args.forest.now c.args.top c.keys_differ.ensures c.requires.top c.args.ids.now

pub loop-next-preserved : goal.loop-next-preserved
loop-next-preserved c = (forget_next c.args.forest.now c.args.top c.keys_differ.ensures c.requires.top c.args.ids.now c.loop-next.ids c.forget.new.ids c.in-Some.key c.step-next.result (subst (λ n. IsForgetting c.args.forest.now c.args.top c.args.ids.now c.loop-next.ids n) c.in-Some.is c.loop-next.invariant) c.requires.there c.forget.ensures.finds c.forget.ensures.len c.forget.ensures.room c.step-next.ensures).0

pub loop-next-smaller : goal.loop-next-smaller
loop-next-smaller c =
    subst (λ n. count (left_at c.step-next.result (subtree c.args.top c.args.forest.now)) < count (left_at n (subtree c.args.top c.args.forest.now))) (sym c.in-Some.is)
    (forget_next c.args.forest.now c.args.top c.keys_differ.ensures c.requires.top c.args.ids.now c.loop-next.ids c.forget.new.ids c.in-Some.key c.step-next.result (subst (λ n. IsForgetting c.args.forest.now c.args.top c.args.ids.now c.loop-next.ids n) c.in-Some.is c.loop-next.invariant) c.requires.there c.forget.ensures.finds c.forget.ensures.len c.forget.ensures.room c.step-next.ensures).1
