use Rattle.std.proofs.Common.{◌<◌, sym, subst}
use Rattle.sn_forest.specs.Trees.{count, subtree}
use Rattle.sn_tree.specs.Keyed.{left_at}
use Rattle.sn_tree.proofs.Indexing.{IsNoting, note_start, note_next, not_yet}
use Rattle.sn_tree.proofs.Stopping.{used_within}
use Rattle.sn_tree.proofs.index.note_all.Goals as goal

pub loop-next-init : goal.loop-next-init
loop-next-init c = note_start c.args.forest.now c.args.top c.keys_differ.ensures c.requires.top c.args.ids.now

pub loop-next-preserved : goal.loop-next-preserved
loop-next-preserved c = (note_next c.args.forest.now c.args.top c.keys_differ.ensures c.requires.top c.args.ids.now c.loop-next.ids c.in-Some.key (subst (λ n. IsNoting c.args.forest.now c.args.top c.args.ids.now c.loop-next.ids n) c.in-Some.is c.loop-next.invariant) c.note.new.ids c.step-next.result c.note.ensures.finds c.note.ensures.len (not_yet c.args.forest.now c.args.top c.keys_differ.ensures c.requires.top c.args.ids.now c.loop-next.ids c.in-Some.key (subst (λ n. IsNoting c.args.forest.now c.args.top c.args.ids.now c.loop-next.ids n) c.in-Some.is c.loop-next.invariant) c.requires.distinct c.requires.absent) c.note.ensures.room c.step-next.ensures).0

pub loop-next-smaller : goal.loop-next-smaller
loop-next-smaller c =
    subst (λ n. count (left_at c.step-next.result (subtree c.args.top c.args.forest.now)) < count (left_at n (subtree c.args.top c.args.forest.now))) (sym c.in-Some.is)
    (note_next c.args.forest.now c.args.top c.keys_differ.ensures c.requires.top c.args.ids.now c.loop-next.ids c.in-Some.key (subst (λ n. IsNoting c.args.forest.now c.args.top c.args.ids.now c.loop-next.ids n) c.in-Some.is c.loop-next.invariant) c.note.new.ids c.step-next.result c.note.ensures.finds c.note.ensures.len (not_yet c.args.forest.now c.args.top c.keys_differ.ensures c.requires.top c.args.ids.now c.loop-next.ids c.in-Some.key (subst (λ n. IsNoting c.args.forest.now c.args.top c.args.ids.now c.loop-next.ids n) c.in-Some.is c.loop-next.invariant) c.requires.distinct c.requires.absent) c.note.ensures.room c.step-next.ensures).1

pub note-requires-clause-absent : goal.note-requires-clause-absent
note-requires-clause-absent c = not_yet c.args.forest.now c.args.top c.keys_differ.ensures c.requires.top c.args.ids.now c.loop-next.ids c.in-Some.key (subst (λ n. IsNoting c.args.forest.now c.args.top c.args.ids.now c.loop-next.ids n) c.in-Some.is c.loop-next.invariant) c.requires.distinct c.requires.absent

pub note-requires-clause-small : goal.note-requires-clause-small
note-requires-clause-small c = c.keys_fit.ensures c.in-Some.key (used_within c.args.forest.now c.args.top c.keys_differ.ensures c.requires.top c.in-Some.key (c.loop-next.invariant.node c.in-Some.key c.in-Some.is))
