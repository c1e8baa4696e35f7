use Rattle.std.proofs.Common.{◌<◌, sym, subst}
use Rattle.sn_forest.specs.Trees.{count, below_of}
use Rattle.sn_tree.proofs.LevelLaws.{IsRaising, raise_start, raise_ends, last_there, last_inner, last_place, raise_next, raise_fewer}
use Rattle.sn_tree.proofs.level.raise.Goals as goal

pub loop-last-init : goal.loop-last-init
loop-last-init c = raise_start c.args.forest.now c.args.first c.requires

pub move_to-requires-clause-node : goal.move_to-requires-clause-node
move_to-requires-clause-node c = last_there c.args.forest.now c.loop-last.forest c.args.first c.loop-last.invariant c.keys_differ.ensures c.in-Some.last c.in-Some.ensures

pub move_to-requires-clause-inner : goal.move_to-requires-clause-inner
move_to-requires-clause-inner c = last_inner c.args.forest.now c.loop-last.forest c.args.first c.loop-last.invariant c.keys_differ.ensures c.in-Some.last c.in-Some.ensures

pub move_to-requires-clause-place : goal.move_to-requires-clause-place
move_to-requires-clause-place c = last_place c.args.forest.now c.loop-last.forest c.args.first c.loop-last.invariant c.keys_differ.ensures c.in-Some.last c.in-Some.ensures

pub loop-last-preserved : goal.loop-last-preserved
loop-last-preserved c =
    subst (λ t. IsRaising c.args.forest.now t c.args.first) (sym c.move_to.ensures)
    (raise_next c.args.forest.now c.loop-last.forest c.args.first c.loop-last.invariant c.keys_differ.ensures c.in-Some.last c.in-Some.ensures)

pub loop-last-smaller : goal.loop-last-smaller
loop-last-smaller c =
    subst (λ t. count (below_of c.args.first t) < count (below_of c.args.first c.loop-last.forest)) (sym c.move_to.ensures)
    (raise_fewer c.args.forest.now c.loop-last.forest c.args.first c.loop-last.invariant c.keys_differ.ensures c.in-Some.last c.in-Some.ensures)

pub returns : goal.returns
returns c = raise_ends c.args.forest.now c.loop-last.forest c.args.first c.loop-last.invariant c.keys_differ-2.ensures c.in_default.ensures
