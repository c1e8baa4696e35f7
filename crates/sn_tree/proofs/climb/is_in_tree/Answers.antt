use Rattle.std.proofs.Common.{◌<◌, sym, subst}
use Rattle.sn_tree.proofs.ClimbLaws.{IsGoingUp, outside, up_start, up_next, up_fewer, up_found}
use Rattle.sn_tree.proofs.climb.is_in_tree.Goals as goal

pub loop-next-init : goal.loop-next-init
loop-next-init c = up_start c.args.forest.now c.args.key c.args.top c.keys_differ.ensures c.requires

pub returns-then-at-top : goal.returns-then-at-top
returns-then-at-top c =
    up_found c.args.forest.now c.args.key c.args.top c.keys_differ.ensures c.in-Some.at (subst (IsGoingUp c.args.forest.now c.args.key c.args.top) c.in-Some.is c.loop-next.invariant) c.if-at-top.true

pub loop-next-preserved : goal.loop-next-preserved
loop-next-preserved c =
    up_next c.args.forest.now c.args.key c.args.top c.keys_differ.ensures c.in-Some.at (subst (IsGoingUp c.args.forest.now c.args.key c.args.top) c.in-Some.is c.loop-next.invariant) c.parent_of-next.result c.if-at-top.false c.parent_of-next.ensures

pub loop-next-smaller : goal.loop-next-smaller
loop-next-smaller c =
    subst (λ n. outside c.args.forest.now c.parent_of-next.result < outside c.args.forest.now n) (sym c.in-Some.is)
    (up_fewer c.args.forest.now c.args.key c.args.top c.keys_differ.ensures c.in-Some.at (subst (IsGoingUp c.args.forest.now c.args.key c.args.top) c.in-Some.is c.loop-next.invariant) c.parent_of-next.result c.parent_of-next.ensures)

pub returns : goal.returns
returns c = sym (subst (IsGoingUp c.args.forest.now c.args.key c.args.top) c.in_default.is c.loop-next.invariant)
