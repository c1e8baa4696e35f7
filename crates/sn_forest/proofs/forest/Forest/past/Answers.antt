use Rattle.std.proofs.Common.{◌<◌, sym, arith}
use Rattle.sn_forest.specs.Trees.{subtree, count}
use Rattle.sn_forest.specs.Walking.{from}
use Rattle.sn_forest.proofs.Climbing.{climb_found, climb_on, climb_has_parent, climb_ends, count-from, not_linked}
use Rattle.sn_forest.proofs.forest.Forest.past.Goals as goal

pub returns-in_default : goal.returns-in_default
returns-in_default g c = absurd (not_linked c.args.self.now c.args.top c.loop-at.at c.keys_differ.ensures c.requires.top c.loop-at.invariant.node c.in_default.ensures)

pub returns-in-Some-next : goal.returns-in-Some-next
returns-in-Some-next g c = climb_found c.args.self.now c.args.key c.args.top c.loop-at.at c.keys_differ.ensures c.requires.top c.loop-at.invariant c.in-Some.links (sym c.in-Some.ensures) c.loop-at-test.true c.in-Some-next.next c.in-Some-next.is

pub returns-in_default-parent : goal.returns-in_default-parent
returns-in_default-parent g c = absurd (climb_has_parent c.args.self.now c.args.key c.args.top c.loop-at.at c.keys_differ.ensures c.requires.top c.loop-at.invariant c.in-Some.links (sym c.in-Some.ensures) c.loop-at-test.true c.in_default-parent.is)

pub loop-at-smaller : goal.loop-at-smaller
loop-at-smaller g c =
    let more : count (from c.loop-at.at (subtree c.args.top c.args.self.now)) < count (from c.in-Some-parent.parent (subtree c.args.top c.args.self.now)) =
    (climb_on c.args.self.now c.args.key c.args.top c.loop-at.at c.keys_differ.ensures c.requires.top c.loop-at.invariant c.in-Some.links (sym c.in-Some.ensures) c.loop-at-test.true c.in_default-next.is c.in-Some-parent.parent c.in-Some-parent.is).1 in
    omega (arith, more, count-from c.in-Some-parent.parent (subtree c.args.top c.args.self.now))

pub loop-at-preserved : goal.loop-at-preserved
loop-at-preserved g c = (climb_on c.args.self.now c.args.key c.args.top c.loop-at.at c.keys_differ.ensures c.requires.top c.loop-at.invariant c.in-Some.links (sym c.in-Some.ensures) c.loop-at-test.true c.in_default-next.is c.in-Some-parent.parent c.in-Some-parent.is).0

pub returns : goal.returns
returns g c = climb_ends c.args.self.now c.args.key c.args.top c.loop-at.at c.keys_differ.ensures c.requires.top c.loop-at.invariant c.loop-at-test.false
