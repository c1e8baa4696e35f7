-- What is still ahead, and then what is left, stays the same.
use Rattle.std.proofs.Common.{◌≡◌, ◌++◌, ◌+◌, length}
use Rattle.sn_engine.specs.Stacks.{entries_left, entries_ahead, bundles_left}
use Rattle.sn_engine.proofs.entry.put.Given as goal

abbrev pub invariant-loop-last : goal.invariant-loop-last
invariant-loop-last l = record {
  entries : entries_ahead l.ahead.items ++ entries_left l.left.items ≡ entries_ahead l.initial.ahead.items ++ entries_left l.initial.left.items;
  count : bundles_left l.ahead.items + bundles_left l.left.items ≡ bundles_left l.initial.ahead.items + bundles_left l.initial.left.items;
}

abbrev pub decreases-loop-last : goal.decreases-loop-last
decreases-loop-last l = length l.ahead.items
