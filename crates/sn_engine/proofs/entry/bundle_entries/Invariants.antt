-- The entries so far, and those of the bundles that are left, are those of the whole bundle.
use Rattle.std.proofs.Common.{◌≡◌, ◌++◌, map}
use Rattle.sn_engine.specs.Entries.{entries_of}
use Rattle.sn_engine.specs.Stacks.{timed_of, entries_left, bundles_left, shape_of}
use Rattle.sn_engine.proofs.entry.bundle_entries.Given as goal

abbrev pub invariant-loop-next : goal.invariant-loop-next
invariant-loop-next l = map timed_of l.entries.items ++ entries_left l.left.items ≡ entries_of (shape_of l.fn.bundle)

abbrev pub decreases-loop-next : goal.decreases-loop-next
decreases-loop-next l = bundles_left l.left.items
