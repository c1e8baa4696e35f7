-- The nodes that are still detached.
use Rattle.std.proofs.Common.{◌≡◌}
use Rattle.sn_tree.specs.Trees.{count}
use Rattle.sn_nodecmd.proofs.placing.drop_detached.Given as goal

abbrev pub invariant-loop-ended : goal.invariant-loop-ended
invariant-loop-ended l = record {
  attached : l.tree.attached ≡ l.fn.tree.attached;
  journal : l.tree.journal ≡ l.fn.tree.journal;
}

abbrev pub decreases-loop-ended : goal.decreases-loop-ended
decreases-loop-ended l = count l.tree.detached
