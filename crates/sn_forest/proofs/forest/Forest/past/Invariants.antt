use Rattle.std.proofs.Common.{◌-◌}
use Rattle.sn_forest.specs.Trees.{count, subtree}
use Rattle.sn_forest.specs.Walking.{from}
use Rattle.sn_forest.proofs.Climbing.{IsClimbing}
use Rattle.sn_forest.proofs.forest.Forest.past.Given as goal

abbrev pub invariant-loop-at : goal.invariant-loop-at
invariant-loop-at g l = IsClimbing l.self l.key l.top l.at

abbrev pub decreases-loop-at : goal.decreases-loop-at
decreases-loop-at g l = count (subtree l.top l.self) - count (from l.at (subtree l.top l.self))
