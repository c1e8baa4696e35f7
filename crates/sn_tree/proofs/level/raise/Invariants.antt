use Rattle.sn_forest.specs.Trees.{count, below_of}
use Rattle.sn_tree.proofs.LevelLaws.{IsRaising}
use Rattle.sn_tree.proofs.level.raise.Given as goal

abbrev pub invariant-loop-last : goal.invariant-loop-last
invariant-loop-last l = IsRaising l.fn.forest l.forest l.first

abbrev pub decreases-loop-last : goal.decreases-loop-last
decreases-loop-last l = count (below_of l.first l.forest)
