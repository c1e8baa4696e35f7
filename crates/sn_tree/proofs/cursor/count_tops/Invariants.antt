use Rattle.sn_forest.specs.Trees.{count}
use Rattle.sn_tree.proofs.CursorLaws.{IsCounted}
use Rattle.sn_tree.proofs.cursor.count_tops.Given as goal

abbrev pub invariant-loop-row : goal.invariant-loop-row
invariant-loop-row l = IsCounted l.fn.rest l.rest l.found

abbrev pub decreases-loop-row : goal.decreases-loop-row
decreases-loop-row l = count l.rest
