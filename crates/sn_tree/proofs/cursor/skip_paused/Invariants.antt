use Rattle.sn_forest.specs.Trees.{count}
use Rattle.sn_tree.proofs.CursorLaws.{IsSkipping}
use Rattle.sn_tree.proofs.cursor.skip_paused.Given as goal

abbrev pub invariant-loop-row : goal.invariant-loop-row
invariant-loop-row l = IsSkipping l.fn.rest l.rest

abbrev pub decreases-loop-row : goal.decreases-loop-row
decreases-loop-row l = count l.rest
