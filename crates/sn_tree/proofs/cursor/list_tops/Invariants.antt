use Rattle.std.proofs.Common.{◌≡◌, ◌++◌}
use Rattle.sn_forest.specs.Trees.{count}
use Rattle.sn_tree.specs.Below.{top_ids}
use Rattle.sn_tree.specs.Keyed.{labels}
use Rattle.sn_tree.proofs.cursor.list_tops.Given as goal

abbrev pub invariant-loop-row : goal.invariant-loop-row
invariant-loop-row l = l.found.items ++ top_ids (labels l.rest) ≡ top_ids (labels l.fn.rest)

abbrev pub decreases-loop-row : goal.decreases-loop-row
decreases-loop-row l = count l.rest
