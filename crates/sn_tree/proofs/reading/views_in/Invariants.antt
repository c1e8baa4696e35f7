use Rattle.std.proofs.Common.{◌≡◌, ◌++◌}
use Rattle.sn_tree.specs.Reading.{views_by}
use Rattle.sn_tree.proofs.reading.views_in.Given as goal

abbrev pub invariant-loop-row : goal.invariant-loop-row
invariant-loop-row l = l.views.items ++ views_by l.forest l.row-iterator ≡ views_by l.forest l.fn.rows
