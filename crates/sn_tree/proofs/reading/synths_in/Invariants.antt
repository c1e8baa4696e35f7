use Rattle.std.proofs.Common.{◌≡◌, ◌++◌}
use Rattle.sn_tree.specs.Reading.{synths_by}
use Rattle.sn_tree.proofs.reading.synths_in.Given as goal

abbrev pub invariant-loop-row : goal.invariant-loop-row
invariant-loop-row l = l.found.items ++ synths_by l.row-iterator ≡ synths_by l.fn.rows
