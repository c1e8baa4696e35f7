use Rattle.std.proofs.Common.{◌≡◌, ◌++◌, drop, map}
use Rattle.sn_foot.specs.Footprints.{is_there}
use Rattle.sn_report.specs.Reports.{node_lines}
use Rattle.sn_report.specs.Visits.{sight_in}
use Rattle.sn_report.proofs.lines.put_nodes.Given as goal

abbrev pub invariant-loop-visit : goal.invariant-loop-visit
invariant-loop-visit l = l.out.bytes ++ node_lines (is_there l.buffers) (map sight_in (drop l.visit-index l.visits)) ≡ l.fn.out.bytes ++ node_lines (is_there l.buffers) (map sight_in l.visits)
