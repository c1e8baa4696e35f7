-- Those so far, and those that are left, are all.
use Rattle.std.proofs.Common.{◌≡◌, ◌≤◌, ◌+◌, drop, map}
use Rattle.sn_report.specs.Reports.{synths_among}
use Rattle.sn_report.specs.Visits.{sight_in}
use Rattle.sn_report.proofs.lines.synths_among.Given as goal

abbrev pub invariant-loop-visit : goal.invariant-loop-visit
invariant-loop-visit l = record {
  few : l.count ≤ l.visit-index;
  some : l.count + synths_among (map sight_in (drop l.visit-index l.visits)) ≡ synths_among (map sight_in l.visits);
}
