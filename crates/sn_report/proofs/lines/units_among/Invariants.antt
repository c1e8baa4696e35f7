-- Those so far, and those that are left, are all.
use Rattle.std.proofs.Common.{◌≡◌, ◌+◌, drop, map}
use Rattle.sn_report.specs.Reports.{units_among}
use Rattle.sn_report.specs.Visits.{sight_in}
use Rattle.sn_report.proofs.lines.units_among.Given as goal

abbrev pub invariant-loop-visit : goal.invariant-loop-visit
invariant-loop-visit l = l.units + units_among (map sight_in (drop l.visit-index l.visits)) ≡ units_among (map sight_in l.visits)
