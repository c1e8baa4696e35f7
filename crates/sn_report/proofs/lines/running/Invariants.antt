-- Those so far, and then those that are left, are all.
use Rattle.std.proofs.Common.{◌≡◌, ◌++◌, map}
use Rattle.sn_tree.specs.Trees.{running_labels}
use Rattle.sn_report.specs.Visits.{label_in}
use Rattle.sn_report.proofs.lines.running.Given as goal

abbrev pub invariant-loop-visit : goal.invariant-loop-visit
invariant-loop-visit l = map label_in l.visits.items ++ l.visit-iterator ≡ running_labels l.tree.attached
