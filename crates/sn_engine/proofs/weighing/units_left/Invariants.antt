-- What is left, less what the nodes have that are left.
use Rattle.std.proofs.Common.{◌≡◌, ◌-◌}
use Rattle.sn_tree.specs.Trees.{running_labels}
use Rattle.sn_engine.specs.Weighing.{labels_more}
use Rattle.sn_engine.proofs.weighing.units_left.Given as goal

abbrev pub invariant-loop-visit : goal.invariant-loop-visit
invariant-loop-visit l = l.left - labels_more l.visit-iterator ≡ 128 - labels_more (running_labels l.stage.tree.attached)
