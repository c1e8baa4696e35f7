-- The node is among those that are left if it is among all.
use Rattle.std.proofs.Common.{◌≡◌}
use Rattle.std.specs.List.{list_any}
use Rattle.std.specs.Ordering.{int_eq}
use Rattle.sn_tree.specs.Trees.{Label, running_labels}
use Rattle.sn_world.specs.declared.stage.Held.{Held}
use Rattle.sn_foot.proofs.nodes.is_reached.Given as goal

abbrev pub invariant-loop-visit : goal.invariant-loop-visit
invariant-loop-visit l = list_any (λ (x : Label Held). int_eq x.id l.node.id) l.visit-iterator ≡ list_any (λ (x : Label Held). int_eq x.id l.node.id) (running_labels l.tree.attached)
