-- A parallel group is among the nodes that are left if one is among all.
use Rattle.std.proofs.Common.{◌≡◌}
use Rattle.std.specs.List.{list_any}
use Rattle.sn_tree.specs.Trees.{Label, running_labels}
use Rattle.sn_world.specs.declared.stage.Held.{Held}
use Rattle.sn_clash.specs.Clashing.{is_parallel}
use Rattle.sn_clash.proofs.walking.has_parallel.Given as goal

abbrev pub invariant-loop-node : goal.invariant-loop-node
invariant-loop-node l = list_any (λ (x : Label Held). is_parallel x.kind) l.node-iterator ≡ list_any (λ (x : Label Held). is_parallel x.kind) (running_labels l.tree.attached)
