-- Whether the nodes so far and those that are left are quiet.
use Rattle.std.proofs.Common.{◌≡◌, ◌&&◌}
use Rattle.std.specs.List.{list_all}
use Rattle.sn_tree.specs.Trees.{running_labels}
use Rattle.sn_quiet.specs.Quiet.{is_quiet_held}
use Rattle.sn_quiet.proofs.quiet.is_quiet.Given as goal

abbrev pub invariant-loop-visit : goal.invariant-loop-visit
invariant-loop-visit l = (l.quiet && list_all (λ v. is_quiet_held v.payload) l.visit-iterator) ≡ list_all (λ v. is_quiet_held v.payload) (running_labels l.stage.tree.attached)
