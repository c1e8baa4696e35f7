-- Those of the nodes so far, and those of the nodes that are left.
use Rattle.std.proofs.Common.{◌≡◌, ◌≤◌, ◌+◌, ◌*◌, length}
use Rattle.sn_tree.specs.Trees.{running_labels}
use Rattle.sn_world.specs.SettleWords.{walk_room}
use Rattle.sn_settle.proofs.room.settling_room.Given as goal

abbrev pub invariant-loop-visit : goal.invariant-loop-visit
invariant-loop-visit l = record {
  room : l.room + walk_room l.visit-iterator ≡ walk_room (running_labels l.stage.tree.attached);
  few : l.room + 512 * length l.visit-iterator ≤ 512 * length (running_labels l.stage.tree.attached);
}
