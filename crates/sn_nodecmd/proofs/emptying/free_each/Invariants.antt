-- What the nodes so far have left, and which are left to be freed.
use Rattle.std.proofs.Common.{◌≡◌, ℕ, List, drop}
use Rattle.sn_world.specs.Answers.{Continues}
use Rattle.sn_world.specs.Emptying.{freed_each}
use Rattle.sn_world.specs.World.{turn_of}
use Rattle.sn_nodecmd.specs.Folding.{Keeps}
use Rattle.sn_nodecmd.specs.Sparing.{SparesRoom}
use Rattle.sn_nodecmd.proofs.emptying.free_each.Given as goal

abbrev pub invariant-loop-id : goal.invariant-loop-id
invariant-loop-id l = record {
  keeps : Keeps l.fn.stage l.stage;
  spares : SparesRoom l.fn.stage.tree l.stage.tree;
  row : (words : List ℕ) → freed_each (drop l.id-index l.ids) (turn_of l.stage words l.replies) ≡ freed_each l.ids (turn_of l.fn.stage words l.fn.replies);
  continues : Continues l.fn.replies l.replies;
}
