-- The blocks so far.
use Rattle.std.proofs.Common.{◌≡◌, ◌≤◌, ◌+◌, ◌-◌, ◌*◌, length}
use Rattle.std.specs.Prelude.{vec_capacity}
use Rattle.sn_engine.proofs.RoundLemmas.{AreRendered}
use Rattle.sn_engine.proofs.rendering.render.Given as goal

abbrev pub invariant-loop-done : goal.invariant-loop-done
invariant-loop-done g l = record {
  few : l.done ≤ l.part.blocks;
  rendered : AreRendered l.part l.part.first l.done (length l.fn.crew.hands.items) l.fn.memory l.memory l.fn.sound.bytes l.sound.bytes;
  spare : l.fn.sound.spare ≤ l.sound.spare + 1536 * l.done;
  samples : 512 ≤ vec_capacity l.samples;
  crew : length l.crew.hands.items ≡ length l.fn.crew.hands.items;
}

abbrev pub decreases-loop-done : goal.decreases-loop-done
decreases-loop-done g l = l.part.blocks - l.done
