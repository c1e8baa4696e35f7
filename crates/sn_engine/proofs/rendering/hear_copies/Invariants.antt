-- The sound so far. The memory stays.
use Rattle.std.proofs.Common.{◌≡◌, ◌≤◌, ◌+◌, ◌*◌, ◌++◌, ℕ, List}
use Rattle.std.specs.Prelude.{vec_capacity}
use Rattle.sn_world.specs.World.{world_of}
use Rattle.sn_play.specs.Spans.{ArePlayed}
use Rattle.sn_engine.specs.Outputs.{sounds}
use Rattle.sn_engine.proofs.rendering.hear_copies.Given as goal

abbrev pub invariant-loop-number : goal.invariant-loop-number
invariant-loop-number l = record {
  same : l.memory ≡ l.fn.memory;
  sound : (words : List ℕ) → ArePlayed l.part.stage.now l.part.first l.blocks l.part.copies l.part.settings.now.channels words l.fn.memory.words → l.sound.bytes ≡ l.fn.sound.bytes ++ sounds l.part.settings.now l.part.first l.number (world_of l.part.stage.now words);
  spare : l.fn.sound.spare ≤ l.sound.spare + 1536 * l.number;
  samples : 512 ≤ vec_capacity l.samples;
}
