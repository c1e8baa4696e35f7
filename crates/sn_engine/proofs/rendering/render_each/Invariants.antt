-- The blocks so far.
use Rattle.std.proofs.Common.{◌≡◌, ◌≤◌, ◌+◌, ◌*◌, ◌++◌, length}
use Rattle.std.specs.Prelude.{replicate, vec_capacity}
use Rattle.sn_quiet.specs.Walks.{walks}
use Rattle.sn_world.specs.Pictures.{Pictures}
use Rattle.sn_world.specs.World.{world_of}
use Rattle.sn_engine.specs.Outputs.{sounds}
use Rattle.sn_engine.specs.Planning.{LanesRest}
use Rattle.sn_engine.proofs.rendering.render_each.Given as goal

abbrev pub invariant-loop-number : goal.invariant-loop-number
invariant-loop-number g l = record {
  world : world_of l.part.stage.now l.memory.words ≡ walks l.part.first l.number (world_of l.part.stage.now l.fn.memory.words);
  resting : LanesRest l.part.stage.now (l.part.first + l.number) l.memory.words;
  pictures : Pictures l.part.stage.now l.memory.words;
  long : length l.memory.words ≡ length l.fn.memory.words;
  sound : l.sound.bytes ≡ l.fn.sound.bytes ++ sounds l.part.settings.now l.part.first l.number (world_of l.part.stage.now l.fn.memory.words);
  spare : l.fn.sound.spare ≤ l.sound.spare + 1536 * l.number;
  samples : 512 ≤ vec_capacity l.samples;
  rounds : l.memory.rounds ≡ l.fn.memory.rounds ++ replicate l.number (record { jobs = l.part.planned.now.jobs; crew = length l.fn.crew.hands.items });
  stores : l.memory.stores ≡ l.fn.memory.stores;
  crew : length l.crew.hands.items ≡ length l.fn.crew.hands.items;
}
