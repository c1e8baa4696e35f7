-- The world before anything happened.
use Rattle.std.specs.Prelude.{◌≡◌, ℕ, pos, negsuc, false, [], replicate, Some, None}
use Rattle.std.specs.FinMap as finite
use Rattle.sn_mem.specs.Layout.{bus_words}
use Rattle.sn_ports.specs.Limits.{block_frames, audio_bus_count, control_bus_count, buffer_count}
use Rattle.sn_mem.specs.Buses.{AudioBus, ControlBus}
use Rattle.sn_tree.specs.declared.node.NodeKind.TheVariants as kinds
use Rattle.sn_tree.specs.Trees.{none, leaf}
use Rattle.sn_world.specs.declared.stage.Held.TheVariants as held
use Rattle.sn_world.specs.declared.stage.Stage.{Stage}
use Rattle.sn_world.specs.Definitions.{definitions_of}
use Rattle.sn_world.specs.Nodes.{group}
use Rattle.sn_world.specs.World.{World}

-- no block wrote the bus, and it holds 0
abbrev pub silent_audio : AudioBus
silent_audio = record { written = 0; samples = replicate block_frames (pos 0) }

abbrev pub silent_control : ControlBus
silent_control = record { written = 0; value = pos 0 }

-- At so many frames a second, with so many words in the pool, and for so many clients: the root group alone, no
-- definitions, silent buses, no buffers, and nobody is notified. The pool's words come after those of the buses. The id
-- that is chosen first is -2.
unfoldable pub opening : ℕ → ℕ → ℕ → World
opening rate memory clients = record {
  nodes = leaf (pos 0) kinds.Group group;
  definitions = finite.empty;
  audio_buses = replicate audio_bus_count silent_audio;
  control_buses = replicate control_bus_count silent_control;
  buffers = replicate buffer_count None;
  notify = replicate clients false;
  next_id = Some (negsuc 1);
  rate = rate;
  region = record { at = bus_words; len = memory };
}

-- a stage that stands for it, if all words are 0
pub record IsOpening (rate memory clients : ℕ) (stage : Stage) : Type 0 where
  pub tree : stage.tree ≡ record { attached = leaf (pos 0) kinds.Group held.Group; detached = none; journal = None }
  pub definitions : definitions_of stage.defs ≡ finite.empty
  pub pool : stage.pool ≡ record { region = record { at = bus_words; len = memory }; live = []; journal = None }
  pub buffers : stage.buffers ≡ replicate buffer_count None
  pub notify : stage.notify ≡ replicate clients false
  pub next : stage.next_id ≡ Some (negsuc 1)
  pub frames : stage.rate ≡ rate
