-- What the server holds, as a value.
use Rattle.std.specs.Prelude.{ℕ, ℤ, Bool, Option, List, [], ◌∷◌, ◌++◌}
use Rattle.sn_osc.specs.Shape.{MessageShape}
use Rattle.sn_mem.specs.declared.extents.Extent.{Extent}
use Rattle.sn_mem.specs.Buses.{AudioBus, ControlBus, audio_buses, control_buses}
use Rattle.sn_reply.specs.declared.replies.To.TheVariants.{Client}
use Rattle.sn_reply.specs.Replies.{ReplyShape}
use Rattle.sn_tree.specs.Trees.{Nodes, with_payloads}
use Rattle.sn_world.specs.declared.stage.Stage.{Stage}
use Rattle.sn_world.specs.Definitions.{Definitions, definitions_of}
use Rattle.sn_world.specs.Nodes.{Content, content_of, live_in}
use Rattle.sn_mem.specs.Buffers.{Buffer, buffers_of}
use Rattle.sn_world.specs.Buffers.{live_buffers}

-- The tree of nodes, the definitions, the audio buses, the control buses, and what is at each number of a buffer.
-- `notify` tells of each client whether it is told what happens to nodes. `next_id` is the id that is chosen next, if
-- one is left. Nothing changes the last two: the frames a second, and the words from which the pool gives.
pub record World : Type 0 where
  pub nodes : Nodes Content
  pub definitions : Definitions
  pub audio_buses : List AudioBus
  pub control_buses : List ControlBus
  pub buffers : List (Option Buffer)
  pub notify : List Bool
  pub next_id : Option ℤ
  pub rate : ℕ
  pub region : Extent

-- where the pool keeps the words of all synths and of all buffers
abbrev pub live_of : World → List Extent
live_of w = live_in w.nodes ++ live_buffers w.buffers

-- a world, and the replies so far
pub record Turn : Type 0 where
  pub world : World
  pub replies : List ReplyShape

-- one more reply, to the client with a number
abbrev pub replied : ℕ → MessageShape → Turn → Turn
replied client message t = record t { replies = t.replies ++ (record { to = Client client; message = message }) ∷ [] }

-- the world that a stage and its words stand for
abbrev pub world_of : Stage → List ℕ → World
world_of stage words = record {
  nodes = with_payloads (content_of words) stage.tree.attached;
  definitions = definitions_of stage.defs;
  audio_buses = audio_buses words;
  control_buses = control_buses words;
  buffers = buffers_of words stage.buffers;
  notify = stage.notify;
  next_id = stage.next_id;
  rate = stage.rate;
  region = stage.pool.region;
}

abbrev pub turn_of : Stage → List ℕ → List ReplyShape → Turn
turn_of stage words replies = record { world = world_of stage words; replies = replies }
