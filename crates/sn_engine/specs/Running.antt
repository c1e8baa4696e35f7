-- What an engine holds, as a value, and its steps.
use Rattle.std.specs.Prelude.{◌≡◌, ℕ, ◌+◌, ◌-◌, List, [], ◌++◌, replicate, Option, Bool, if◌then◌else◌}
use Rattle.sn_pcm.specs.declared.settings.Settings.{Settings}
use Rattle.sn_pcm.specs.Pcm.{pcm}
use Rattle.sn_queue.specs.Waiting.{WaitingList}
use Rattle.sn_reply.specs.Frames.{with_frames}
use Rattle.sn_world.specs.World.{World, Turn}
use Rattle.sn_world.specs.Settling.{settled}
use Rattle.sn_world.specs.Walk.{walk}
use Rattle.sn_world.specs.Opening.{opening}
use Rattle.sn_engine.specs.declared.standing.Standing.{Standing}
use Rattle.sn_engine.specs.declared.standing.Standing.TheVariants.{Settled, Bounded, Rendered}
use Rattle.sn_engine.specs.declared.standing.Flow.{Flow}
use Rattle.sn_engine.specs.declared.standing.Flow.TheVariants.{On, Quit}
use Rattle.sn_clash.specs.declared.clash.Clash.{Clash}
use Rattle.sn_engine.specs.Boundary.{unsaid, turn_at, clashes_at, replies_at, waiting_at, quits_at}
use Rattle.sn_engine.specs.Outputs.{outputs}

-- the settings, which nothing changes; the world, what waits, the clashes of the last boundary, the number of the next
-- block and how far it is; and the bytes that are still to be written: of the sound, and for each client of the replies
pub record Running : Type 0 where
  pub settings : Settings
  pub world : World
  pub waiting : WaitingList
  pub clashes : List Clash
  pub block : ℕ
  pub standing : Standing
  pub sound : List ℕ
  pub replies : List (List ℕ)

-- an engine before anything happened, whose block 0 begins at a time, in which so many entries may wait, for so many
-- clients
abbrev pub opened : Settings → ℕ → Option ℕ → ℕ → Running
opened s base limit clients = record {
  settings = s;
  world = opening s.rate s.memory clients;
  waiting = record { base = base; rate = s.rate; limit = limit; puts = 0; waiting = [] };
  clashes = [];
  block = 0;
  standing = Settled;
  sound = [];
  replies = replicate clients [];
}

-- the boundary before the next block
abbrev pub at_boundary : Running → Running
at_boundary r = record r {
  world = (turn_at r.block r.waiting r.world).world;
  waiting = waiting_at r.block r.waiting r.world;
  clashes = clashes_at r.block r.waiting r.world;
  standing = Bounded;
  replies = with_frames 0 (replies_at r.block r.waiting r.clashes r.world) r.replies;
}

-- nothing but the world, which entries wait, the clashes, how far it is and what is to be sent has changed
abbrev pub KeepsRest : Running → Running → Type 0
KeepsRest old new = new ≡ record old { world = new.world; waiting = record old.waiting { waiting = new.waiting.waiting }; clashes = new.clashes; standing = new.standing; replies = new.replies }

abbrev pub flow_of : Bool → Flow
flow_of quits = if quits then Quit else On

-- whether the server ends at it
abbrev pub flow_at : Running → Flow
flow_at r = flow_of (quits_at r.block r.waiting r.world)

-- the next block, and its sound
abbrev pub with_block : Running → Running
with_block r = record r {
  world = walk r.block r.world;
  block = r.block + 1;
  standing = Rendered;
  sound = r.sound ++ pcm r.settings (outputs r.settings r.block (walk r.block r.world));
}

-- the world and the replies after the block before was settled
abbrev pub turn_settled : Running → Turn
turn_settled r = settled (r.block - 1) (unsaid r.world)

-- the settling of the block before
abbrev pub with_settled : Running → Running
with_settled r = record r { standing = Settled; world = (turn_settled r).world; replies = with_frames 0 (turn_settled r).replies r.replies }
