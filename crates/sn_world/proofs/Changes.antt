-- What a change of some words, or of the definitions, leaves of a world.
use Rattle.std.proofs.Common.{◌≡◌, ◌≤◌, ◌<◌, ℕ, List, Option, length, get_or, ap, ◌∙◌, arith}
use Rattle.sn_mem.specs.Buses.{AudioBus, control_buses}
use Rattle.sn_mem.proofs.BusLaws.{audio_same}
use Rattle.sn_reply.specs.Replies.{ReplyShape}
use Rattle.sn_tree.specs.Trees.{Nodes, with_payloads}
use Rattle.sn_world.specs.declared.stage.Stage.{Stage}
use Rattle.sn_world.specs.Nodes.{Content, content_of}
use Rattle.sn_mem.specs.Buffers.{Buffer, buffers_of}
use Rattle.sn_world.specs.Pictures.{Pictures}
use Rattle.sn_world.specs.World.{World, Turn, world_of, turn_of}
use Rattle.sn_mem.proofs.BufferWords.{AgreesOn, same_buffers}
use Rattle.sn_world.proofs.Walking.{same_nodes, held_from}
use Rattle.sn_world.proofs.BufferLaws.{places_from}

-- other words, as many, are a picture too
pub pictured_again : (stage : Stage) (us ws : List ℕ) → length us ≡ length ws → Pictures stage ws → Pictures stage us
pictured_again stage us ws len p = record {
  rate = p.rate;
  rate_fits = p.rate_fits;
  base = p.base;
  bounded = p.bounded;
  fits = omega (arith, p.fits, len);
  synths = p.synths;
  buffers = p.buffers;
  live = p.live;
  apart = p.apart;
  attached = p.attached;
  settled = p.settled;
  closed = p.closed;
}

-- the nodes rest on the words after the buses
pub nodes_kept : (stage : Stage) (us ws : List ℕ) → Pictures stage ws → ((k : ℕ) → 10368 ≤ k → get_or us k 0 ≡ get_or ws k 0) → with_payloads (content_of us) stage.tree.attached ≡ with_payloads (content_of ws) stage.tree.attached
unfolding AgreesOn
nodes_kept stage us ws p same = same_nodes stage.tree.attached us ws (λ x more. same x (omega (arith, p.base, held_from stage.rate stage.pool.region stage.tree.attached x p.synths more)))

-- and so do the buffers
pub buffers_kept : (stage : Stage) (us ws : List ℕ) → Pictures stage ws → ((k : ℕ) → 10368 ≤ k → get_or us k 0 ≡ get_or ws k 0) → buffers_of us stage.buffers ≡ buffers_of ws stage.buffers
unfolding AgreesOn
buffers_kept stage us ws p same = same_buffers stage.buffers us ws (λ x more. same x (omega (arith, p.base, places_from stage.pool.region stage.buffers x p.buffers.each more)))

-- if all words but those of the control buses stay, only the control buses change
pub control_buses_changed : (stage : Stage) (us ws : List ℕ) (replies : List ReplyShape) → Pictures stage ws → ((k : ℕ) → k < 8320 → get_or us k 0 ≡ get_or ws k 0) → ((k : ℕ) → 10368 ≤ k → get_or us k 0 ≡ get_or ws k 0)
    → turn_of stage us replies ≡ (let t : Turn = turn_of stage ws replies in record t { world = record t.world { control_buses = control_buses us } })
control_buses_changed stage us ws replies p below above =
    let now : World = world_of stage us in
    ap (λ (n : Nodes Content). let t : Turn = record { world = record now { nodes = n }; replies = replies } in t) (nodes_kept stage us ws p above)
    ∙ ap (λ (a : List AudioBus). let t : Turn = record { world = record now { nodes = with_payloads (content_of ws) stage.tree.attached; audio_buses = a }; replies = replies } in t) (audio_same us ws below)
    ∙ ap (λ (bs : List (Option Buffer)). let t : Turn = record { world = record (world_of stage ws) { control_buses = control_buses us; buffers = bs }; replies = replies } in t) (buffers_kept stage us ws p above)
