-- The world of a stage rests on the words of the buses and of the pool's region.
use Rattle.std.proofs.Common.{◌≡◌, ◌≤◌, ◌<◌, ◌+◌, inl, inr, ℕ, Bool, false, if◌then◌else◌, List, [], ◌∷◌, length, get_or, Option, Some, None, ap, ◌∙◌, arith}
use Rattle.std.proofs.lemmas.Bool.Decides.{leb_tells}
use Rattle.sn_mem.specs.declared.extents.Extent.{Extent}
use Rattle.sn_mem.specs.declared.buffers.BufferPlace.{BufferPlace}
use Rattle.sn_mem.specs.Words.{covers}
use Rattle.sn_mem.specs.Buffers.{Buffer, buffers_of, live_places, overlaps, place_extents}
use Rattle.sn_mem.specs.Buses.{AudioBus, ControlBus, audio_buses, control_buses}
use Rattle.sn_mem.proofs.BufferWords.{AgreesOn, nothing-overlaps, places-parts, same_buffers}
use Rattle.sn_mem.proofs.Meetings.{after}
use Rattle.sn_mem.proofs.BusLaws.{audio_same, control_same}
use Rattle.sn_tree.specs.Trees.{Nodes, none, node, with_payloads}
use Rattle.sn_world.specs.declared.stage.Held.{Held}
use Rattle.sn_world.specs.declared.stage.Held.TheVariants as held
use Rattle.sn_world.specs.declared.stage.Stage.{Stage}
use Rattle.sn_world.specs.Buffers.{AreEach, MayBeBuffer}
use Rattle.sn_world.specs.Nodes.{Content, content_of}
use Rattle.sn_world.specs.Pictures.{AreHeld, IsHeld, Pictures, held_extents, live_held}
use Rattle.sn_world.specs.World.{World, world_of}
use Rattle.sn_world.proofs.Walking.{parts_of, same_nodes}

-- a stage that stands for a world with some words does so with any that are enough
pub pictured_in : (stage : Stage) (us ws : List ℕ) → 10368 + stage.pool.region.len ≤ length us → Pictures stage ws → Pictures stage us
pictured_in stage us ws enough p = record {
  rate = p.rate;
  rate_fits = p.rate_fits;
  base = p.base;
  bounded = p.bounded;
  fits = enough;
  synths = p.synths;
  buffers = p.buffers;
  live = p.live;
  apart = p.apart;
  attached = p.attached;
  settled = p.settled;
  closed = p.closed;
}

-- ---- words of nodes and buffers lie before the end of the region

past_extent : (e : Extent) (x : ℕ) → e.at + e.len ≤ x → overlaps x (e ∷ []) ≡ 0
past_extent e x past =
    let off : covers e x ≡ false = after e x past in
    let nothing : ◌≡◌ {A = ℕ} (if covers e x then 1 else 0) 0 = ap {B = ℕ} (λ (b : Bool). if b then 1 else 0) off in
    omega (arith, nothing)

covered_to : (e : Extent) (x : ℕ) → 0 < overlaps x (e ∷ []) → x < e.at + e.len
covered_to e x more = elim (leb_tells (e.at + e.len) x) [
  | inl p ↦ absurd (omega (arith, more, past_extent e x p.1))
  | inr p ↦ p.1
]

own_to : (rate : ℕ) (region : Extent) (h : Held) (x : ℕ) → IsHeld rate region h → 0 < overlaps x (held_extents h) → x < region.at + region.len
own_to rate region held.Group x is more = absurd (omega (arith, more))
own_to rate region (held.Synth def controls state) x is more = omega (arith, is.within.1, covered_to state x more)

pub held_to : (rate : ℕ) (region : Extent) (t : Nodes Held) (x : ℕ) → AreHeld rate region t → 0 < overlaps x (live_held t) → x < region.at + region.len
held_to rate region none x are more = absurd (omega (arith, more))
held_to rate region (node l below after) x are more =
    let own = held_extents l.payload in
    let parts = parts_of l below after x in
    elim (leb_tells 1 (overlaps x own)) [
      | inl p ↦ own_to rate region l.payload x are.0 p.1
      | inr p ↦ (elim (leb_tells 1 (overlaps x (live_held below))) [
        | inl q ↦ held_to rate region below x are.1.0 q.1
        | inr q ↦ held_to rate region after x are.1.1 (omega (arith, more, parts, p.1, q.1))
      ])
    ]

place_to : (region : Extent) (p : Option BufferPlace) (x : ℕ) → MayBeBuffer region p → 0 < overlaps x (place_extents p) → x < region.at + region.len
place_to region None x is more = absurd (omega (arith, more))
place_to region (Some p) x is more = omega (arith, is.within.1, covered_to p.extent x more)

pub places_to : (region : Extent) (ps : List (Option BufferPlace)) (x : ℕ) → AreEach region ps → 0 < overlaps x (live_places ps) → x < region.at + region.len
unfolding AreEach
places_to region [] x are more = absurd (omega (arith, more, nothing-overlaps x))
places_to region (p ∷ ps) x are more = elim (leb_tells 1 (overlaps x (place_extents p))) [
  | inl q ↦ place_to region p x are.0 q.1
  | inr q ↦ places_to region ps x are.1 (omega (arith, more, places-parts p ps x, q.1))
]

-- ---- the world

nodes_same : (stage : Stage) (us ws : List ℕ) → Pictures stage ws → ((x : ℕ) → x < 10368 + stage.pool.region.len → get_or us x 0 ≡ get_or ws x 0) → with_payloads (content_of us) stage.tree.attached ≡ with_payloads (content_of ws) stage.tree.attached
unfolding AgreesOn
nodes_same stage us ws p same = same_nodes stage.tree.attached us ws (λ x more. same x (omega (arith, p.base, held_to stage.rate stage.pool.region stage.tree.attached x p.synths more)))

buffers_same : (stage : Stage) (us ws : List ℕ) → Pictures stage ws → ((x : ℕ) → x < 10368 + stage.pool.region.len → get_or us x 0 ≡ get_or ws x 0) → buffers_of us stage.buffers ≡ buffers_of ws stage.buffers
unfolding AgreesOn
buffers_same stage us ws p same = same_buffers stage.buffers us ws (λ x more. same x (omega (arith, p.base, places_to stage.pool.region stage.buffers x p.buffers.each more)))

pub world_same : (stage : Stage) (us ws : List ℕ) → Pictures stage ws → ((x : ℕ) → x < 10368 + stage.pool.region.len → get_or us x 0 ≡ get_or ws x 0) → world_of stage us ≡ world_of stage ws
world_same stage us ws p same =
    let now : World = world_of stage us in
    let nodes : Nodes Content = with_payloads (content_of ws) stage.tree.attached in
    let audio : List AudioBus = audio_buses ws in
    let control : List ControlBus = control_buses ws in
    ap (λ (n : Nodes Content). record now { nodes = n }) (nodes_same stage us ws p same)
    ∙ (ap (λ (a : List AudioBus). record now { nodes = nodes; audio_buses = a }) (audio_same us ws (λ x l. same x (omega (arith, l))))
    ∙ (ap (λ (c : List ControlBus). record now { nodes = nodes; audio_buses = audio; control_buses = c }) (control_same us ws (λ x from l. same x (omega (arith, l))))
    ∙ ap (λ (bs : List (Option Buffer)). record now { nodes = nodes; audio_buses = audio; control_buses = control; buffers = bs }) (buffers_same stage us ws p same)))
