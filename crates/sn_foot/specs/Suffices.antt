-- A foot that suffices for what nodes hold.
use Rattle.std.specs.Prelude.{◌≡◌, ◌+◌, ◌<◌, ℕ, List, map, Option}
use Rattle.std.specs.List.{All}
use Rattle.sn_mem.specs.Layout.{bus_words}
use Rattle.sn_mem.specs.declared.extents.Extent.{Extent}
use Rattle.sn_mem.specs.declared.extents.Foot.{Foot}
use Rattle.sn_mem.specs.declared.buffers.BufferPlace.{BufferPlace}
use Rattle.sn_def.specs.Defs.{definition_of}
use Rattle.sn_synth.specs.Conditions.{MayRun}
use Rattle.sn_tree.specs.Trees.{Label}
use Rattle.sn_world.specs.Buffers.{AreEach}
use Rattle.sn_world.specs.Pictures.{IsHeld}
use Rattle.sn_world.specs.declared.stage.Held.{Held}
use Rattle.sn_world.specs.declared.stage.Held.TheVariants as held

-- a synth may run with it, and a group asks for nothing
abbrev pub Suffices : Foot → List (Option BufferPlace) → Held → Type 0
Suffices foot buffers held.Group = Unit {0}
Suffices foot buffers (held.Synth def controls state) = MayRun foot buffers controls (definition_of def.value) state

-- What some nodes of a world hold: the states of synths and the buffers lie in the pool's region, which begins after
-- the buses.
pub record AreOfWorld (rate : ℕ) (region : Extent) (buffers : List (Option BufferPlace)) (hs : List Held) : Type 0 where
  pub base : region.at ≡ bus_words
  pub bounded : region.at + region.len < 4294967296
  pub each : AreEach region buffers
  pub held : All (IsHeld rate region) hs

-- what nodes hold, in their order
abbrev pub held_by : List (Label Held) → List Held
held_by ls = map (λ l. l.payload) ls
