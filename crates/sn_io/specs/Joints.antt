-- Lanes, added to their buses.
use Rattle.std.specs.Prelude.{ℕ, ◌+◌, true, List, [], ◌∷◌}
use Rattle.sn_mem.specs.Layout.{audio_bus_words}
use Rattle.sn_mem.specs.declared.extents.Foot.{Foot}
use Rattle.sn_mem.specs.declared.moves.Moved.{Moved}
use Rattle.sn_mem.specs.Blocks.{samples_at}
use Rattle.sn_mem.specs.Words.{MayRead, MayWrite}
use Rattle.sn_io.specs.OverWords.{onto_block}

-- what a lane holds is added to its bus in block b, by the rule of Out.ar
abbrev pub with_lane : ℕ → Moved → List ℕ → List ℕ
with_lane b m ws = onto_block true b ws m.bus.at (samples_at ws (m.lane.at + 1))

-- one lane after the other, with a saturation after each
abbrev pub with_lanes : ℕ → List Moved → List ℕ → List ℕ
with_lanes b [] ws = ws
with_lanes b (m ∷ ms) ws = with_lanes b ms (with_lane b m ws)

-- the lane may be read, and the bus written
pub record MayAdd (f : Foot) (m : Moved) : Type 0 where
  pub lane : MayRead f m.lane.at audio_bus_words
  pub bus : MayWrite f m.bus.at audio_bus_words
