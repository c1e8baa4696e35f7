-- Words with lanes that wait to be added, compared with those of the walk.
use Rattle.std.specs.Prelude.{◌≡◌, ◌⊎◌, ◌≤◌, ◌<◌, ℕ, ◌+◌, ◌*◌, Bool, true, false, List, [], ◌∷◌, ℤ, length, slice_index}
use Rattle.sn_mem.specs.Layout.{audio_bus_words, audio_words}
use Rattle.sn_ports.specs.Limits.{audio_bus_count}
use Rattle.sn_mem.specs.declared.extents.Foot.{Foot}
use Rattle.sn_mem.specs.declared.moves.Moved.{Moved}
use Rattle.sn_mem.specs.Lanes.{buses_in}
use Rattle.sn_mem.specs.Words.{covers, has, touches, writes}
use Rattle.sn_io.specs.ByFoot.{Agree}
use Rattle.sn_io.specs.Joints.{with_lanes}
use Rattle.sn_io.specs.OverWords.{onto_block}

-- On each audio bus the words of the walk are those in which the lanes that wait for it are added; elsewhere, except in
-- lanes, they are the same.
pub record Waits (b : ℕ) (is_lane : ℕ → Bool) (queue : ℕ → List Moved) (walked laned : List ℕ) : Type 0 where
  pub long : length walked ≡ length laned
  pub buses : (n x : ℕ) → n < audio_bus_count → audio_bus_words * n ≤ x → x < audio_bus_words * n + audio_bus_words → slice_index walked x ≡ slice_index (with_lanes b (queue n) laned) x
  pub others : (x : ℕ) → audio_words ≤ x → is_lane x ≡ false → slice_index walked x ≡ slice_index laned x

-- lanes of bus n: their words are words of lanes
pub record IsOn (is_lane : ℕ → Bool) (n : ℕ) (m : Moved) : Type 0 where
  pub bus : m.bus.at ≡ audio_bus_words * n
  pub lane : (j : ℕ) → m.lane.at ≤ j → j < m.lane.at + audio_bus_words → is_lane j ≡ true

-- the move is one of these
abbrev pub IsAmong : List Moved → Moved → Type 0
IsAmong [] m = ⊥
IsAmong (k ∷ ms) m = (k ≡ m) ⊎ IsAmong ms m

-- A change puts signals onto the buses of some moves in block b. Except for these buses it sees and changes a foot
-- alone, and which signals it puts depends on that foot alone.
pub record Puts (b : ℕ) (f : Foot) (ms : List Moved) (change : List ℕ → List ℕ) : Type 0 where
  pub long : (ws : List ℕ) → length (change ws) ≡ length ws
  pub keeps : (ws : List ℕ) (x : ℕ) → writes f x ≡ false → has (buses_in ms) x ≡ false → slice_index (change ws) x ≡ slice_index ws x
  pub agree : (us ws : List ℕ) → Agree (touches f) us ws → Agree (touches f) (change us) (change ws)
  pub puts : (m : Moved) → IsAmong ms m → (us : List ℕ) → (xs : List ℤ) × ((ws : List ℕ) → Agree (touches f) us ws → (x : ℕ) → covers m.bus x ≡ true → slice_index (change ws) x ≡ slice_index (onto_block true b ws m.bus.at xs) x)
