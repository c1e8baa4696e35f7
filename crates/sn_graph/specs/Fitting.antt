-- Lanes that wait for their buses: none waits for a bus that a synth touches, and each is added in its turn.
use Rattle.std.specs.Prelude.{◌≡◌, ◌⊎◌, ℕ, ◌*◌, ◌<◌, ◌==◌, Bool, true, not, ◌&&◌, List, [], ◌∷◌, ◌++◌}
use Rattle.std.specs.List.{filter}
use Rattle.sn_mem.specs.Layout.{audio_bus_words}
use Rattle.sn_ports.specs.Limits.{audio_bus_count}
use Rattle.sn_mem.specs.declared.moves.Moved.{Moved}
use Rattle.sn_mem.specs.Words.{touches}
use Rattle.sn_foot.specs.Reaches.{unmoved}
use Rattle.sn_graph.specs.declared.nodes.Voice.{Voice}
use Rattle.sn_graph.specs.Voices.{is_moved}
use Rattle.sn_graph.specs.Plans.{Step, renders, adds_lane}

-- those moves whose bus is audio bus n
abbrev pub on : ℕ → List Moved → List Moved
on n ms = filter (λ m. m.bus.at == audio_bus_words * n) ms

-- a synth touches bus n, and does not move it
abbrev pub touches_bus : Voice → ℕ → Bool
touches_bus v n = touches (unmoved v.reach) (audio_bus_words * n) && not (is_moved v.moves n)

-- the synth is one of these
abbrev pub IsIn : List Voice → Voice → Type 0
IsIn [] v = ⊥
IsIn (w ∷ vs) v = (w ≡ v) ⊎ IsIn vs v

-- The lanes that wait for each bus before steps, and after them. A synth, one of these, finds none that wait for a bus
-- that it touches, and puts the lanes of those that it moves after the others. A lane that is added is the first one
-- that waits for its bus.
pub data Fits (vs : List Voice) : (ℕ → List Moved) → List Step → (ℕ → List Moved) → Type 0 where
  at_end : {q r : ℕ → List Moved} → ((n : ℕ) → n < audio_bus_count → r n ≡ q n) → Fits vs q [] r
  rendered : {q p r : ℕ → List Moved} {rest : List Step} (v : Voice) → IsIn vs v
      → ((n : ℕ) → n < audio_bus_count → touches_bus v n ≡ true → q n ≡ []) → ((n : ℕ) → n < audio_bus_count → p n ≡ q n ++ on n v.moves) → Fits vs p rest r → Fits vs q (renders v.id v.moves ∷ rest) r
  added : {q p r : ℕ → List Moved} {rest : List Step} (m : Moved) (i : ℕ) → i < audio_bus_count → m.bus.at ≡ audio_bus_words * i
      → ((n : ℕ) → n < audio_bus_count → q n ≡ on n (m ∷ []) ++ p n) → Fits vs p rest r → Fits vs q (adds_lane m ∷ rest) r
