-- Audio buses that are moved onto lanes.
use Rattle.std.specs.Prelude.{◌≡◌, ◌<◌, ℕ, zero, suc, ◌+◌, ◌-◌, ◌==◌, Bool, true, not, ◌&&◌, nat_le, nat_lt, if◌then◌else◌, List, [], ◌∷◌, ◌++◌, length, slice_index}
use Rattle.std.specs.List.{list_all, list_any}
use Rattle.sn_mem.specs.Layout.{audio_bus_words}
use Rattle.sn_mem.specs.declared.extents.Extent.{Extent}
use Rattle.sn_mem.specs.declared.extents.Foot.{Foot}
use Rattle.sn_mem.specs.declared.moves.Moved.{Moved}
use Rattle.sn_mem.specs.Words.{covers, has}
use Rattle.sn_mem.specs.Meetings.{meet}
use Rattle.sn_mem.specs.Blocks.{table}

-- ---- moves

-- the buses, the lanes, and the buses with their lanes
abbrev pub buses_in : List Moved → List Extent
buses_in [] = []
buses_in (m ∷ ms) = m.bus ∷ buses_in ms

abbrev pub lanes_in : List Moved → List Extent
lanes_in [] = []
lanes_in (m ∷ ms) = m.lane ∷ lanes_in ms

abbrev pub places_in : List Moved → List Extent
places_in [] = []
places_in (m ∷ ms) = m.bus ∷ (m.lane ∷ places_in ms)

-- no two extents share a word
abbrev pub are_apart : List Extent → Bool
are_apart [] = true
are_apart (e ∷ es) = not (list_any (meet e) es) && are_apart es

-- an extent of 65 of so many words
abbrev pub is_whole : ℕ → Extent → Bool
is_whole size e = (e.len == audio_bus_words) && (nat_le (e.at + audio_bus_words) size && nat_lt (e.at + audio_bus_words) 4294967296)

-- buses and lanes have 65 of so many words each, and share none
abbrev pub are_moves : ℕ → List Moved → Bool
are_moves size ms = list_all (is_whole size) (places_in ms) && are_apart (places_in ms)

-- a bus and its lane have 65 words each, all of them with numbers of 32 bits
pub record HasRoom (m : Moved) : Type 0 where
  pub bus : m.bus.len ≡ audio_bus_words
  pub bus_end : m.bus.at + audio_bus_words < 4294967296
  pub lane : m.lane.len ≡ audio_bus_words
  pub lane_end : m.lane.at + audio_bus_words < 4294967296

-- ---- words and feet through lanes

-- where a word of the view stands: a bus and its lane change places
abbrev pub place_in : List Moved → ℕ → ℕ
place_in [] x = x
place_in (m ∷ ms) x =
    if covers m.bus x then m.lane.at + (x - m.bus.at)
    else if covers m.lane x then m.bus.at + (x - m.lane.at)
    else place_in ms x

-- the words of a run of the view stand in a row, from a place on
pub record StandInRow (ms : List Moved) (run : Extent) (place : ℕ) : Type 0 where
  pub below : place + run.len < 4294967296
  pub each : (i : ℕ) → i < run.len → place_in ms (run.at + i) ≡ place + i

-- the words with each bus and its lane exchanged
unfoldable pub exchanged : List Moved → List ℕ → List ℕ
exchanged ms ws = table (λ x. slice_index ws (place_in ms x)) (length ws)

-- the words below a number of which a test holds, each by itself
unfoldable pub words_where : (ℕ → Bool) → ℕ → List Extent
words_where test zero = []
words_where test (suc n) = words_where test n ++ (if test n then record { at = n; len = 1 } ∷ [] else [])

-- a word of the view is not one of a lane, and its place is one of these
abbrev pub is_through : List Moved → ℕ → List Extent → ℕ → Bool
is_through ms size es x = are_moves size ms && (not (has (lanes_in ms) x) && has es (place_in ms x))

-- A foot through lanes: of a bus what it has of its lane, nothing of a lane, and of all else the same. If the list is
-- not one of moves, it has nothing.
abbrev pub foot_through : List Moved → ℕ → Foot → Foot
foot_through ms size f = record { reads = words_where (is_through ms size f.reads) size; writes = words_where (is_through ms size f.writes) size }

-- ---- changes through lanes

-- the words as a change sees them: those of the lanes in place of the buses'
unfoldable pub seen_through : List Moved → List ℕ → List ℕ
seen_through ms ws = table (λ x. slice_index ws (if has (buses_in ms) x then place_in ms x else x)) (length ws)

-- What a change makes of the words: what it made of a bus goes to the lane, the bus stays as it was, and all else is as
-- it was made.
unfoldable pub laid : List Moved → List ℕ → List ℕ → List ℕ
laid ms us ws = table (λ x. if has (buses_in ms) x then slice_index ws x else if has (lanes_in ms) x then slice_index us (place_in ms x) else slice_index us x) (length ws)

abbrev pub through : List Moved → (List ℕ → List ℕ) → List ℕ → List ℕ
through ms change ws = laid ms (change (seen_through ms ws)) ws

-- the same if the words have room for the moves; or else nothing is changed
abbrev pub through_if : List Moved → (List ℕ → List ℕ) → List ℕ → List ℕ
through_if ms change ws = if are_moves (length ws) ms then through ms change ws else ws
