-- When no two of the buses, the buffers and the states of synths share a word.
use Rattle.std.specs.Prelude.{◌≡◌, ◌≤◌, ◌<◌, ℕ, ◌+◌, true, List, Option}
use Rattle.std.specs.List.{All}
use Rattle.sn_mem.specs.Layout.{bus_words}
use Rattle.sn_mem.specs.declared.extents.Extent.{Extent}
use Rattle.sn_mem.specs.declared.buffers.BufferPlace.{BufferPlace}
use Rattle.sn_mem.specs.Words.{has}
use Rattle.sn_mem.specs.Buffers.{MayBePlace, overlaps, live_places}

-- The buffers and the states lie after the buses, and no word is that of two of them.
pub record AreDisjoint (buffers : List (Option BufferPlace)) (states : List Extent) : Type 0 where
  pub places : All MayBePlace buffers
  pub behind : (x : ℕ) → has states x ≡ true → bus_words ≤ x
  pub apart : (x : ℕ) → overlaps x states + overlaps x (live_places buffers) ≤ 1

-- the buses, the buffers and the states lie below a word
pub record LieBelow (first : ℕ) (buffers : List (Option BufferPlace)) (states : List Extent) : Type 0 where
  pub buses : bus_words ≤ first
  pub places : (x : ℕ) → has (live_places buffers) x ≡ true → x < first
  pub held : (x : ℕ) → has states x ≡ true → x < first
