-- How packets grow that take in samples.
use Rattle.std.specs.Prelude.{◌≡◌, ◌+◌, ◌*◌, ◌≤◌, ℕ, true, List, length}
use Rattle.std.specs.List.{AllByRecursion}
use Rattle.sn_osc.specs.Shape.{MessageShape, Shape, Shapes}
use Rattle.sn_osc.specs.Bytes.{is_message, message_bytes, is_packet, are_packets, packet_bytes, elements_bytes}
use Rattle.sn_osc.specs.Grammar.{Spells}

-- so many bytes, of which the samples that used up room are not more than the room
abbrev pub GrowsBy : ℕ → ℕ → ℕ → ℕ → Type 0
GrowsBy old new room_old room_new = new + 4 * room_new ≤ 2 * old + 4 * room_old

-- a message that is valid stays so
pub record MessageGrows (old new : MessageShape) (room_old room_new : ℕ) : Type 0 where
  pub valid : is_message old ≡ true → is_message new ≡ true
  pub bytes : GrowsBy (length (message_bytes old)) (length (message_bytes new)) room_old room_new

pub record Grows (old new : Shape) (room_old room_new : ℕ) : Type 0 where
  pub valid : (deep around : ℕ) → is_packet deep around old ≡ true → is_packet deep around new ≡ true
  pub bytes : GrowsBy (length (packet_bytes old)) (length (packet_bytes new)) room_old room_new

pub record AllGrow (old new : Shapes) (room_old room_new : ℕ) : Type 0 where
  pub valid : (deep around : ℕ) → are_packets deep around old ≡ true → are_packets deep around new ≡ true
  pub bytes : GrowsBy (length (elements_bytes old)) (length (elements_bytes new)) room_old room_new

-- It has a spelling of at most so many bytes.
abbrev pub IsSpelledWithin : Shape → ℕ → Type 0
IsSpelledWithin x most = (bytes : List ℕ) × Spells x bytes × (length bytes ≤ most)

-- each packet has a spelling of at most so many bytes
abbrev pub AllSpelledWithin : ℕ → List Shape → Type 0
AllSpelledWithin most xs = AllByRecursion (λ x. IsSpelledWithin x most) xs
