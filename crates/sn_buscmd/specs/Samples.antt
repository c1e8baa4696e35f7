-- Samples of a buffer, and places for one.
use Rattle.std.specs.Prelude.{◌≡◌, ◌≤◌, ◌<◌, ◌+◌, ◌*◌, ℕ, false, List, length, slice_index, ◌++◌, pos, codes, Option, Some, None, Result, Ok, Err, [], ◌∷◌}
use Rattle.sn_ports.specs.Limits.{most_channels}
use Rattle.sn_ports.specs.declared.failed.NoMemory.{NoMemory}
use Rattle.sn_mem.specs.declared.extents.Extent.{Extent}
use Rattle.sn_mem.specs.Words.{covers}
use Rattle.sn_pool.specs.Pools.{PoolState, times, room_of, mark_of, saved_of}
use Rattle.sn_pool.specs.Regions.{IsFree, least_place}
use Rattle.sn_mem.specs.declared.buffers.BufferPlace.{BufferPlace}
use Rattle.sn_world.specs.declared.buffer_repetition.NewBuffer.{NewBuffer}
use Rattle.sn_osc.specs.Shape.{Argument, int, arguments, MessageShape}
use Rattle.sn_world.specs.declared.buffer_repetition.BufferNumber.{BufferNumber}
use Rattle.sn_world.specs.BufferNumbers.{at_number}
use Rattle.sn_mem.specs.Buffers.{place_extents}

-- all words but those of an extent stay as they were
pub record KeepsAround (e : Extent) (old new : List ℕ) : Type 0 where
  pub len : length new ≡ length old
  pub around : (k : ℕ) → covers e k ≡ false → slice_index new k ≡ slice_index old k

-- the live extents, without that of a buffer, if there is one
abbrev pub AreLeft : Option BufferPlace → List Extent → List Extent → Type 0
AreLeft o live left = (e : Extent) → times e live ≡ times e (place_extents o) + times e left

-- what `/b_query` tells of the places of buffers
abbrev pub place_info : ℕ → Option BufferPlace → List Argument
place_info rate None = int (pos 0) ∷ int (pos 0) ∷ int (pos 0) ∷ []
place_info rate (Some p) = int (pos p.frames) ∷ int (pos p.channels) ∷ int (pos rate) ∷ []

abbrev pub place_infos : ℕ → List (Option BufferPlace) → List BufferNumber → List Argument
place_infos rate places [] = []
place_infos rate places (r ∷ rs) = int r.number ∷ place_info rate (at_number places r.number) ++ place_infos rate places rs

abbrev pub place_answer : ℕ → List (Option BufferPlace) → List BufferNumber → MessageShape
place_answer rate places rs = record { address = codes "/b_info"; body = arguments (place_infos rate places rs) }

-- a buffer that can be told of
pub record CanBeSaid (p : BufferPlace) : Type 0 where
  pub short : p.frames < 2147483648
  pub few : p.channels ≤ most_channels

-- a buffer that is made can be told of
pub record IsNew (r : NewBuffer) : Type 0 where
  pub frames : 1 ≤ r.frames
  pub short : r.frames < 2147483648
  pub channels : 1 ≤ r.channels
  pub few : r.channels ≤ most_channels

-- the words of a buffer, if there is one, are live
abbrev pub IsLive : Option BufferPlace → PoolState → Type 0
IsLive None pool = Unit {0}
IsLive (Some p) pool = 0 < times p.extent pool.live

-- and the open journal has room for giving them back
abbrev pub MayGo : Option BufferPlace → PoolState → Type 0
MayGo o pool = IsLive o pool × (1 ≤ room_of pool.journal)

-- they were given back
pub record IsGone (o : Option BufferPlace) (old new : PoolState) : Type 0 where
  pub left : AreLeft o old.live new.live
  pub region : new.region ≡ old.region
  pub mark : mark_of new.journal ≡ mark_of old.journal
  pub saved : saved_of new.journal ≡ saved_of old.journal

-- A new buffer has the least place that is free after the one with its number was given back, and it alone is then
-- live.
pub record IsPlaced (o : Option BufferPlace) (r : NewBuffer) (old new : PoolState) (p : BufferPlace) : Type 0 where
  pub frames : p.frames ≡ r.frames
  pub channels : p.channels ≡ r.channels
  pub size : p.extent.len ≡ r.frames * r.channels
  pub left : List Extent
  pub are_left : AreLeft o old.live left
  pub free : IsFree old.region left (r.frames * r.channels) p.extent.at
  pub least : least_place old.region left (r.frames * r.channels) ≡ Some p.extent.at
  pub live : (e : Extent) → times e new.live ≡ times e (p.extent ∷ []) + times e left
  pub region : new.region ≡ old.region
  pub journal : new.journal ≡ None

pub record HasNoPlace (o : Option BufferPlace) (r : NewBuffer) (old : PoolState) : Type 0 where
  pub left : List Extent
  pub are_left : AreLeft o old.live left
  pub none : least_place old.region left (r.frames * r.channels) ≡ None

-- If no place was found, the pool is as it was.
abbrev pub Places : Option BufferPlace → NewBuffer → PoolState → PoolState → Result (Option BufferPlace) NoMemory → Type 0
Places o r old new (Ok (Some p)) = IsPlaced o r old new p
Places o r old new (Ok None) = HasNoPlace o r old × (new ≡ old)
Places o r old new (Err e) = new ≡ old
