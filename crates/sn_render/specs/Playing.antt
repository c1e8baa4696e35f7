-- What each outcome says of packets that are played.
use Rattle.std.specs.Prelude.{◌≡◌, ◌⊎◌, ◌<◌, ◌^◌, ℕ, List, length, Option}
use Rattle.std.specs.List.{AllByRecursion}
use Rattle.std.specs.Io.KnownBytes.{Appends, Keeps}
use Rattle.sn_osc.specs.Shape.{Shape}
use Rattle.sn_pcm.specs.declared.settings.Settings.{Settings}
use Rattle.sn_engine.specs.Arriving.{IsSpelled}
use Rattle.sn_render.specs.declared.outcome.Outcome.{Outcome}
use Rattle.sn_render.specs.declared.outcome.Outcome.TheVariants.{Done, NoMemory, BadWords, BadStream, LongStream, LongSound, ReadFault, SoundFault, ReplyFault}
use Rattle.sn_render.specs.Fronts.{TakesFront}
use Rattle.sn_render.specs.Outcomes.{IsTooLong}
use Rattle.sn_render.specs.Play.{last_of, sound_of, replies_of}

-- fewer than 2 ^ 31 packets, each with a spelling of at most 2 ^ 27 bytes
pub record ArePlayable (packets : List Shape) : Type 0 where
  pub few : length packets < 2 ^ 31
  pub spelled : AllByRecursion IsSpelled packets

-- the outcome that packets have: their sound is too long, or they are played
abbrev pub HasEnd : Settings → List Shape → Outcome → Type 0
HasEnd s packets (LongSound n) = (n ≡ last_of s packets) × IsTooLong s n
HasEnd s packets (Done n) = (n ≡ last_of s packets) × (IsTooLong s n → ⊥)
HasEnd s packets NoMemory = ⊥
HasEnd s packets (BadWords i) = ⊥
HasEnd s packets (BadStream packet place fault) = ⊥
HasEnd s packets (LongStream n) = ⊥
HasEnd s packets ReadFault = ⊥
HasEnd s packets SoundFault = ⊥
HasEnd s packets ReplyFault = ⊥

-- an outcome of playing packets
abbrev pub IsEnd : Settings → List Shape → Outcome → Type 0
IsEnd s packets (LongSound n) = HasEnd s packets (LongSound n)
IsEnd s packets (Done n) = HasEnd s packets (Done n)
IsEnd s packets NoMemory = Unit {0}
IsEnd s packets SoundFault = IsTooLong s (last_of s packets) → ⊥
IsEnd s packets ReplyFault = IsTooLong s (last_of s packets) → ⊥
IsEnd s packets (BadWords i) = ⊥
IsEnd s packets (BadStream packet place fault) = ⊥
IsEnd s packets (LongStream n) = ⊥
IsEnd s packets ReadFault = ⊥

-- an outcome before any byte is written
abbrev pub IsUnreached : Settings → List Shape → Outcome → Type 0
IsUnreached s packets (LongSound n) = HasEnd s packets (LongSound n)
IsUnreached s packets NoMemory = Unit {0}
IsUnreached s packets (Done n) = ⊥
IsUnreached s packets SoundFault = ⊥
IsUnreached s packets ReplyFault = ⊥
IsUnreached s packets (BadWords i) = ⊥
IsUnreached s packets (BadStream packet place fault) = ⊥
IsUnreached s packets (LongStream n) = ⊥
IsUnreached s packets ReadFault = ⊥

-- each sink took what the packets give, in so many blocks
pub record PlayedPackets (s : Settings) (packets : List Shape) (blocks : ℕ) (sound_old sound_new replies_old replies_new : Option (List ℕ)) : Type 0 where
  pub blocks_are : blocks ≡ last_of s packets
  pub sound : Appends sound_old sound_new (sound_of s packets)
  pub replies : Appends replies_old replies_new (replies_of s packets)

-- each sink took a prefix of it
pub record PlayedFront (s : Settings) (packets : List Shape) (sound_old sound_new replies_old replies_new : Option (List ℕ)) : Type 0 where
  pub short : IsTooLong s (last_of s packets) → ⊥
  pub sound : TakesFront sound_old sound_new (sound_of s packets)
  pub replies : TakesFront replies_old replies_new (replies_of s packets)

-- What the sinks took at each outcome but `Done`. If the sound is too long, it is nothing. If a sink failed, it is a
-- prefix of what the packets give. If memory ran out, it is nothing, or such a prefix.
abbrev pub WritesPackets : Settings → List Shape → Outcome → Option (List ℕ) → Option (List ℕ) → Option (List ℕ) → Option (List ℕ) → Type 0
WritesPackets s packets (Done n) sound_old sound_new replies_old replies_new = Unit {0}
WritesPackets s packets (LongSound n) sound_old sound_new replies_old replies_new = Keeps sound_old sound_new × Keeps replies_old replies_new
WritesPackets s packets SoundFault sound_old sound_new replies_old replies_new = PlayedFront s packets sound_old sound_new replies_old replies_new
WritesPackets s packets ReplyFault sound_old sound_new replies_old replies_new = PlayedFront s packets sound_old sound_new replies_old replies_new
WritesPackets s packets NoMemory sound_old sound_new replies_old replies_new =
    (Keeps sound_old sound_new × Keeps replies_old replies_new) ⊎ PlayedFront s packets sound_old sound_new replies_old replies_new
WritesPackets s packets (BadWords i) sound_old sound_new replies_old replies_new = ⊥
WritesPackets s packets (BadStream packet place fault) sound_old sound_new replies_old replies_new = ⊥
WritesPackets s packets (LongStream n) sound_old sound_new replies_old replies_new = ⊥
WritesPackets s packets ReadFault sound_old sound_new replies_old replies_new = ⊥
