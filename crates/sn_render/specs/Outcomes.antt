-- What each outcome of a run says.
use Rattle.std.specs.Prelude.{◌≡◌, ◌⊎◌, ◌<◌, ◌≤◌, ◌+◌, ℕ, List, length, Option, IfSome, ⊤}
use Rattle.std.specs.Io.KnownBytes.{Appends, Consumes, IsAtEnd, Keeps}
use Rattle.sn_ports.specs.Limits.{most_stream}
use Rattle.sn_osc.specs.Shape.{Shape}
use Rattle.sn_pcm.specs.declared.settings.Settings.{Settings}
use Rattle.sn_pcm.specs.Sound.{data_len}
use Rattle.sn_render.specs.declared.outcome.Outcome.{Outcome}
use Rattle.sn_render.specs.declared.outcome.Outcome.TheVariants.{Done, NoMemory, BadWords, BadStream, LongStream, LongSound, ReadFault, SoundFault, ReplyFault}
use Rattle.sn_osc.specs.Frames.{Frames, StreamFaultAt}
use Rattle.sn_render.specs.Fronts.{TakesFront}
use Rattle.sn_render.specs.Play.{last_of, sound_of, replies_of}

-- the sound of so many blocks can't stand in a WAV header
abbrev pub IsTooLong : Settings → ℕ → Type 0
IsTooLong s blocks = 4294967295 < 36 + data_len s blocks

-- The answer that the bytes of a stream have: it is too long, or has a first fault, or its sound is too long, or it is
-- played.
abbrev pub HasAnswer : Settings → List ℕ → Outcome → Type 0
HasAnswer s bytes (LongStream n) = (n ≡ most_stream + 1) × (most_stream < length bytes)
HasAnswer s bytes (BadStream packet place fault) = (length bytes ≤ most_stream) × StreamFaultAt bytes packet place fault
HasAnswer s bytes (LongSound n) = (length bytes ≤ most_stream) × ((packets : List Shape) × Frames packets bytes × (n ≡ last_of s packets) × IsTooLong s n)
HasAnswer s bytes (Done n) = (length bytes ≤ most_stream) × ((packets : List Shape) × Frames packets bytes × (n ≡ last_of s packets) × (IsTooLong s n → ⊥))
HasAnswer s bytes NoMemory = ⊥
HasAnswer s bytes (BadWords i) = ⊥
HasAnswer s bytes ReadFault = ⊥
HasAnswer s bytes SoundFault = ⊥
HasAnswer s bytes ReplyFault = ⊥

-- An outcome of one of these four kinds is the stream's answer, if the source tells its bytes. `LongStream` has its
-- number told or not.
abbrev pub IsAnswer : Settings → Option (List ℕ) → Outcome → Type 0
IsAnswer s stream (LongStream n) = (n ≡ most_stream + 1) × IfSome stream (λ bytes. most_stream < length bytes)
IsAnswer s stream (BadStream packet place fault) = IfSome stream (λ bytes. HasAnswer s bytes (BadStream packet place fault))
IsAnswer s stream (LongSound n) = IfSome stream (λ bytes. HasAnswer s bytes (LongSound n))
IsAnswer s stream (Done n) = IfSome stream (λ bytes. HasAnswer s bytes (Done n))
IsAnswer s stream NoMemory = Unit {0}
IsAnswer s stream (BadWords i) = ⊥
IsAnswer s stream ReadFault = Unit {0}
IsAnswer s stream SoundFault = IfSome stream (λ bytes. (n : ℕ) × HasAnswer s bytes (Done n))
IsAnswer s stream ReplyFault = IfSome stream (λ bytes. (n : ℕ) × HasAnswer s bytes (Done n))

-- The stream is the frames of some packets, which give so many blocks, and each sink took what they give. Each is said
-- if it is told.
abbrev pub Played : Settings → Option (List ℕ) → ℕ → Option (List ℕ) → Option (List ℕ) → Option (List ℕ) → Option (List ℕ) → Type 0
Played s stream blocks sound_old sound_new replies_old replies_new = IfSome stream (λ bytes. (packets : List Shape) × Frames packets bytes
    × (blocks ≡ last_of s packets) × Appends sound_old sound_new (sound_of s packets) × Appends replies_old replies_new (replies_of s packets))

-- packets whose frames are the bytes of a stream, if they are told, and these are not too many
pub record ArePacketsOf (stream : Option (List ℕ)) (packets : List Shape) : Type 0 where
  pub bytes : List ℕ
  pub told : IfSome stream (λ xs. bytes ≡ xs)
  pub size : length bytes ≤ most_stream
  pub frames : Frames packets bytes

-- an outcome of a stream that has no packets, or from which none came
abbrev pub IsUnplayed : Outcome → Type 0
IsUnplayed NoMemory = ⊤
IsUnplayed (BadStream packet place fault) = ⊤
IsUnplayed (LongStream n) = ⊤
IsUnplayed ReadFault = ⊤
IsUnplayed (Done n) = ⊥
IsUnplayed (BadWords i) = ⊥
IsUnplayed (LongSound n) = ⊥
IsUnplayed SoundFault = ⊥
IsUnplayed ReplyFault = ⊥

-- A stream of packets whose sound isn't too long, and a prefix of what they give in each sink.
pub record PlayedPart (s : Settings) (stream sound_old sound_new replies_old replies_new : Option (List ℕ)) : Type 0 where
  pub packets : List Shape
  pub given : ArePacketsOf stream packets
  pub short : IsTooLong s (last_of s packets) → ⊥
  pub sound : TakesFront sound_old sound_new (sound_of s packets)
  pub replies : TakesFront replies_old replies_new (replies_of s packets)

-- What the sinks took at each answer but `Done`. If the stream, its length or the words are refused, or the source
-- failed, it is nothing. If a sink failed, it is a prefix of what the packets give. If memory ran out, it is nothing,
-- or such a prefix.
abbrev pub Writes : Settings → Option (List ℕ) → Outcome → Option (List ℕ) → Option (List ℕ) → Option (List ℕ) → Option (List ℕ) → Type 0
Writes s stream (Done n) sound_old sound_new replies_old replies_new = Unit {0}
Writes s stream (LongStream n) sound_old sound_new replies_old replies_new = Keeps sound_old sound_new × Keeps replies_old replies_new
Writes s stream (BadStream packet place fault) sound_old sound_new replies_old replies_new = Keeps sound_old sound_new × Keeps replies_old replies_new
Writes s stream (LongSound n) sound_old sound_new replies_old replies_new = Keeps sound_old sound_new × Keeps replies_old replies_new
Writes s stream ReadFault sound_old sound_new replies_old replies_new = Keeps sound_old sound_new × Keeps replies_old replies_new
Writes s stream (BadWords i) sound_old sound_new replies_old replies_new = Keeps sound_old sound_new × Keeps replies_old replies_new
Writes s stream SoundFault sound_old sound_new replies_old replies_new = PlayedPart s stream sound_old sound_new replies_old replies_new
Writes s stream ReplyFault sound_old sound_new replies_old replies_new = PlayedPart s stream sound_old sound_new replies_old replies_new
Writes s stream NoMemory sound_old sound_new replies_old replies_new = (Keeps sound_old sound_new × Keeps replies_old replies_new) ⊎ PlayedPart s stream sound_old sound_new replies_old replies_new

-- so many bytes were taken
abbrev pub Takes : ℕ → Option (List ℕ) → Option (List ℕ) → Type 0
Takes n old new = (front : List ℕ) × Consumes old new front × (length front ≡ n)

-- What is taken of the stream. It is all of it, except in four cases. Of one that is too long it is as many bytes as
-- show it. Of one on which the source failed it is a prefix of fewer bytes. If the words are refused it is nothing. If
-- memory ran out it is nothing, or all of a stream that isn't too long.
abbrev pub TakesStream : Outcome → Option (List ℕ) → Option (List ℕ) → Type 0
TakesStream (Done n) old new = IsAtEnd new
TakesStream (BadStream packet place fault) old new = IsAtEnd new
TakesStream (LongSound n) old new = IsAtEnd new
TakesStream (LongStream n) old new = Takes n old new
TakesStream ReadFault old new = (front : List ℕ) × Consumes old new front × (length front ≤ most_stream)
TakesStream SoundFault old new = IsAtEnd new
TakesStream ReplyFault old new = IsAtEnd new
TakesStream NoMemory old new = Keeps old new ⊎ (IsAtEnd new × IfSome old (λ bytes. length bytes ≤ most_stream))
TakesStream (BadWords i) old new = Keeps old new
