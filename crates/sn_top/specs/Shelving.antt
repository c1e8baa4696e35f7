-- What each outcome says of a stream whose commands name files on a shelf.
use Rattle.std.specs.Prelude.{◌≡◌, ◌⊎◌, ℕ, List, Option, Some, IfSome}
use Rattle.std.specs.Io.KnownBytes.{IsAtEnd, Keeps}
use Rattle.sn_osc.specs.Shape.{Shape}
use Rattle.sn_pcm.specs.declared.settings.Settings.{Settings}
use Rattle.sn_render.specs.Outcomes.{ArePacketsOf, IsAnswer, TakesStream}
use Rattle.sn_render.specs.Playing.{IsEnd, PlayedPackets, PlayedFront}
use Rattle.sn_render.specs.Statuses.{outcome_status}
use Rattle.sn_render.specs.declared.outcome.Outcome.{Outcome}
use Rattle.sn_render.specs.declared.outcome.Outcome.TheVariants.{Done, NoMemory, BadWords, BadStream, LongStream, LongSound, ReadFault, SoundFault, ReplyFault}
use Rattle.sn_shelf.specs.Asking.{AllKeepUnasked}
use Rattle.sn_shelf.specs.Files.{File}
use Rattle.sn_shelf.specs.Expanded.{expanded_packets}
use Rattle.sn_top.specs.declared.shelving.ShelfOutcome.{ShelfOutcome}
use Rattle.sn_top.specs.declared.shelving.ShelfOutcome.TheVariants.{Ran, ShelfFault}

-- The packets of a stream, with the samples that came in from the files of a shelf. Each is said if it is told. Told or
-- not, each packet that asks for no file stays unchanged.
pub record AreExpanded (stream : Option (List ℕ)) (shelf : Option (List File)) (expanded : List Shape) : Type 0 where
  pub packets : List Shape
  pub given : ArePacketsOf stream packets
  pub are : IfSome shelf (λ files. expanded ≡ expanded_packets files packets)
  pub unasked : AllKeepUnasked packets expanded

-- an outcome of playing the packets of the stream, with the samples that came in
abbrev pub IsPlaying : Settings → Option (List ℕ) → Option (List File) → Outcome → Type 0
IsPlaying s stream shelf o = (expanded : List Shape) × AreExpanded stream shelf expanded × IsEnd s expanded o

-- An outcome that a stream may have with the files of a shelf. The stream is too long, or has a first fault; or its
-- packets, with the samples that came in, are played, their sound is too long, or a sink failed.
abbrev pub IsRun : Settings → Option (List ℕ) → Option (List File) → Outcome → Type 0
IsRun s stream shelf (LongStream n) = IsAnswer s stream (LongStream n)
IsRun s stream shelf (BadStream packet place fault) = IsAnswer s stream (BadStream packet place fault)
IsRun s stream shelf (LongSound n) = IsPlaying s stream shelf (LongSound n)
IsRun s stream shelf (Done n) = IsPlaying s stream shelf (Done n)
IsRun s stream shelf NoMemory = Unit {0}
IsRun s stream shelf (BadWords i) = ⊥
IsRun s stream shelf ReadFault = Unit {0}
IsRun s stream shelf SoundFault = IsPlaying s stream shelf SoundFault
IsRun s stream shelf ReplyFault = IsPlaying s stream shelf ReplyFault

abbrev pub IsShelfRun : Settings → Option (List ℕ) → Option (List File) → ShelfOutcome → Type 0
IsShelfRun s stream shelf (Ran outcome) = IsRun s stream shelf outcome
IsShelfRun s stream shelf ShelfFault = Unit {0}

-- the one that the bytes of a stream have with some files, if nothing fails
abbrev pub HasRun : Settings → List ℕ → List File → Outcome → Type 0
HasRun s bytes files (LongStream n) = IsRun s (Some bytes) (Some files) (LongStream n)
HasRun s bytes files (BadStream packet place fault) = IsRun s (Some bytes) (Some files) (BadStream packet place fault)
HasRun s bytes files (LongSound n) = IsRun s (Some bytes) (Some files) (LongSound n)
HasRun s bytes files (Done n) = IsRun s (Some bytes) (Some files) (Done n)
HasRun s bytes files NoMemory = ⊥
HasRun s bytes files (BadWords i) = ⊥
HasRun s bytes files ReadFault = ⊥
HasRun s bytes files SoundFault = ⊥
HasRun s bytes files ReplyFault = ⊥

-- Each sink took what the packets give, with the samples that came in.
abbrev pub PlayedByShelf : Settings → Option (List ℕ) → Option (List File) → ℕ → Option (List ℕ) → Option (List ℕ) → Option (List ℕ) → Option (List ℕ) → Type 0
PlayedByShelf s stream shelf blocks sound_old sound_new replies_old replies_new = (expanded : List Shape) × AreExpanded stream shelf expanded
    × PlayedPackets s expanded blocks sound_old sound_new replies_old replies_new

-- Each sink took a prefix of it.
abbrev pub FrontByShelf : Settings → Option (List ℕ) → Option (List File) → Option (List ℕ) → Option (List ℕ) → Option (List ℕ) → Option (List ℕ) → Type 0
FrontByShelf s stream shelf sound_old sound_new replies_old replies_new = (expanded : List Shape) × AreExpanded stream shelf expanded
    × PlayedFront s expanded sound_old sound_new replies_old replies_new

-- What the sinks took at each outcome but `Done`.
abbrev pub WritesByShelf : Settings → Option (List ℕ) → Option (List File) → ShelfOutcome → Option (List ℕ) → Option (List ℕ) → Option (List ℕ) → Option (List ℕ) → Type 0
WritesByShelf s stream shelf (Ran (Done n)) sound_old sound_new replies_old replies_new = Unit {0}
WritesByShelf s stream shelf (Ran (LongStream n)) sound_old sound_new replies_old replies_new = Keeps sound_old sound_new × Keeps replies_old replies_new
WritesByShelf s stream shelf (Ran (BadStream packet place fault)) sound_old sound_new replies_old replies_new = Keeps sound_old sound_new × Keeps replies_old replies_new
WritesByShelf s stream shelf (Ran (LongSound n)) sound_old sound_new replies_old replies_new = Keeps sound_old sound_new × Keeps replies_old replies_new
WritesByShelf s stream shelf (Ran ReadFault) sound_old sound_new replies_old replies_new = Keeps sound_old sound_new × Keeps replies_old replies_new
WritesByShelf s stream shelf (Ran (BadWords i)) sound_old sound_new replies_old replies_new = Keeps sound_old sound_new × Keeps replies_old replies_new
WritesByShelf s stream shelf (Ran SoundFault) sound_old sound_new replies_old replies_new = FrontByShelf s stream shelf sound_old sound_new replies_old replies_new
WritesByShelf s stream shelf (Ran ReplyFault) sound_old sound_new replies_old replies_new = FrontByShelf s stream shelf sound_old sound_new replies_old replies_new
WritesByShelf s stream shelf (Ran NoMemory) sound_old sound_new replies_old replies_new =
    (Keeps sound_old sound_new × Keeps replies_old replies_new) ⊎ FrontByShelf s stream shelf sound_old sound_new replies_old replies_new
WritesByShelf s stream shelf ShelfFault sound_old sound_new replies_old replies_new = Keeps sound_old sound_new × Keeps replies_old replies_new

-- what is taken of the stream: all of it if the shelf failed
abbrev pub TakesByShelf : ShelfOutcome → Option (List ℕ) → Option (List ℕ) → Type 0
TakesByShelf (Ran outcome) old new = TakesStream outcome old new
TakesByShelf ShelfFault old new = IsAtEnd new

abbrev pub shelf_status : ShelfOutcome → ℕ
shelf_status (Ran outcome) = outcome_status outcome
shelf_status ShelfFault = 14
