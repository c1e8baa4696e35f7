-- What a plan writes, by the settings that the words choose.
use Rattle.std.specs.Prelude.{◌≡◌, ℕ, List, Option, Result, Ok, Err}
use Rattle.std.specs.Io.KnownBytes.{Appends, Keeps}
use Rattle.sn_ports.specs.Octets.{Octets}
use Rattle.sn_osc.specs.Shape.{Shape}
use Rattle.sn_pcm.specs.declared.settings.Settings.{Settings}
use Rattle.sn_report.specs.Lines.{HasLongest}
use Rattle.sn_report.specs.Reports.{report_of}
use Rattle.sn_render.specs.Fronts.{TakesFront}
use Rattle.sn_render.specs.Outcomes.{ArePacketsOf, IsTooLong}
use Rattle.sn_render.specs.Play.{last_of, played}
use Rattle.sn_render.specs.declared.outcome.Outcome.{Outcome}
use Rattle.sn_render.specs.declared.outcome.Outcome.TheVariants.{Done, NoMemory, BadWords, BadStream, LongStream, LongSound, ReadFault, SoundFault, ReplyFault}
use Rattle.sn_words.specs.Choices.{Choices, numbers}
use Rattle.sn_words.specs.Words.{plan_words_of}

-- the report of the world at the boundary after the last block of packets
abbrev pub report_at_end : Settings → List Shape → List ℕ
report_at_end s packets = report_of (played s packets).world

-- The sink took that report, whose chain is the longest of the world.
pub record Reports (s : Settings) (packets : List Shape) (blocks : ℕ) (old new : Option (List ℕ)) : Type 0 where
  pub blocks_are : blocks ≡ last_of s packets
  pub written : Appends old new (report_at_end s packets)
  pub longest : HasLongest (played s packets).world

-- What the sink took at each outcome of packets but `Done`: a prefix of the report if it failed, and otherwise nothing.
abbrev pub WritesReport : Settings → List Shape → Outcome → Option (List ℕ) → Option (List ℕ) → Type 0
WritesReport s packets (Done n) old new = Unit {0}
WritesReport s packets SoundFault old new = TakesFront old new (report_at_end s packets)
WritesReport s packets NoMemory old new = Keeps old new
WritesReport s packets (LongSound n) old new = Keeps old new
WritesReport s packets (BadWords i) old new = ⊥
WritesReport s packets (BadStream packet place fault) old new = ⊥
WritesReport s packets (LongStream n) old new = ⊥
WritesReport s packets ReadFault old new = ⊥
WritesReport s packets ReplyFault old new = ⊥

-- what was written of the packets of a stream, whose sound is not too long
pub record ReportedPart (s : Settings) (stream old new : Option (List ℕ)) : Type 0 where
  pub packets : List Shape
  pub given : ArePacketsOf stream packets
  pub short : IsTooLong s (last_of s packets) → ⊥
  pub front : TakesFront old new (report_at_end s packets)

-- and all of it
pub record Reported (s : Settings) (stream : Option (List ℕ)) (blocks : ℕ) (old new : Option (List ℕ)) : Type 0 where
  pub packets : List Shape
  pub given : ArePacketsOf stream packets
  pub reports : Reports s packets blocks old new

-- What the sink took at each outcome but `Done`: a prefix of the report if it failed, and otherwise nothing.
abbrev pub WritesPlan : Settings → Option (List ℕ) → Outcome → Option (List ℕ) → Option (List ℕ) → Type 0
WritesPlan s stream (Done n) old new = Unit {0}
WritesPlan s stream SoundFault old new = ReportedPart s stream old new
WritesPlan s stream NoMemory old new = Keeps old new
WritesPlan s stream (LongSound n) old new = Keeps old new
WritesPlan s stream (BadWords i) old new = Keeps old new
WritesPlan s stream (BadStream packet place fault) old new = Keeps old new
WritesPlan s stream (LongStream n) old new = Keeps old new
WritesPlan s stream ReadFault old new = Keeps old new
WritesPlan s stream ReplyFault old new = ⊥

-- the words choose these settings
abbrev pub ArePlanned : List Octets → Settings → Type 0
ArePlanned words s = plan_words_of words ≡ Ok (numbers s)

-- A fact about the settings that the words choose, if they choose some.
abbrev pub ForPlanned : List Octets → Result Choices ℕ → (Settings → Type 0) → Type 0
ForPlanned words (Ok c) P = (s : Settings) × ArePlanned words s × P s
ForPlanned words (Err i) P = Unit {0}

abbrev pub ByPlanWords : List Octets → (Settings → Type 0) → Type 0
ByPlanWords words P = ForPlanned words (plan_words_of words) P
