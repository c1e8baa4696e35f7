-- What a drill writes, by the words that choose it.
use Rattle.std.specs.Prelude.{◌≡◌, ℕ, List, Option, Result, Ok, Err}
use Rattle.std.specs.Io.KnownBytes.{Appends, Keeps}
use Rattle.sn_ports.specs.Octets.{Octets}
use Rattle.sn_osc.specs.Shape.{Shape}
use Rattle.sn_pcm.specs.declared.settings.Settings.{Settings}
use Rattle.sn_drill.specs.Line.{drill_line}
use Rattle.sn_drill.specs.Stream.{drill_stream}
use Rattle.sn_render.specs.Fronts.{TakesFront}
use Rattle.sn_render.specs.Play.{last_of, sound_of, replies_of}
use Rattle.sn_render.specs.declared.outcome.Outcome.{Outcome}
use Rattle.sn_render.specs.declared.outcome.Outcome.TheVariants.{Done, NoMemory, BadWords, BadStream, LongStream, LongSound, ReadFault, SoundFault, ReplyFault}
use Rattle.sn_words.specs.Choices.{numbers}
use Rattle.sn_words.specs.Drilling.{DrillChoices, drill_words_of}

-- the packets of a drill, by its settings, its seed and its blocks
abbrev pub packets_of : Settings → ℕ → ℕ → List Shape
packets_of s seed blocks = drill_stream seed blocks s.rate

-- its line, which tells of the sound and of the replies that these packets give
abbrev pub line_of : Settings → ℕ → ℕ → List ℕ
line_of s seed blocks = drill_line blocks (sound_of s (packets_of s seed blocks)) (replies_of s (packets_of s seed blocks))

-- What the sink took at each outcome of a drill. It is the drill's line, after as many blocks as its packets give. It
-- is a prefix of the line if the sink failed, and nothing if memory ran out.
abbrev pub Drills : Settings → ℕ → ℕ → Outcome → Option (List ℕ) → Option (List ℕ) → Type 0
Drills s seed blocks (Done n) old new = (n ≡ last_of s (packets_of s seed blocks)) × (n ≡ blocks) × Appends old new (line_of s seed blocks)
Drills s seed blocks SoundFault old new = TakesFront old new (line_of s seed blocks)
Drills s seed blocks NoMemory old new = Keeps old new
Drills s seed blocks (BadWords i) old new = ⊥
Drills s seed blocks (BadStream packet place fault) old new = ⊥
Drills s seed blocks (LongStream n) old new = ⊥
Drills s seed blocks (LongSound n) old new = ⊥
Drills s seed blocks ReadFault old new = ⊥
Drills s seed blocks ReplyFault old new = ⊥

-- the words choose these settings, this seed and this number of blocks
abbrev pub AreDrilled : List Octets → Settings → ℕ → ℕ → Type 0
AreDrilled words s seed blocks = drill_words_of words ≡ Ok (record { settings = numbers s; seed = seed; blocks = blocks })

-- A fact about the drill that the words choose, if they choose one.
abbrev pub ForDrill : List Octets → Result DrillChoices ℕ → (Settings → ℕ → ℕ → Type 0) → Type 0
ForDrill words (Ok c) P = (s : Settings) × AreDrilled words s c.seed c.blocks × P s c.seed c.blocks
ForDrill words (Err i) P = Unit {0}

abbrev pub ByDrillWords : List Octets → (Settings → ℕ → ℕ → Type 0) → Type 0
ByDrillWords words P = ForDrill words (drill_words_of words) P
