-- What comes of a conversion between texts and streams.
use Rattle.std.specs.Prelude.{◌+◌, ◌≡◌, ◌⊎◌, ◌<◌, ◌≤◌, ℕ, List, length, Option, Result, Ok, Err, IfSome, ⊤}
use Rattle.std.specs.Io.KnownBytes.{Appends, Consumes, IsAtEnd, Keeps}
use Rattle.sn_ports.specs.Limits.{most_stream}
use Rattle.sn_osc.specs.declared.fault.StreamFault.{StreamFault}
use Rattle.sn_osc.specs.Shape.{Shape}
use Rattle.sn_osc.specs.Frames.{Frames, StreamFaultAt}
use Rattle.sn_ports.specs.Octets.{Octets}
use Rattle.sn_render.specs.Fronts.{TakesFront}
use Rattle.sn_render.specs.Outcomes.{Takes}
use Rattle.sn_score.specs.Faults.{ScoreFault}
use Rattle.sn_score.specs.Score.{Score}
use Rattle.sn_words.specs.declared.convert.Conversion.{Conversion}
use Rattle.sn_words.specs.declared.convert.Conversion.TheVariants as conversions
use Rattle.sn_words.specs.Converting.{convert_words_of}
use Rattle.sn_top.specs.declared.converting.Converted.{Converted}
use Rattle.sn_top.specs.declared.converting.Converted.TheVariants.{Done, NoMemory, BadWords, BadStream, LongStream, ReadFault, OutFault, BadScore}

-- The same packets in the form that is given and in the one that is made: a text and its stream, or a stream and its
-- text.
abbrev pub AreForms : Conversion → List ℕ → List Shape → List ℕ → Type 0
AreForms conversions.Score given packets made = Score given packets × Frames packets made
AreForms conversions.Dump given packets made = Frames packets given × Score made packets

-- The first fault of a stream, if one is given.
abbrev pub HasBadStream : Conversion → List ℕ → ℕ → ℕ → StreamFault → Type 0
HasBadStream conversions.Score given packet place fault = ⊥
HasBadStream conversions.Dump given packet place fault = StreamFaultAt given packet place fault

-- The first fault of a text, if one is given.
abbrev pub HasBadScore : Conversion → List ℕ → ℕ → Type 0
HasBadScore conversions.Score given line = ScoreFault given line
HasBadScore conversions.Dump given line = ⊥

-- The answer that the bytes of a source have: they are too many, have a first fault, or are this number of packets.
abbrev pub HasAnswer : Conversion → List ℕ → Converted → Type 0
HasAnswer c given (LongStream n) = (n ≡ most_stream + 1) × (most_stream < length given)
HasAnswer c given (BadStream packet place fault) = (length given ≤ most_stream) × HasBadStream c given packet place fault
HasAnswer c given (BadScore line) = (length given ≤ most_stream) × HasBadScore c given line
HasAnswer c given (Done n) = (length given ≤ most_stream) × ((packets : List Shape) × (made : List ℕ) × AreForms c given packets made × (n ≡ length packets))
HasAnswer c given NoMemory = ⊥
HasAnswer c given (BadWords i) = ⊥
HasAnswer c given ReadFault = ⊥
HasAnswer c given OutFault = ⊥

-- An answer of one of these four kinds is the one of the bytes, if the source tells them. The number of `LongStream`
-- may be told or not.
abbrev pub IsAnswer : Conversion → Option (List ℕ) → Converted → Type 0
IsAnswer c source (LongStream n) = (n ≡ most_stream + 1) × IfSome source (λ given. most_stream < length given)
IsAnswer c source (BadStream packet place fault) = IfSome source (λ given. HasAnswer c given (BadStream packet place fault))
IsAnswer c source (BadScore line) = IfSome source (λ given. HasAnswer c given (BadScore line))
IsAnswer c source (Done n) = IfSome source (λ given. HasAnswer c given (Done n))
IsAnswer c source OutFault = IfSome source (λ given. (n : ℕ) × HasAnswer c given (Done n))
IsAnswer c source NoMemory = Unit {0}
IsAnswer c source ReadFault = Unit {0}
IsAnswer c source (BadWords i) = ⊥

-- `count` packets in both forms: the bytes of a source, which are those that it tells and not too many, and what is
-- made of them.
pub record Forms (c : Conversion) (source : Option (List ℕ)) (count : ℕ) (made : List ℕ) : Type 0 where
  pub given : List ℕ
  pub packets : List Shape
  pub told : IfSome source (λ bytes. given ≡ bytes)
  pub size : length given ≤ most_stream
  pub forms : AreForms c given packets made
  pub count_is : count ≡ length packets

-- the sink took the other form of `count` packets
abbrev pub Converts : Conversion → Option (List ℕ) → ℕ → Option (List ℕ) → Option (List ℕ) → Type 0
Converts c source count old new = (made : List ℕ) × Forms c source count made × Appends old new made

-- an answer before anything was written
abbrev pub IsUnmade : Converted → Type 0
IsUnmade NoMemory = ⊤
IsUnmade (BadStream packet place fault) = ⊤
IsUnmade (LongStream n) = ⊤
IsUnmade ReadFault = ⊤
IsUnmade (BadScore line) = ⊤
IsUnmade (Done n) = ⊥
IsUnmade (BadWords i) = ⊥
IsUnmade OutFault = ⊥

-- What is taken of the source. It is all of it if the answer is one of the first four. Of a source that is too long it
-- is as many bytes as show this, and of one that failed a prefix of no more than a source may have. If the words are
-- refused, it is nothing. If memory ran out, it is nothing, or all of a source that isn't too long.
abbrev pub TakesSource : Converted → Option (List ℕ) → Option (List ℕ) → Type 0
TakesSource (Done n) old new = IsAtEnd new
TakesSource (BadStream packet place fault) old new = IsAtEnd new
TakesSource (BadScore line) old new = IsAtEnd new
TakesSource OutFault old new = IsAtEnd new
TakesSource (LongStream n) old new = Takes n old new
TakesSource ReadFault old new = (front : List ℕ) × Consumes old new front × (length front ≤ most_stream)
TakesSource NoMemory old new = Keeps old new ⊎ (IsAtEnd new × IfSome old (λ bytes. length bytes ≤ most_stream))
TakesSource (BadWords i) old new = Keeps old new

-- What the sink took at each answer but `Done`: a prefix of the other form if it failed, and otherwise nothing.
abbrev pub Writes : Conversion → Option (List ℕ) → Converted → Option (List ℕ) → Option (List ℕ) → Type 0
Writes c source (Done n) old new = Unit {0}
Writes c source OutFault old new = (count : ℕ) × (made : List ℕ) × Forms c source count made × TakesFront old new made
Writes c source NoMemory old new = Keeps old new
Writes c source (BadWords i) old new = Keeps old new
Writes c source (BadStream packet place fault) old new = Keeps old new
Writes c source (LongStream n) old new = Keeps old new
Writes c source ReadFault old new = Keeps old new
Writes c source (BadScore line) old new = Keeps old new

-- A fact about the conversion that the words choose, if they choose one.
abbrev pub ForConversion : Result Conversion ℕ → (Conversion → Type 0) → Type 0
ForConversion (Ok c) P = P c
ForConversion (Err i) P = Unit {0}

abbrev pub ByConvertWords : List Octets → (Conversion → Type 0) → Type 0
ByConvertWords words P = ForConversion (convert_words_of words) P

abbrev pub converted_status : Converted → ℕ
converted_status (Done packets) = 0
converted_status NoMemory = 1
converted_status (BadWords index) = 2
converted_status (BadStream packet place fault) = 3
converted_status (LongStream n) = 4
converted_status ReadFault = 6
converted_status OutFault = 7
converted_status (BadScore line) = 16
