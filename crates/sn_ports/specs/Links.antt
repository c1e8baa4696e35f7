-- What comes over a link, and what a link does with it.
use Rattle.std.specs.Prelude.{◌≡◌, ◌≤◌, ◌<◌, ℕ, List, [], ◌∷◌, ◌++◌, length, take, drop, min, map, Option, None, Some, Result, MatchResult, IfOk, ⊤}
use Rattle.std.specs.List.{AllByRecursion}
use Rattle.sn_ports.specs.Limits.{most_ticks}
use Rattle.sn_ports.specs.declared.links.Event.{Event}
use Rattle.sn_ports.specs.declared.links.Event.TheVariants as event
use Rattle.sn_ports.specs.declared.links.Fed.{Fed}
use Rattle.sn_ports.specs.declared.links.Fed.TheVariants as fed

-- what comes: bytes, or so many blocks that are due
pub data LinkEvent : Type 0 where
  bytes : List ℕ → LinkEvent
  ticks : ℕ → LinkEvent

-- what is left of bytes that came is the next event, if something is
abbrev pub with_rest : List ℕ → List LinkEvent → List LinkEvent
with_rest [] others = others
with_rest (b ∷ rest) others = bytes (b ∷ rest) ∷ others

-- the bytes are a prefix of those of the next event, and what is left of it stays the next one
pub record IsFront (old new : List LinkEvent) (piece : List ℕ) : Type 0 where
  pub rest : List ℕ
  pub others : List LinkEvent
  pub next : old ≡ bytes (piece ++ rest) ∷ others
  pub left : new ≡ with_rest rest others

-- an event, or a prefix of the bytes of one, comes next
abbrev pub Takes : List LinkEvent → List LinkEvent → LinkEvent → Type 0
Takes old new (bytes piece) = IsFront old new piece
Takes old new (ticks n) = old ≡ ticks n ∷ new

-- what was given into a buffer was taken
abbrev pub Feeds : List LinkEvent → List LinkEvent → List ℕ → Fed → Type 0
Feeds old new into (fed.Bytes n) = Takes old new (bytes (take n into))
Feeds old new into (fed.Ticks n) = Takes old new (ticks n)
Feeds old new into fed.End = (old ≡ []) × (new ≡ [])

-- a relation between known events
abbrev pub Known : Option (List LinkEvent) → Option (List LinkEvent) → (List LinkEvent → List LinkEvent → Type 0) → Type 0
Known None new P = ⊤
Known (Some old) None P = ⊥
Known (Some old) (Some new) P = P old new

-- known events stay as they were
abbrev pub KeepsEvents : Option (List LinkEvent) → Option (List LinkEvent) → Type 0
KeepsEvents old new = Known old new (λ a b. b ≡ a)

-- at Ok what was given was taken, and at Err nothing was
abbrev pub NextTakes : {E : Type 0} → Option (List LinkEvent) → Option (List LinkEvent) → Result Fed E → List ℕ → Type 0
NextTakes old new r into = MatchResult r (λ f. Known old new (λ a b. Feeds a b into f)) (λ _. KeepsEvents old new)

-- at least one byte and no more than there is room for, or at least one block and no more than are due at once
abbrev pub IsFed : List ℕ → Fed → Type 0
IsFed into (fed.Bytes n) = (0 < n) × (n ≤ length into)
IsFed into (fed.Ticks n) = (0 < n) × (n ≤ most_ticks)
IsFed into fed.End = Unit {0}

abbrev pub FeedsWithin : {E : Type 0} → Result Fed E → List ℕ → Type 0
FeedsWithin r into = IfOk r (IsFed into)

-- ---- events that are played

abbrev pub event_of : Event → LinkEvent
event_of (event.Bytes text) = bytes text.bytes
event_of (event.Ticks n) = ticks n

-- at least one byte, or at least one block and no more than are due at once
abbrev pub IsPlayable : Event → Type 0
IsPlayable (event.Bytes text) = 0 < length text.bytes
IsPlayable (event.Ticks n) = (0 < n) × (n ≤ most_ticks)

abbrev pub ArePlayable : List Event → Type 0
ArePlayable es = AllByRecursion IsPlayable es

-- so many bytes of the next event are as many as there is room for
abbrev pub FillRoom : List LinkEvent → ℕ → ℕ → Type 0
FillRoom [] n room = Unit {0}
FillRoom (ticks k ∷ others) n room = Unit {0}
FillRoom (bytes next ∷ others) n room = n ≡ min (length next) room

-- of the bytes of the next event as many were given as there is room for
abbrev pub GivesWhatFits : List LinkEvent → ℕ → Fed → Type 0
GivesWhatFits old room (fed.Bytes n) = FillRoom old n room
GivesWhatFits old room (fed.Ticks n) = Unit {0}
GivesWhatFits old room fed.End = Unit {0}

-- the events that are left after so many bytes of the first were given
abbrev pub events_left : ℕ → List Event → List LinkEvent
events_left given [] = []
events_left given (event.Bytes text ∷ es) = bytes (drop given text.bytes) ∷ map event_of es
events_left given (event.Ticks n ∷ es) = ticks n ∷ map event_of es

-- the first of the events has bytes that were not given
abbrev pub AreLeft : ℕ → List Event → Type 0
AreLeft given [] = given ≡ 0
AreLeft given (event.Bytes text ∷ es) = (given < length text.bytes) × ArePlayable es
AreLeft given (event.Ticks n ∷ es) = (given ≡ 0) × (0 < n) × (n ≤ most_ticks) × ArePlayable es

-- What a contract sees of a link that is played: the events that are left, the bytes that were sent, how many may be
-- sent in all, which calls fail, and how many calls and faults there were.
pub record PlayedEvents : Type 0 where
  pub left : List LinkEvent
  pub sent : List ℕ
  pub capacity : ℕ
  pub fails : List ℕ
  pub calls : ℕ
  pub faults : ℕ
