-- How far a connection has come that is served.
use Rattle.std.specs.Prelude.{◌≡◌, ◌⊎◌, ◌≤◌, ◌<◌, ◌+◌, ◌||◌, nat_le, true, false, ℕ, List, [], ◌∷◌, length, Option, None, Some, Result, Ok, Err, ⊤}
use Rattle.std.specs.Io.KnownBytes.{Appends, Keeps}
use Rattle.sn_ports.specs.Limits.{most_count, most_entries}
use Rattle.sn_ports.specs.Links.{LinkEvent, Takes, Known}
use Rattle.sn_osc.specs.Framing.{Framing}
use Rattle.sn_osc.specs.Frames.{FirstFrame, cut, bad_size}
use Rattle.sn_pcm.specs.declared.settings.Settings.{Settings}
use Rattle.sn_engine.specs.Running.{Running, at_boundary, flow_at, opened}
use Rattle.sn_engine.specs.declared.standing.Flow.TheVariants.{On}
use Rattle.sn_engine.specs.declared.standing.Flow.TheVariants as flows
use Rattle.sn_engine.specs.declared.standing.Standing.TheVariants.{Settled}
use Rattle.sn_server.specs.declared.ended.Ended.{Ended}
use Rattle.sn_server.specs.declared.ended.Ended.TheVariants.{Quit, NoMemory, Closed, Cut, BadFrame, LinkFault, SoundFault, Worn}
use Rattle.sn_render.specs.Fronts.{TakesFront}
use Rattle.sn_render.specs.Play.{after_blocks, to_first}
use Rattle.sn_server.specs.PlayEvents.{Live, Over, Course, going, ended, is_worn, after_event, after_events, at_end, beginning}
use Rattle.sn_server.specs.Served.{TakesBetween, TakesEach, WhileOpen, ByEnd}

-- ---- how far it has come

-- this is the end at a bad size
abbrev pub IsBad : FirstFrame → Ended → Type 0
IsBad first (BadFrame size) = first ≡ bad_size size
IsBad first Quit = ⊥
IsBad first NoMemory = ⊥
IsBad first Closed = ⊥
IsBad first (Cut kept) = ⊥
IsBad first LinkFault = ⊥
IsBad first SoundFault = ⊥
IsBad first (Worn n blocks) = ⊥

-- what follows the last whole frame: a prefix of a frame, or a bad size
abbrev pub Stops : FirstFrame → Option Ended → Type 0
Stops first None = first ≡ cut
Stops first (Some how) = IsBad first how

-- an end before the last event
abbrev pub StaysOpen : Ended → Type 0
StaysOpen Closed = ⊥
StaysOpen (Cut kept) = ⊥
StaysOpen Quit = ⊤
StaysOpen (BadFrame size) = ⊤
StaysOpen (Worn n blocks) = ⊤
StaysOpen NoMemory = ⊤
StaysOpen LinkFault = ⊤
StaysOpen SoundFault = ⊤

-- an end at a boundary or at its block
abbrev pub IsTickEnd : Ended → Type 0
IsTickEnd Closed = ⊥
IsTickEnd (Cut kept) = ⊥
IsTickEnd Quit = ⊤
IsTickEnd (BadFrame size) = ⊥
IsTickEnd (Worn n blocks) = ⊥
IsTickEnd NoMemory = ⊤
IsTickEnd LinkFault = ⊤
IsTickEnd SoundFault = ⊤

-- An engine of one client and a framer hold what a connection does, except for its bytes, which were written and sent.
pub record IsLive (sound_old sound_new sent_old sent_new : Option (List ℕ)) (v : Live) (e : Running) (f : Framing) : Type 0 where
  pub alone : length v.play.replies ≡ 1
  pub engine : e ≡ record v.play { sound = []; replies = [] ∷ [] }
  pub framer : f ≡ v.framing
  pub sound : Appends sound_old sound_new v.play.sound
  pub sent : Appends sent_old sent_new (to_first v.play.replies)

-- a connection that has ended, and what it gave was written
pub record HasEnded (sound_old sound_new sent_old sent_new : Option (List ℕ)) (c : Course) (how : Ended) : Type 0 where
  pub over : Over
  pub course : c ≡ ended over
  pub ending : over.ending ≡ how
  pub sound : Appends sound_old sound_new over.play.sound
  pub sent : Appends sent_old sent_new (to_first over.play.replies)

pub record GoesOn (sound_old sound_new sent_old sent_new : Option (List ℕ)) (c : Course) (e : Running) (f : Framing) : Type 0 where
  pub live : Live
  pub course : c ≡ going live
  pub stands : IsLive sound_old sound_new sent_old sent_new live e f

-- The course after a connection was cut short. What was written and sent begins with what the connection gave, and what
-- the course gives begins with it.
pub record IsCut (sound_old sound_new sent_old sent_new : Option (List ℕ)) (v : Live) (c : Course) : Type 0 where
  pub sound : TakesBetween sound_old sound_new v.play.sound (at_end c).play.sound
  pub sent : TakesBetween sent_old sent_new (to_first v.play.replies) (to_first (at_end c).play.replies)

-- what a step did with a connection, and what the step answers
abbrev pub Follows : Option (List ℕ) → Option (List ℕ) → Option (List ℕ) → Option (List ℕ) → Live → Course → Running → Framing → Result Unit Ended → Type 0
Follows sound_old sound_new sent_old sent_new v c e f (Ok x) = GoesOn sound_old sound_new sent_old sent_new c e f
Follows sound_old sound_new sent_old sent_new v c e f (Err how) = ByEnd how (HasEnded sound_old sound_new sent_old sent_new c how) (IsCut sound_old sound_new sent_old sent_new v c)

-- an engine at which nothing has arrived
abbrev pub IsOpened : Running → Type 0
IsOpened e = e ≡ opened e.settings e.waiting.base (Some most_entries) 1

-- an engine and a framer that can take what comes: no more entries were put than bytes were used
pub record IsReady (e : Running) (f : Framing) : Type 0 where
  pub standing : e.standing ≡ Settled
  pub silent : e.sound ≡ []
  pub said : e.replies ≡ [] ∷ []
  pub puts : e.waiting.puts + length f.kept ≤ f.fed
  pub fed : f.fed ≤ most_count
  pub kept : length f.kept ≤ 65540

-- at each of the next n boundaries the server goes on
abbrev pub GoesThrough : ℕ → Running → Type 0
GoesThrough n r = (k : ℕ) → k < n → flow_at (after_blocks k r) ≡ On

-- One to so many boundaries, each with its block and its settling.
pub record IsRowOn (most : ℕ) (old new : Running) : Type 0 where
  pub blocks : ℕ
  pub some : 1 ≤ blocks
  pub few : blocks ≤ most
  pub flows : GoesThrough blocks old
  pub played : new ≡ after_blocks blocks old

-- One to so many boundaries, each with its block and its settling, and what came of them was written.
pub record IsTicked (most : ℕ) (sound_old sound_new sent_old sent_new : Option (List ℕ)) (old new : Running) : Type 0 where
  pub blocks : ℕ
  pub some : 1 ≤ blocks
  pub few : blocks ≤ most
  pub flows : GoesThrough blocks old
  pub engine : new ≡ record (after_blocks blocks old) { sound = []; replies = [] ∷ [] }
  pub sound : Appends sound_old sound_new (after_blocks blocks old).sound
  pub replies : Appends sent_old sent_new (to_first (after_blocks blocks old).replies)

-- A boundary at which `/quit` was accepted, and its replies were sent.
pub record HasQuit (sound_old sound_new sent_old sent_new : Option (List ℕ)) (old : Running) : Type 0 where
  pub flow : flow_at old ≡ flows.Quit
  pub sound : Keeps sound_old sound_new
  pub replies : Appends sent_old sent_new (to_first (at_boundary old).replies)

-- an engine is that after at most so many boundaries with their blocks, or that after a boundary at which `/quit` was
-- accepted
abbrev pub IsAhead : ℕ → Running → Running → Type 0
IsAhead most old r = ((n : ℕ) × (n ≤ most) × GoesThrough n old × (r ≡ after_blocks n old)) ⊎ ((flow_at old ≡ flows.Quit) × (r ≡ at_boundary old))

-- A prefix of what it holds was written and sent.
pub record IsTickPart (most : ℕ) (sound_old sound_new sent_old sent_new : Option (List ℕ)) (old : Running) : Type 0 where
  pub held : Running
  pub ahead : IsAhead most old held
  pub sound : TakesFront sound_old sound_new held.sound
  pub sent : TakesFront sent_old sent_new (to_first held.replies)

-- as many bytes came, or as many blocks were done, as may
pub record IsWornOut (e : Running) (f : Framing) (how : Ended) : Type 0 where
  pub numbers : how ≡ Worn f.fed e.block
  pub most : (nat_le most_count f.fed || nat_le most_count e.block) ≡ true

-- more can be taken
pub record HasLeft (e : Running) (f : Framing) : Type 0 where
  pub fed : f.fed < most_count
  pub block : e.block < most_count

-- ---- one event after another

-- a step took an event, which gives its course, while more could be taken
pub record TookEvent (left_old left_new : Option (List LinkEvent)) (v : Live) (P : LinkEvent → Type 0) : Type 0 where
  pub event : LinkEvent
  pub while_open : is_worn v ≡ false
  pub taken : Known left_old left_new (λ old new. Takes old new event)
  pub gives : P event

-- The events that were taken end a course so, none was taken after its end, and what it gave was written.
pub record EndsBy (left_old left_new : Option (List LinkEvent)) (sound_old sound_new sent_old sent_new : Option (List ℕ)) (c : Course) (how : Ended) : Type 0 where
  pub events : List LinkEvent
  pub taken : Known left_old left_new (λ old new. TakesEach old events new)
  pub while_open : WhileOpen events c
  pub over : Over
  pub course : at_end (after_events events c) ≡ over
  pub ending : over.ending ≡ how
  pub sound : Appends sound_old sound_new over.play.sound
  pub sent : Appends sent_old sent_new (to_first over.play.replies)

-- A step was cut short, in an event or before one was taken.
pub record IsStepCut (left_old left_new : Option (List LinkEvent)) (sound_old sound_new sent_old sent_new : Option (List ℕ)) (v : Live) : Type 0 where
  pub last : List LinkEvent
  pub one : length last ≤ 1
  pub taken : Known left_old left_new (λ old new. TakesEach old last new)
  pub while_open : WhileOpen last (going v)
  pub cut : IsCut sound_old sound_new sent_old sent_new v (after_events last (going v))

-- an event was taken, or this is the end
abbrev pub Took : Option (List LinkEvent) → Option (List LinkEvent) → Option (List ℕ) → Option (List ℕ) → Option (List ℕ) → Option (List ℕ) → Live → Running → Framing → Result Unit Ended → Type 0
Took left_old left_new sound_old sound_new sent_old sent_new v e f (Ok x) = TookEvent left_old left_new v (λ x. GoesOn sound_old sound_new sent_old sent_new (after_event x (going v)) e f)
Took left_old left_new sound_old sound_new sent_old sent_new v e f (Err how) =
    ByEnd how (EndsBy left_old left_new sound_old sound_new sent_old sent_new (going v) how) (IsStepCut left_old left_new sound_old sound_new sent_old sent_new v)

-- the events so far have given this
pub record IsServing (s : Settings) (base : ℕ) (left_old left_new : Option (List LinkEvent)) (sound_old sound_new sent_old sent_new : Option (List ℕ)) (e : Running) (f : Framing) : Type 0 where
  pub events : List LinkEvent
  pub taken : Known left_old left_new (λ old new. TakesEach old events new)
  pub while_open : WhileOpen events (going (beginning s base))
  pub live : Live
  pub course : after_events events (going (beginning s base)) ≡ going live
  pub stands : IsLive sound_old sound_new sent_old sent_new live e f
