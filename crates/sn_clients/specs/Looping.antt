-- How far a session of several clients has come, and how its loop ends.
use Rattle.std.specs.Prelude.{◌≡◌, ◌⊎◌, ◌<◌, ◌≤◌, ◌+◌, ◌*◌, ℕ, Bool, true, false, not, ◌==◌, if◌then◌else◌, List, [], ◌∷◌, ◌++◌, length, map, Option, None, Some, Result, Ok, Err, OnOk}
use Rattle.std.specs.Io.KnownBytes.{Appends, Consumes}
use Rattle.sn_engine.specs.Running.{Running, at_boundary, flow_at}
use Rattle.sn_engine.specs.declared.standing.Flow.{Flow}
use Rattle.sn_engine.specs.declared.standing.Flow.TheVariants as flows
use Rattle.sn_engine.specs.declared.standing.Standing.TheVariants.{Settled}
use Rattle.sn_render.specs.Fronts.{TakesFront}
use Rattle.sn_render.specs.Play.{after_block}
use Rattle.sn_ports.specs.Causes.{Rose}
use Rattle.sn_ports.specs.Limits.{most_packet, most_ticks}
use Rattle.sn_ports.specs.declared.failed.NoMemory.{NoMemory}
use Rattle.sn_clients.specs.declared.playing.Halt.{Halt}
use Rattle.sn_clients.specs.declared.playing.Halt.TheVariants as halts
use Rattle.sn_clients.specs.declared.notes.Note.{Note}
use Rattle.sn_clients.specs.declared.desk.Desk.{Desk}
use Rattle.sn_clients.specs.declared.seats.Relay.{Relay}
use Rattle.sn_clients.specs.declared.turns.Turn.{Turn}
use Rattle.sn_clients.specs.declared.turns.Turn.TheVariants.{Frame, Ticks}
use Rattle.sn_clients.specs.Answers.{IsOutletOf, end_of, has_stopped}
use Rattle.sn_clients.specs.Delivery.{AllWereTaken, AreFronts, Taken}
use Rattle.sn_clients.specs.Ends.{clients_in, gathered_in, taken_in}
use Rattle.sn_clients.specs.declared.ends.End.{End}
use Rattle.sn_clients.specs.Notes.{frames_of}
use Rattle.sn_clients.specs.PlayMany.{Act, Played, WhileOpen, after_acts, arrives, blocks}
use Rattle.sn_clients.specs.Pulses.{GivesToZero}
use Rattle.sn_clients.specs.Written.{AllSend, Fails, IsGoing, Wrote, WroteFronts, emptied}

-- ---- faults of the sink for the sound

-- how many are counted at an end: more if that is the end, and otherwise as many
abbrev pub CountedAt : Halt → ℕ → ℕ → Type 0
CountedAt halts.SoundFault before now = Rose before now
CountedAt halts.Quit before now = now ≡ before
CountedAt halts.NoMemory before now = now ≡ before
CountedAt halts.TurnsFull before now = now ≡ before

-- and at any answer
abbrev pub Counted : {X : Type 0} → Result X Halt → ℕ → ℕ → Type 0
Counted (Ok x) before now = now ≡ before
Counted (Err halt) before now = CountedAt halt before now

-- ---- a boundary and its block

module _ {R : Type 0} (taken : R → Option (List ℕ)) (faults : R → ℕ) where
  -- the server goes on after the boundary, and what the block gave was written
  pub record TicksOn (sinks_old sinks_new : List R) (failed_old failed_new : List Bool) (sound_old sound_new : Option (List ℕ)) (old new : Running) : Type 0 where
    pub flow : flow_at old ≡ flows.On
    pub sound : Appends sound_old sound_new (after_block old).sound
    pub replies : AllSend taken faults sinks_old sinks_new failed_old failed_new (after_block old).replies
    pub engine : new ≡ emptied (after_block old)

  -- `/quit` was accepted at the boundary, and its replies were sent
  pub record TicksLast (sinks_old sinks_new : List R) (failed_old failed_new : List Bool) (sound_old sound_new : Option (List ℕ)) (old : Running) : Type 0 where
    pub flow : flow_at old ≡ flows.Quit
    pub sound : sound_new ≡ sound_old
    pub replies : AllSend taken faults sinks_old sinks_new failed_old failed_new (at_boundary old).replies

  -- the sink for the sound took a prefix of the block's, and nothing was sent
  pub record TicksInPart (sinks_old sinks_new : List R) (failed_old failed_new : List Bool) (sound_old sound_new : Option (List ℕ)) (old : Running) : Type 0 where
    pub flow : flow_at old ≡ flows.On
    pub sound : TakesFront sound_old sound_new (after_block old).sound
    pub sinks : sinks_new ≡ sinks_old
    pub failed : failed_new ≡ failed_old

  -- nothing was written
  pub record TicksNot (sinks_old sinks_new : List R) (failed_old failed_new : List Bool) (sound_old sound_new : Option (List ℕ)) : Type 0 where
    pub sound : sound_new ≡ sound_old
    pub sinks : sinks_new ≡ sinks_old
    pub failed : failed_new ≡ failed_old

  -- what a boundary and its block answer
  abbrev pub Ticked : List R → List R → List Bool → List Bool → Option (List ℕ) → Option (List ℕ) → Running → Running → Result (Unit {0}) Halt → Type 0
  Ticked sinks_old sinks_new failed_old failed_new sound_old sound_new old new (Ok x) = TicksOn sinks_old sinks_new failed_old failed_new sound_old sound_new old new
  Ticked sinks_old sinks_new failed_old failed_new sound_old sound_new old new (Err halts.Quit) = TicksLast sinks_old sinks_new failed_old failed_new sound_old sound_new old
  Ticked sinks_old sinks_new failed_old failed_new sound_old sound_new old new (Err halts.SoundFault) = TicksInPart sinks_old sinks_new failed_old failed_new sound_old sound_new old
  Ticked sinks_old sinks_new failed_old failed_new sound_old sound_new old new (Err halts.NoMemory) = TicksNot sinks_old sinks_new failed_old failed_new sound_old sound_new
  Ticked sinks_old sinks_new failed_old failed_new sound_old sound_new old new (Err halts.TurnsFull) = ⊥

  -- ---- what was played at an end of the loop

  -- At `/quit` and after as many turns as there may be, all was written. Otherwise prefixes were.
  abbrev pub HaltsAt : List R → List R → List Bool → Option (List ℕ) → Option (List ℕ) → Played → Halt → Type 0
  HaltsAt sinks_old sinks_new failed sound_old sound_new p halts.Quit = (p.quit ≡ true) × Wrote taken faults sinks_old sinks_new failed sound_old sound_new p.play
  HaltsAt sinks_old sinks_new failed sound_old sound_new p halts.TurnsFull = (p.quit ≡ false) × Wrote taken faults sinks_old sinks_new failed sound_old sound_new p.play
  HaltsAt sinks_old sinks_new failed sound_old sound_new p halts.NoMemory = WroteFronts taken faults sinks_old sinks_new failed sound_old sound_new p.play
  HaltsAt sinks_old sinks_new failed sound_old sound_new p halts.SoundFault = WroteFronts taken faults sinks_old sinks_new failed sound_old sound_new p.play

  -- it plays on, or ends
  abbrev pub PlaysTo : List R → List R → List Bool → Option (List ℕ) → Option (List ℕ) → Played → Running → Result (Unit {0}) Halt → Type 0
  PlaysTo sinks_old sinks_new failed sound_old sound_new p e (Ok x) = (p.quit ≡ false) × IsGoing taken faults sinks_old sinks_new failed sound_old sound_new p.play e
  PlaysTo sinks_old sinks_new failed sound_old sound_new p e (Err halt) = HaltsAt sinks_old sinks_new failed sound_old sound_new p halt

-- ---- turns

abbrev pub turn_of : Act → Turn
turn_of (arrives client frame) = Frame client
turn_of (blocks n) = Ticks n

-- the frames of one client that arrived
abbrev pub frames_in : ℕ → List Act → List (List ℕ)
frames_in c [] = []
frames_in c (arrives client frame ∷ acts) = if client == c then frame ∷ frames_in c acts else frames_in c acts
frames_in c (blocks n ∷ acts) = frames_in c acts

-- the numbers of blocks
abbrev pub numbers_in : List Act → List ℕ
numbers_in [] = []
numbers_in (arrives client frame ∷ acts) = numbers_in acts
numbers_in (blocks n ∷ acts) = n ∷ numbers_in acts

-- a pulse gave these numbers, and has given a 0 after them, or not
abbrev pub Gave : Bool → Option (List ℕ) → Option (List ℕ) → List ℕ → Type 0
Gave false old new numbers = Consumes old new numbers
Gave true old new numbers = GivesToZero old new numbers

-- as many inlets were made and gathered as before, and what was taken of those that were gathered is still the first of
-- what they put
abbrev pub SameInlets : End → End → Type 0
SameInlets old new = (clients_in new ≡ clients_in old) × (gathered_in new ≡ gathered_in old) × (AreFronts old → AreFronts new)

-- The turns are these acts: the frames are those that were taken, and the numbers of blocks those that the pulse gave.
pub record HasDone (at_zero : Bool) (left_old left_new : Option (List ℕ)) (desk : Desk) (acts : List Act) : Type 0 where
  pub turned : desk.turns.items ≡ map turn_of acts
  pub frames : (c : ℕ) → frames_in c acts ≡ frames_of c (taken_in (end_of desk.outlet))
  pub others : (c : ℕ) → clients_in (end_of desk.outlet) ≤ c → frames_in c acts ≡ []
  pub numbers : Gave at_zero left_old left_new (numbers_in acts)

-- No count is near its end, and as many clients are heard as there are sinks.
pub record IsSteady (most many : ℕ) (desk : Desk) : Type 0 where
  pub settled : desk.engine.running.standing ≡ Settled
  pub puts : desk.engine.running.waiting.puts ≤ most_packet * length desk.turns.items
  pub block : desk.engine.running.block ≤ most_ticks * length desk.turns.items
  pub few : length desk.turns.items < most
  pub clients : length desk.engine.running.replies ≡ many
  pub flags : length desk.failed.items ≡ many

-- `count` blocks were done
pub record StandsOn (count : ℕ) (old new : Desk) : Type 0 where
  pub settled : new.engine.running.standing ≡ Settled
  pub block : new.engine.running.block ≡ old.engine.running.block + count
  pub puts : new.engine.running.waiting.puts ≡ old.engine.running.waiting.puts
  pub clients : length new.engine.running.replies ≡ length old.engine.running.replies
  pub flags : length new.failed.items ≡ length old.failed.items

-- nothing was done
pub record StaysAs (old new : Desk) : Type 0 where
  pub engine : new.engine.running ≡ old.engine.running
  pub failed : new.failed.items ≡ old.failed.items
  pub turns : new.turns.items ≡ old.turns.items
  pub end : end_of new.outlet ≡ end_of old.outlet

-- a note was taken, and its turn put
pub record HasReceived (old new : Desk) (note : Note) : Type 0 where
  pub engine : new.engine.running ≡ old.engine.running
  pub failed : new.failed.items ≡ old.failed.items
  pub turns : new.turns.items ≡ old.turns.items ++ Frame note.client ∷ []
  pub end : Taken (end_of old.outlet) note (end_of new.outlet)

-- a note was taken, or none waited, or there was no room for its turn
abbrev pub Received : Desk → Desk → Result (Option Note) NoMemory → Type 0
Received old new (Ok (Some note)) = HasReceived old new note
Received old new (Ok None) = StaysAs old new × AllWereTaken (end_of new.outlet)
Received old new (Err e) = StaysAs old new

module _ {R : Type 0} (taken : R → Option (List ℕ)) (faults : R → ℕ) where
  -- a session that goes on
  pub record IsPlaying (first : Played) (sinks_old sinks_new : List R) (sound_old sound_new : Option (List ℕ)) (at_zero : Bool) (left_old left_new : Option (List ℕ)) (desk : Desk) : Type 0 where
    pub acts : List Act
    pub done : HasDone at_zero left_old left_new desk acts
    pub goes_on : (after_acts acts first).quit ≡ false
    pub going : IsGoing taken faults sinks_old sinks_new desk.failed.items sound_old sound_new (after_acts acts first).play desk.engine.running

  -- a session whose loop has ended
  pub record HasHalted (first : Played) (sinks_old sinks_new : List R) (sound_old sound_new : Option (List ℕ)) (at_zero : Bool) (left_old left_new : Option (List ℕ)) (desk : Desk) (halt : Halt) : Type 0 where
    pub acts : List Act
    pub done : HasDone at_zero left_old left_new desk acts
    pub while_open : WhileOpen acts first
    pub halts : HaltsAt taken faults sinks_old sinks_new desk.failed.items sound_old sound_new (after_acts acts first) halt

  abbrev pub PlaysOn : {X : Type 0} → Played → List R → List R → Option (List ℕ) → Option (List ℕ) → Bool → Option (List ℕ) → Option (List ℕ) → Desk → Result X Halt → Type 0
  PlaysOn first sinks_old sinks_new sound_old sound_new at_zero left_old left_new desk (Ok x) = IsPlaying first sinks_old sinks_new sound_old sound_new at_zero left_old left_new desk
  PlaysOn first sinks_old sinks_new sound_old sound_new at_zero left_old left_new desk (Err halt) = HasHalted first sinks_old sinks_new sound_old sound_new at_zero left_old left_new desk halt

  -- what asking the pulse answers
  abbrev pub Asked : Played → List R → List R → Option (List ℕ) → Option (List ℕ) → Option (List ℕ) → Option (List ℕ) → Desk → Result Bool Halt → Type 0
  Asked first sinks_old sinks_new sound_old sound_new left_old left_new desk (Ok more) = IsPlaying first sinks_old sinks_new sound_old sound_new (not more) left_old left_new desk
  Asked first sinks_old sinks_new sound_old sound_new left_old left_new desk (Err halt) = HasHalted first sinks_old sinks_new sound_old sound_new false left_old left_new desk halt

  -- whether the loop ends at the 0 of the pulse, or before it or after it
  abbrev pub RunsTo : Played → List R → List R → Option (List ℕ) → Option (List ℕ) → Option (List ℕ) → Option (List ℕ) → ℕ → ℕ → Desk → Result (Unit {0}) Halt → Type 0
  RunsTo first sinks_old sinks_new sound_old sound_new left_old left_new zeros_old zeros_new desk (Ok x) = Rose zeros_old zeros_new × IsPlaying first sinks_old sinks_new sound_old sound_new true left_old left_new desk
  RunsTo first sinks_old sinks_new sound_old sound_new left_old left_new zeros_old zeros_new desk (Err halt) =
      (at_zero : Bool) × Fails at_zero zeros_old zeros_new × HasHalted first sinks_old sinks_new sound_old sound_new at_zero left_old left_new desk halt

  -- ---- the last boundary

  -- its replies were sent
  pub record ClosesAt (flow : Flow) (sinks_old sinks_new : List R) (failed_old failed_new : List Bool) (old : Running) : Type 0 where
    pub flow_is : flow_at old ≡ flow
    pub replies : AllSend taken faults sinks_old sinks_new failed_old failed_new (at_boundary old).replies

  abbrev pub Closed : List R → List R → List Bool → List Bool → Running → Result (Unit {0}) Halt → Type 0
  Closed sinks_old sinks_new failed_old failed_new old (Ok x) = ClosesAt flows.On sinks_old sinks_new failed_old failed_new old
  Closed sinks_old sinks_new failed_old failed_new old (Err halts.Quit) = ClosesAt flows.Quit sinks_old sinks_new failed_old failed_new old
  Closed sinks_old sinks_new failed_old failed_new old (Err halts.NoMemory) = (sinks_new ≡ sinks_old) × (failed_new ≡ failed_old)
  Closed sinks_old sinks_new failed_old failed_new old (Err halts.SoundFault) = ⊥
  Closed sinks_old sinks_new failed_old failed_new old (Err halts.TurnsFull) = ⊥

  -- a session whose last boundary was done, with all that it gave written
  pub record HasClosed (flow : Flow) (first : Played) (sinks_old sinks_new : List R) (sound_old sound_new left_old left_new : Option (List ℕ)) (desk : Desk) : Type 0 where
    pub acts : List Act
    pub done : HasDone true left_old left_new desk acts
    pub goes_on : (after_acts acts first).quit ≡ false
    pub flow_is : flow_at (after_acts acts first).play ≡ flow
    pub wrote : Wrote taken faults sinks_old sinks_new desk.failed.items sound_old sound_new (at_boundary (after_acts acts first).play)

  -- the end of a session after the 0 of the pulse
  abbrev pub Closes : Played → List R → List R → Option (List ℕ) → Option (List ℕ) → Option (List ℕ) → Option (List ℕ) → Desk → Result (Unit {0}) Halt → Type 0
  Closes first sinks_old sinks_new sound_old sound_new left_old left_new desk (Ok x) = HasClosed flows.On first sinks_old sinks_new sound_old sound_new left_old left_new desk
  Closes first sinks_old sinks_new sound_old sound_new left_old left_new desk (Err halts.Quit) = HasClosed flows.Quit first sinks_old sinks_new sound_old sound_new left_old left_new desk
  Closes first sinks_old sinks_new sound_old sound_new left_old left_new desk (Err halts.NoMemory) = HasHalted first sinks_old sinks_new sound_old sound_new true left_old left_new desk halts.NoMemory
  Closes first sinks_old sinks_new sound_old sound_new left_old left_new desk (Err halts.SoundFault) = ⊥
  Closes first sinks_old sinks_new sound_old sound_new left_old left_new desk (Err halts.TurnsFull) = HasHalted first sinks_old sinks_new sound_old sound_new true left_old left_new desk halts.TurnsFull

  -- the end of a session
  abbrev pub EndsTo : Played → List R → List R → Option (List ℕ) → Option (List ℕ) → Option (List ℕ) → Option (List ℕ) → ℕ → ℕ → Desk → Result (Unit {0}) Halt → Type 0
  EndsTo first sinks_old sinks_new sound_old sound_new left_old left_new zeros_old zeros_new desk (Ok x) = Rose zeros_old zeros_new × HasClosed flows.On first sinks_old sinks_new sound_old sound_new left_old left_new desk
  EndsTo first sinks_old sinks_new sound_old sound_new left_old left_new zeros_old zeros_new desk (Err halt) =
      ((at_zero : Bool) × Fails at_zero zeros_old zeros_new × HasHalted first sinks_old sinks_new sound_old sound_new at_zero left_old left_new desk halt)
      ⊎ ((halt ≡ halts.Quit) × Rose zeros_old zeros_new × HasClosed flows.Quit first sinks_old sinks_new sound_old sound_new left_old left_new desk)

-- What the loop of a session did until it ended.
module _ {R O T : Type 0} (taken : R → Option (List ℕ)) (faults : R → ℕ) (sound_taken : O → Option (List ℕ)) (sound_faults : O → ℕ) (left : T → Option (List ℕ)) (zeros : T → ℕ) where
  pub record HasPlayed (relay : Relay) (most : ℕ) (old new : Desk) (sinks_old sinks_new : List R) (sound_old sound_new : O) (pulse_old pulse_new : T) (result : Result (Unit {0}) Halt) : Type 0 where
    pub outlet : IsOutletOf relay new.outlet
    pub plays : (first : Played) (sinks_first : List R) (sound_first left_first : Option (List ℕ))
        → IsPlaying taken faults first sinks_first sinks_old sound_first (sound_taken sound_old) false left_first (left pulse_old) old
        → RunsTo taken faults first sinks_first sinks_new sound_first (sound_taken sound_new) left_first (left pulse_new) (zeros pulse_old) (zeros pulse_new) new result
    pub steady : OnOk result (IsSteady most (length sinks_new) new)
    pub few : length new.turns.items ≤ most
    pub full : result ≡ Err halts.TurnsFull → length new.turns.items ≡ most
    pub zero : OnOk result (Rose (zeros pulse_old) (zeros pulse_new))
    pub counted : Counted result (sound_faults sound_old) (sound_faults sound_new)
    pub inlets : SameInlets (end_of old.outlet) (end_of new.outlet)
    pub stopped : OnOk result (has_stopped new.outlet ≡ has_stopped old.outlet)
