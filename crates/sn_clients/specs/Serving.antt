-- What a whole session says of its clients, and of what was played.
use Rattle.std.specs.Prelude.{◌≡◌, ◌≢◌, ◌⊎◌, ◌<◌, ◌≤◌, ℕ, Bool, true, false, if◌then◌else◌, List, [], length, map, Option, Result, Ok, Err, slice_index_or}
use Rattle.sn_ports.specs.Causes.{Rose}
use Rattle.sn_engine.specs.Running.{Running, flow_at}
use Rattle.sn_engine.specs.declared.standing.Flow.TheVariants as flows
use Rattle.sn_pcm.specs.declared.settings.Settings.{Settings}
use Rattle.sn_clients.specs.declared.clients.Client.{Client}
use Rattle.sn_clients.specs.declared.clients.ClientEnd.TheVariants.{ReadFault, SendFault}
use Rattle.sn_clients.specs.declared.playing.Halt.{Halt}
use Rattle.sn_clients.specs.declared.playing.Halt.TheVariants as halts
use Rattle.sn_clients.specs.declared.turns.How.{How}
use Rattle.sn_clients.specs.declared.turns.How.TheVariants.{Quit, Over, NoMemory, SoundFault, TurnsFull}
use Rattle.sn_clients.specs.declared.turns.Turn.{Turn}
use Rattle.sn_clients.specs.Looping.{Gave, frames_in, numbers_in, turn_of}
use Rattle.sn_clients.specs.Notes.{IsFront}
use Rattle.sn_clients.specs.PlayMany.{Played, Streams, WhileOpen, acts_from, after_acts, play_many, start}
use Rattle.sn_clients.specs.Reading.{HasRead}
use Rattle.sn_clients.specs.Written.{Fails, Wrote, WroteFronts}

-- how a session ended whose loop ended with this result
abbrev pub how_of : Result (Unit {0}) Halt → How
how_of (Ok x) = Over
how_of (Err halts.Quit) = Quit
how_of (Err halts.NoMemory) = NoMemory
how_of (Err halts.SoundFault) = SoundFault
how_of (Err halts.TurnsFull) = TurnsFull

-- At the end `Quit`, `/quit` was accepted, at a boundary of the turns or at the one after them. At `Over` it was
-- accepted at none of these, and at `TurnsFull` at none of the turns.
abbrev pub EndsWith : How → Played → Type 0
EndsWith Quit p = (p.quit ≡ true) ⊎ (flow_at p.play ≡ flows.Quit)
EndsWith Over p = (p.quit ≡ false) × (flow_at p.play ≡ flows.On)
EndsWith TurnsFull p = p.quit ≡ false
EndsWith NoMemory p = Unit {0}
EndsWith SoundFault p = Unit {0}

module _ {S : Type 0} (left : S → Option (List ℕ)) (faults : S → ℕ) where
  -- A client's reader has ended: what it took of the source is these frames, and then a rest. The source's count stays,
  -- unless it failed. If the client's sink has failed, that is its end.
  pub record Reads (how : How) (failed : Bool) (old new : Client S) (frames : List (List ℕ)) : Type 0 where
    pub read : HasRead (left old.source) (left new.source) (Rose (faults old.source) (faults new.source)) (how ≢ Over) frames new.read
    pub unfailed : (new.read ≡ ReadFault) ⊎ (faults new.source ≡ faults old.source)
    pub end : new.end ≡ (if failed then SendFault else new.read)

module _ {R : Type 0} (taken : R → Option (List ℕ)) (faults : R → ℕ) where
  -- What was written of what was played, at this end: all of it, or prefixes.
  abbrev pub WroteAt : How → List R → List R → List Bool → Option (List ℕ) → Option (List ℕ) → Running → Type 0
  WroteAt Quit sinks_old sinks_new failed sound_old sound_new r = Wrote taken faults sinks_old sinks_new failed sound_old sound_new r
  WroteAt Over sinks_old sinks_new failed sound_old sound_new r = Wrote taken faults sinks_old sinks_new failed sound_old sound_new r
  WroteAt TurnsFull sinks_old sinks_new failed sound_old sound_new r = Wrote taken faults sinks_old sinks_new failed sound_old sound_new r
  WroteAt NoMemory sinks_old sinks_new failed sound_old sound_new r = WroteFronts taken faults sinks_old sinks_new failed sound_old sound_new r
  WroteAt SoundFault sinks_old sinks_new failed sound_old sound_new r = WroteFronts taken faults sinks_old sinks_new failed sound_old sound_new r

  -- The turns are played over the frames of each client. Those that arrive are the first of them, and at the end `Over`
  -- all of them. No turn comes after `/quit` was accepted.
  pub record PlaysMany (s : Settings) (base : ℕ) (streams : Streams) (turns : List Turn) (how : How) (sinks_old sinks_new : List R) (failed : List Bool) (sound_old sound_new : Option (List ℕ)) : Type 0 where
    pub turned : map turn_of (acts_from turns streams) ≡ turns
    pub fronts : (c : ℕ) → IsFront (frames_in c (acts_from turns streams)) (slice_index_or streams c [])
    pub whole : how ≡ Over → (c : ℕ) → c < length streams → frames_in c (acts_from turns streams) ≡ slice_index_or streams c []
    pub while_open : WhileOpen (acts_from turns streams) (start s base (length streams))
    pub ends : EndsWith how (after_acts (acts_from turns streams) (start s base (length streams)))
    pub wrote : WroteAt how sinks_old sinks_new failed sound_old sound_new (play_many s base streams turns how)

module _ {S R : Type 0} (left : S → Option (List ℕ)) (source_faults : S → ℕ) (taken : R → Option (List ℕ)) (sink_faults : R → ℕ) where
  -- A whole session. The streams are the frames that the readers put, and the flags say whose sinks have failed.
  -- `Over`, and a `Quit` that no boundary of the turns accepted, come only after the pulse gave 0, which it counted.
  pub record IsServed (s : Settings) (base : ℕ) (clients_old clients_new : List (Client S)) (sinks_old sinks_new : List R) (sound_old sound_new left_old left_new : Option (List ℕ)) (zeros_old zeros_new : ℕ) (how : How) (turns : List Turn) : Type 0 where
    pub streams : Streams
    pub failed : List Bool
    pub clients : (length streams ≡ length clients_old) × (length clients_new ≡ length clients_old)
    pub reads : (c : ℕ) (d : Client S) → c < length clients_old → Reads left source_faults how (slice_index_or failed c false) (slice_index_or clients_old c d) (slice_index_or clients_new c d) (slice_index_or streams c [])
    pub plays : PlaysMany taken sink_faults s base streams turns how sinks_old sinks_new failed sound_old sound_new
    pub at_zero : Bool
    pub gave : Gave at_zero left_old left_new (numbers_in (acts_from turns streams))
    pub zeros : Fails at_zero zeros_old zeros_new
    pub over : how ≡ Over → at_zero ≡ true
    pub quit : how ≡ Quit → (after_acts (acts_from turns streams) (start s base (length streams))).quit ≡ false → at_zero ≡ true
