-- What each end of a connection says.
use Rattle.std.specs.Prelude.{◌≡◌, ◌≤◌, ℕ, false, List, [], ◌∷◌, ◌++◌, length, Option}
use Rattle.std.specs.Io.KnownBytes.{Appends}
use Rattle.sn_ports.specs.Links.{LinkEvent, Takes, Known}
use Rattle.sn_ports.specs.Transfer.{Before}
use Rattle.sn_pcm.specs.declared.settings.Settings.{Settings}
use Rattle.sn_server.specs.declared.ended.Ended.{Ended}
use Rattle.sn_server.specs.declared.ended.Ended.TheVariants.{Quit, NoMemory, Closed, Cut, BadFrame, LinkFault, SoundFault, Worn}
use Rattle.sn_server.specs.PlayEvents.{Course, going, ended, is_worn, after_event, beginning, play_events}

-- what was taken begins with some bytes, and others begin with it
abbrev pub TakesBetween : Option (List ℕ) → Option (List ℕ) → List ℕ → List ℕ → Type 0
TakesBetween old new least most = (taken : List ℕ) × Appends old new taken × Before least taken × Before taken most

-- events, or prefixes of their bytes, are taken one after another
abbrev pub TakesEach : List LinkEvent → List LinkEvent → List LinkEvent → Type 0
TakesEach old [] new = new ≡ old
TakesEach old (e ∷ es) new = (between : List LinkEvent) × Takes old between e × TakesEach between es new

-- Each event is taken while the connection goes on, and before as many bytes came, or as many blocks were done, as may.
abbrev pub WhileOpen : List LinkEvent → Course → Type 0
WhileOpen [] c = Unit {0}
WhileOpen (e ∷ es) (ended o) = ⊥
WhileOpen (e ∷ es) (going v) = (is_worn v ≡ false) × WhileOpen es (after_event e (going v))

-- a fact about the ends that the events give, and another about faults and `NoMemory`
abbrev pub ByEnd : Ended → Type 0 → Type 0 → Type 0
ByEnd Quit P Q = P
ByEnd Closed P Q = P
ByEnd (Cut kept) P Q = P
ByEnd (BadFrame size) P Q = P
ByEnd (Worn n blocks) P Q = P
ByEnd NoMemory P Q = Q
ByEnd LinkFault P Q = Q
ByEnd SoundFault P Q = Q

-- The events that were taken give this end, and none was taken after it; the sink took the sound that they give, and
-- what they answer was sent. Each of this is said if it is known.
pub record IsServed (s : Settings) (base : ℕ) (left_old left_new : Option (List LinkEvent)) (sound_old sound_new sent_old sent_new : Option (List ℕ)) (how : Ended) : Type 0 where
  pub events : List LinkEvent
  pub taken : Known left_old left_new (λ old new. TakesEach old events new)
  pub while_open : WhileOpen events (going (beginning s base))
  pub ending : (play_events s base events).ending ≡ how
  pub sound : Appends sound_old sound_new (play_events s base events).sound
  pub sent : Appends sent_old sent_new (play_events s base events).sent

-- A fault or `NoMemory` cut the connection short. All events that were taken, except at most the last, were answered
-- whole: what was written and sent begins with what the whole ones give, and what all of them give begins with it. Each
-- of this is said if it is known.
pub record IsCutShort (s : Settings) (base : ℕ) (left_old left_new : Option (List LinkEvent)) (sound_old sound_new sent_old sent_new : Option (List ℕ)) : Type 0 where
  pub whole : List LinkEvent
  pub last : List LinkEvent
  pub one : length last ≤ 1
  pub taken : Known left_old left_new (λ old new. TakesEach old (whole ++ last) new)
  pub while_open : WhileOpen (whole ++ last) (going (beginning s base))
  pub sound : TakesBetween sound_old sound_new (play_events s base whole).sound (play_events s base (whole ++ last)).sound
  pub sent : TakesBetween sent_old sent_new (play_events s base whole).sent (play_events s base (whole ++ last)).sent

-- At an end that events give, those that were taken give it. A fault and `NoMemory` cut it short.
abbrev pub GivesEnd : Settings → ℕ → Option (List LinkEvent) → Option (List LinkEvent) → Option (List ℕ) → Option (List ℕ) → Option (List ℕ) → Option (List ℕ) → Ended → Type 0
GivesEnd s base left_old left_new sound_old sound_new sent_old sent_new how =
    ByEnd how (IsServed s base left_old left_new sound_old sound_new sent_old sent_new how) (IsCutShort s base left_old left_new sound_old sound_new sent_old sent_new)

-- if nothing more comes, no event is left
abbrev pub AtClose : Ended → Option (List LinkEvent) → Option (List LinkEvent) → Type 0
AtClose Closed left_old left_new = Known left_old left_new (λ old new. new ≡ [])
AtClose (Cut kept) left_old left_new = Known left_old left_new (λ old new. new ≡ [])
AtClose Quit left_old left_new = Unit {0}
AtClose (BadFrame size) left_old left_new = Unit {0}
AtClose (Worn n blocks) left_old left_new = Unit {0}
AtClose NoMemory left_old left_new = Unit {0}
AtClose LinkFault left_old left_new = Unit {0}
AtClose SoundFault left_old left_new = Unit {0}
