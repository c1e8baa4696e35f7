-- What the sinks of a session took of what was played.
use Rattle.std.specs.Prelude.{◌≡◌, ◌<◌, ℕ, Bool, true, false, List, [], length, replicate, Option, slice_index_or}
use Rattle.std.specs.Io.KnownBytes.{Appends}
use Rattle.sn_ports.specs.Causes.{Rose}
use Rattle.sn_engine.specs.Running.{Running}
use Rattle.sn_render.specs.Fronts.{TakesFront}

-- no bytes are left to be written
abbrev pub emptied : Running → Running
emptied r = record r { sound = []; replies = replicate (length r.replies) [] }

-- A sink took all that its client was to be sent. One that has failed took a prefix of it.
abbrev pub Hears : Bool → Option (List ℕ) → Option (List ℕ) → List ℕ → Type 0
Hears false old new said = Appends old new said
Hears true old new said = TakesFront old new said

-- what is counted has come, and the count rose, or it has not
abbrev pub Fails : Bool → ℕ → ℕ → Type 0
Fails false before now = now ≡ before
Fails true before now = Rose before now

-- What is sent at once. A sink that has failed before takes nothing more.
abbrev pub Sends : Bool → Bool → Option (List ℕ) → Option (List ℕ) → ℕ → ℕ → List ℕ → Type 0
Sends false failed old new before now said = Hears failed old new said × Fails failed before now
Sends true failed old new before now said = (failed ≡ true) × (new ≡ old) × (now ≡ before)

module _ {R : Type 0} (taken : R → Option (List ℕ)) (faults : R → ℕ) where
  -- each client's sink took what the client was to be sent, or a prefix of it if it has failed
  pub record AllHear (old new : List R) (failed : List Bool) (said : List (List ℕ)) : Type 0 where
    pub sinks : length new ≡ length old
    pub flags : length failed ≡ length old
    pub clients : length said ≡ length old
    pub hear : (c : ℕ) (d : R) → c < length old → Hears (slice_index_or failed c false) (taken (slice_index_or old c d)) (taken (slice_index_or new c d)) (slice_index_or said c [])
    pub fail : (c : ℕ) (d : R) → c < length old → Fails (slice_index_or failed c false) (faults (slice_index_or old c d)) (faults (slice_index_or new c d))

  -- a prefix of it in any case
  pub record AllHearFronts (old new : List R) (failed : List Bool) (said : List (List ℕ)) : Type 0 where
    pub sinks : length new ≡ length old
    pub flags : length failed ≡ length old
    pub clients : length said ≡ length old
    pub hear : (c : ℕ) (d : R) → c < length old → TakesFront (taken (slice_index_or old c d)) (taken (slice_index_or new c d)) (slice_index_or said c [])
    pub fail : (c : ℕ) (d : R) → c < length old → Fails (slice_index_or failed c false) (faults (slice_index_or old c d)) (faults (slice_index_or new c d))

  -- what is sent to all clients at once
  pub record AllSend (old new : List R) (failed_old failed_new : List Bool) (said : List (List ℕ)) : Type 0 where
    pub sinks : length new ≡ length old
    pub flags : length failed_new ≡ length old
    pub clients : length said ≡ length old
    pub sends : (c : ℕ) (d : R) → c < length old
        → Sends (slice_index_or failed_old c false) (slice_index_or failed_new c false) (taken (slice_index_or old c d)) (taken (slice_index_or new c d)) (faults (slice_index_or old c d)) (faults (slice_index_or new c d)) (slice_index_or said c [])

  -- all bytes of what was played were written, except that a sink that has failed took a prefix of what its client was
  -- to be sent
  pub record Wrote (sinks_old sinks_new : List R) (failed : List Bool) (sound_old sound_new : Option (List ℕ)) (r : Running) : Type 0 where
    pub sound : Appends sound_old sound_new r.sound
    pub replies : AllHear sinks_old sinks_new failed r.replies

  -- prefixes of the bytes were written
  pub record WroteFronts (sinks_old sinks_new : List R) (failed : List Bool) (sound_old sound_new : Option (List ℕ)) (r : Running) : Type 0 where
    pub sound : TakesFront sound_old sound_new r.sound
    pub replies : AllHearFronts sinks_old sinks_new failed r.replies

  -- an engine that plays on, and of which all was written
  pub record IsGoing (sinks_old sinks_new : List R) (failed : List Bool) (sound_old sound_new : Option (List ℕ)) (r e : Running) : Type 0 where
    pub engine : e ≡ emptied r
    pub wrote : Wrote sinks_old sinks_new failed sound_old sound_new r
