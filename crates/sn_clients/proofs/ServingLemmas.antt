-- A whole session: its clients, its turns and what was played over them.
use Rattle.std.proofs.Common.{◌≡◌, ◌≢◌, ◌⊎◌, ◌<◌, ◌≤◌, ◌++◌, ℕ, zero, suc, Bool, true, false, true≢false, if◌then◌else◌, List, [], ◌∷◌, All, length, map, replicate, Option, Some, None, Result, Ok, Err, OnOk, append-nil, refl, sym, ap, subst, ◌∙◌, inl, inr, lt_of_not-le, arith}
use Rattle.std.specs.Prelude.{slice_get, slice_index_or}
use Rattle.std.proofs.lemmas.List.Elements.{All-get_or, All-nil, All-push}
use Rattle.std.proofs.lemmas.List.{get_or-replicate, length-replicate}
use Rattle.std.proofs.KnownBytes.{Appends-nil, Consumes-nil}
use Rattle.std.specs.Io.KnownBytes.{Appends}
use mathlib.Core.Logic.{dite}
use native.Mathlib.Decide.{dec_le}
use Rattle.sn_ports.specs.Causes.{Rose}
use Rattle.sn_ports.specs.Limits.{most_entries}
use Rattle.sn_engine.specs.Running.{Running, at_boundary, opened}
use Rattle.sn_engine.specs.declared.standing.Flow.{Flow}
use Rattle.sn_engine.specs.declared.standing.Flow.TheVariants as flows
use Rattle.sn_render.proofs.StepLemmas.{holding}
use Rattle.sn_pcm.specs.declared.settings.Settings.{Settings}
use Rattle.sn_clients.specs.declared.clients.Client.{Client}
use Rattle.sn_clients.specs.declared.clients.ClientEnd.{ClientEnd}
use Rattle.sn_clients.specs.declared.clients.ClientEnd.TheVariants as client_ends
use Rattle.sn_clients.specs.declared.desk.Desk.{Desk}
use Rattle.sn_clients.specs.declared.ends.End.{End}
use Rattle.sn_clients.specs.declared.ends.Sender.{Sender}
use Rattle.sn_clients.specs.declared.playing.Halt.{Halt}
use Rattle.sn_clients.specs.declared.playing.Halt.TheVariants as halts
use Rattle.sn_clients.specs.declared.seats.Inlet.{Inlet}
use Rattle.sn_clients.specs.declared.seats.Relay.{Relay}
use Rattle.sn_clients.specs.declared.turns.How.{How}
use Rattle.sn_clients.specs.declared.turns.How.TheVariants as hows
use Rattle.sn_clients.specs.declared.turns.Turn.{Turn}
use Rattle.sn_clients.specs.Answers.{IsInletOf, IsNewInlet, end_of, has_found, sender_of}
use Rattle.sn_clients.specs.Clients.{HasInlet, IsRead, ReadTo, Seated}
use Rattle.sn_clients.specs.Delivery.{AllWereTaken, AreFronts, HasPut}
use Rattle.sn_clients.specs.Ends.{clients_in, gathered_in, new_sender, taken_in, with_gathered}
use Rattle.sn_clients.specs.Looping.{Counted, EndsTo, Gave, HaltsAt, HasClosed, HasDone, HasHalted, IsPlaying, IsSteady, RunsTo, frames_in, numbers_in, turn_of}
use Rattle.sn_clients.specs.Notes.{IsFront, frames_of}
use Rattle.sn_clients.specs.PlayMany.{Act, Played, Streams, WhileOpen, acts_from, after_acts, closed, start}
use Rattle.sn_clients.specs.Reading.{HasRead}
use Rattle.sn_clients.specs.Seating.{IsBegun, IsGathered, IsSeatOf, IsSeated, IsStopped, told}
use Rattle.sn_clients.specs.Serving.{EndsWith, IsServed, PlaysMany, Reads, WroteAt, how_of}
use Rattle.sn_clients.specs.Written.{AllHear, Fails, Hears, IsGoing, Wrote, WroteFronts}
use Rattle.sn_clients.proofs.ActLemmas.{acts_are, open_all}
use Rattle.sn_clients.proofs.EachLemmas.{grows_not}
use Rattle.sn_clients.proofs.LoopLemmas.{done_taken}
use Rattle.sn_clients.proofs.ReadLemmas.{ends_weaker}
use Rattle.sn_clients.proofs.WrittenLemmas.{wrote_fronts}

-- ---- clients

-- a client that was given an inlet has it
pub has_inlet : {S : Type 0} (relay : Relay) (number : ℕ) (old new : Client S) → IsSeated relay number old new → HasInlet relay number new
has_inlet relay number old new h = subst (λ (client : Client _). HasInlet relay number client) (sym h.seated) (h.fresh.inlet_of, h.fresh.nothing)

both_of : (P Q : Inlet → Type 0) (o : Option Inlet) → Seated P o → Seated Q o → (inlet : Inlet) × (o ≡ Some inlet) × P inlet × Q inlet
both_of P Q None p q = absurd p
both_of P Q (Some inlet) p q = (inlet, refl, p, q)

-- after its reader has ended, the inlet is of its seat
pub has_seat : {S : Type 0} (relay : Relay) (left : S → Option (List ℕ)) (faults : S → ℕ) (number : ℕ) (old new : Client S) → IsRead relay left faults number old new → IsSeatOf relay number new
has_seat relay left faults number old new h = seat_by relay left faults number old new new.inlet h.inlet
  where
    seat_by : {S : Type 0} (relay : Relay) (left : S → Option (List ℕ)) (faults : S → ℕ) (number : ℕ) (old new : Client S) (o : Option Inlet) → Seated (ReadTo relay left faults number old new) o → Seated (λ inlet. IsInletOf relay inlet × ((sender_of inlet).client ≡ number)) o
    seat_by relay left faults number old new None h = absurd h
    seat_by relay left faults number old new (Some inlet) h = (h.inlet_of, h.client)

moved : {S : Type 0} (left : S → Option (List ℕ)) (faults : S → ℕ) (how : How) (a b c d : S) (xs ys : List (List ℕ)) (e f : ClientEnd) → a ≡ b → c ≡ d → xs ≡ ys → e ≡ f → HasRead (left a) (left c) (Rose (faults a) (faults c)) (how ≢ hows.Over) xs e
    → HasRead (left b) (left d) (Rose (faults b) (faults d)) (how ≢ hows.Over) ys f
moved left faults how a b c d xs ys e f one two three four h = subst (λ (p : _ × _ × List (List ℕ) × ClientEnd). HasRead (left p.0) (left p.1) (Rose (faults p.0) (faults p.1)) (how ≢ hows.Over) p.2 p.3) (λ i. (one i, two i, three i, four i)) h

kept_so : {S : Type 0} (faults : S → ℕ) (e f : ClientEnd) (a b c d : S) → a ≡ b → d ≡ c → f ≡ e → (e ≡ client_ends.ReadFault) ⊎ (faults c ≡ faults a) → (f ≡ client_ends.ReadFault) ⊎ (faults d ≡ faults b)
kept_so faults e f a b c d begun ended same (inl is) = inl (same ∙ is)
kept_so faults e f a b c d begun ended same (inr kept) = inr (ap faults ended ∙ kept ∙ ap faults begun)

-- the whole way of a client
pub reads_one : {S : Type 0} (relay : Relay) (left : S → Option (List ℕ)) (faults : S → ℕ) (how : How) (failed : Bool) (number : ℕ) (stopped : Bool) (sender : Sender) (first seated read gathered last : Client S) → IsSeated relay number first seated
    → IsRead relay left faults number seated read → IsGathered stopped number read gathered sender → last ≡ told failed gathered → (how ≡ hows.Over → stopped ≡ false) → Reads left faults how failed first last sender.frames
reads_one relay left faults how failed number stopped sender first seated read gathered last s r g t still =
    let (inlet, is, a, b) = both_of (ReadTo relay left faults number seated read) (λ (i : Inlet). (sender_of i ≡ sender) × (has_found i ≡ true → stopped ≡ true)) read.inlet r.inlet g.inlet in
    let begun : seated.source ≡ first.source = ap (λ (c : Client _). c.source) s.seated in
    let ended : last.source ≡ read.source = ap (λ (c : Client _). c.source) t ∙ ap (λ (c : Client _). c.source) g.left in
    let same : last.read ≡ read.read = ap (λ (c : Client _). c.read) t ∙ ap (λ (c : Client _). c.read) g.left in
    let why : HasRead (left seated.source) (left read.source) (Rose (faults seated.source) (faults read.source)) (how ≢ hows.Over) (sender_of inlet).frames read.read = ends_weaker (left seated.source) (left read.source) (Rose (faults seated.source) (faults read.source)) (Rose (faults seated.source) (faults read.source)) (has_found inlet ≡ true) (how ≢ hows.Over) (sender_of inlet).frames read.read (λ h. h)
    (λ found over. true≢false (sym (b.1 found) ∙ still over)) a.read in
    record {
      read = moved left faults how seated.source first.source read.source last.source (sender_of inlet).frames sender.frames read.read last.read begun (sym ended) (ap (λ (x : Sender). x.frames) b.0) (sym same) why;
      end = ap (λ (c : Client _). c.end) t ∙ ap (λ (e : ClientEnd). if failed then client_ends.SendFault else e) (ap (λ (c : Client _). c.end) g.left ∙ r.same ∙ sym same);
      unfailed = kept_so faults read.read last.read seated.source first.source read.source last.source begun ended same r.unfailed;
    }

-- one more inlet was gathered
pub fronts_more : (e : End) (s : Sender) → AreFronts e → IsFront (frames_of s.client (taken_in e)) s.frames → AreFronts (with_gathered e s)
fronts_more e s all front = All-push (λ (x : Sender). IsFront (frames_of x.client (taken_in e)) x.frames) (gathered_in e) s all front

-- and none was
pub fronts_none : (e : End) → gathered_in e ≡ [] → AreFronts e
fronts_none e none = subst (λ (l : List Sender). All (λ (x : Sender). IsFront (frames_of x.client (taken_in e)) x.frames) l) (sym none) (All-nil (λ (x : Sender). IsFront (frames_of x.client (taken_in e)) x.frames))

-- ---- turns

-- each client's frames are the first of its stream
pub fronts_of : (desk : Desk) (acts : List Act) (streams : Streams) (at_zero : Bool) (left_old left_new : Option (List ℕ)) → HasDone at_zero left_old left_new desk acts → clients_in (end_of desk.outlet) ≡ length streams
    → ((c : ℕ) → c < length streams → IsFront (frames_of c (taken_in (end_of desk.outlet))) (slice_index_or streams c [])) → (c : ℕ) → IsFront (frames_in c acts) (slice_index_or streams c [])
fronts_of desk acts streams at_zero left_old left_new h many fronts c = dite (dec_le (length streams) c)
    (λ le. let none : frames_in c acts ≡ [] = h.others c (subst (λ (n : ℕ). n ≤ c) (sym many) le) in subst (λ (fs : List (List ℕ)). IsFront fs (slice_index_or streams c [])) (sym none) (slice_index_or streams c [], refl))
    (λ n. subst (λ (fs : List (List ℕ)). IsFront fs (slice_index_or streams c [])) (sym (h.frames c)) (fronts c (lt_of_not-le n)))

abbrev is_over : How → Bool
is_over hows.Over = true
is_over hows.Quit = false
is_over hows.NoMemory = false
is_over hows.SoundFault = false
is_over hows.TurnsFull = false

module _ {R : Type 0} (taken : R → Option (List ℕ)) (faults : R → ℕ) where
  pub plays_many : (s : Settings) (base : ℕ) (streams : Streams) (turns : List Turn) (acts : List Act) (how : How) (sinks_old sinks_new : List R) (failed : List Bool) (sound_old sound_new : Option (List ℕ)) → turns ≡ map turn_of acts
      → ((c : ℕ) → IsFront (frames_in c acts) (slice_index_or streams c [])) → (how ≡ hows.Over → (c : ℕ) → c < length streams → frames_in c acts ≡ slice_index_or streams c [])
      → WhileOpen acts (start s base (length streams)) → EndsWith how (after_acts acts (start s base (length streams))) → WroteAt taken faults how sinks_old sinks_new failed sound_old sound_new (closed how (after_acts acts (start s base (length streams))))
      → PlaysMany taken faults s base streams turns how sinks_old sinks_new failed sound_old sound_new
  plays_many s base streams turns acts how sinks_old sinks_new failed sound_old sound_new turned fronts whole open_so ends wrote =
      let same : acts_from turns streams ≡ acts = ap (λ (ts : List Turn). acts_from ts streams) turned ∙ acts_are acts streams fronts in
      record {
        turned = ap (map turn_of) same ∙ sym turned;
        fronts = λ c. subst (λ (later : List Act). IsFront (frames_in c later) (slice_index_or streams c [])) (sym same) (fronts c);
        whole = λ over c inside. ap (frames_in c) same ∙ whole over c inside;
        while_open = subst (λ (later : List Act). WhileOpen later (start s base (length streams))) (sym same) open_so;
        ends = subst (λ (later : List Act). EndsWith how (after_acts later (start s base (length streams)))) (sym same) ends;
        wrote = subst (λ (later : List Act). WroteAt taken faults how sinks_old sinks_new failed sound_old sound_new (closed how (after_acts later (start s base (length streams))))) (sym same) wrote;
      }

  never_over : {X : Type 0} (halt : Halt) → how_of (Err halt) ≡ hows.Over → X
  never_over halts.Quit e = absurd (true≢false (sym (ap is_over e)))
  never_over halts.NoMemory e = absurd (true≢false (sym (ap is_over e)))
  never_over halts.SoundFault e = absurd (true≢false (sym (ap is_over e)))
  never_over halts.TurnsFull e = absurd (true≢false (sym (ap is_over e)))

  -- an end of the loop
  pub halt_ends : (halt : Halt) (p : Played) (sinks_old sinks_new : List R) (failed : List Bool) (sound_old sound_new : Option (List ℕ)) → HaltsAt taken faults sinks_old sinks_new failed sound_old sound_new p halt
      → EndsWith (how_of (Err halt)) p × WroteAt taken faults (how_of (Err halt)) sinks_old sinks_new failed sound_old sound_new (closed (how_of (Err halt)) p)
  halt_ends halts.Quit p sinks_old sinks_new failed sound_old sound_new h =
      (inl h.0, subst (λ (b : Bool). Wrote taken faults sinks_old sinks_new failed sound_old sound_new (if b then p.play else at_boundary p.play)) (sym h.0) h.1)
  halt_ends halts.TurnsFull p sinks_old sinks_new failed sound_old sound_new h = (h.0, h.1)
  halt_ends halts.NoMemory p sinks_old sinks_new failed sound_old sound_new h = (tt, h)
  halt_ends halts.SoundFault p sinks_old sinks_new failed sound_old sound_new h = (tt, h)

  -- a boundary of the turns accepted `/quit`
  quit_at : (halt : Halt) (p : Played) (sinks_old sinks_new : List R) (failed : List Bool) (sound_old sound_new : Option (List ℕ)) → HaltsAt taken faults sinks_old sinks_new failed sound_old sound_new p halt → how_of (Err halt) ≡ hows.Quit → p.quit ≡ true
  quit_at halts.Quit p sinks_old sinks_new failed sound_old sound_new h e = h.0
  quit_at halts.NoMemory p sinks_old sinks_new failed sound_old sound_new h e = absurd cc
  quit_at halts.SoundFault p sinks_old sinks_new failed sound_old sound_new h e = absurd cc
  quit_at halts.TurnsFull p sinks_old sinks_new failed sound_old sound_new h e = absurd cc

  -- the last boundary, at which `/quit` was accepted
  pub quit_ends : (p : Played) (sinks_old sinks_new : List R) (failed : List Bool) (sound_old sound_new : Option (List ℕ)) → p.quit ≡ false → Wrote taken faults sinks_old sinks_new failed sound_old sound_new (at_boundary p.play)
      → WroteAt taken faults hows.Quit sinks_old sinks_new failed sound_old sound_new (closed hows.Quit p)
  quit_ends p sinks_old sinks_new failed sound_old sound_new going h = subst (λ (b : Bool). Wrote taken faults sinks_old sinks_new failed sound_old sound_new (if b then p.play else at_boundary p.play)) (sym going) h

  -- at the end of the loop
  pub plays_halted : (s : Settings) (base : ℕ) (streams : Streams) (desk : Desk) (halt : Halt) (sinks_old sinks_new : List R) (sound_old sound_new left_old left_new : Option (List ℕ)) (at_zero : Bool)
      → HasHalted taken faults (start s base (length streams)) sinks_old sinks_new sound_old sound_new at_zero left_old left_new desk halt → clients_in (end_of desk.outlet) ≡ length streams
      → ((c : ℕ) → c < length streams → IsFront (frames_of c (taken_in (end_of desk.outlet))) (slice_index_or streams c []))
      → PlaysMany taken faults s base streams desk.turns.items (how_of (Err halt)) sinks_old sinks_new desk.failed.items sound_old sound_new × Gave at_zero left_old left_new (numbers_in (acts_from desk.turns.items streams))
      × (how_of (Err halt) ≡ hows.Quit → (after_acts (acts_from desk.turns.items streams) (start s base (length streams))).quit ≡ true)
  plays_halted s base streams desk halt sinks_old sinks_new sound_old sound_new left_old left_new at_zero h many fronts =
      let all = fronts_of desk h.acts streams at_zero left_old left_new h.done many fronts in
      let ends = halt_ends halt (after_acts h.acts (start s base (length streams))) sinks_old sinks_new desk.failed.items sound_old sound_new h.halts in
      let same : acts_from desk.turns.items streams ≡ h.acts = ap (λ (ts : List Turn). acts_from ts streams) h.done.turned ∙ acts_are h.acts streams all in (
        plays_many s base streams desk.turns.items h.acts (how_of (Err halt)) sinks_old sinks_new desk.failed.items sound_old sound_new h.done.turned all (λ over. never_over halt over) h.while_open ends.0 ends.1,
        subst (λ (later : List Act). Gave at_zero left_old left_new (numbers_in later)) (sym same) h.done.numbers,
        λ quit. ap (λ (later : List Act). (after_acts later (start s base (length streams))).quit) same ∙ quit_at halt (after_acts h.acts (start s base (length streams))) sinks_old sinks_new desk.failed.items sound_old sound_new h.halts quit,
      )

  -- after the last boundary
  pub plays_closed : (s : Settings) (base : ℕ) (streams : Streams) (desk : Desk) (flow : Flow) (how : How) (sinks_old sinks_new : List R) (sound_old sound_new left_old left_new : Option (List ℕ))
      → (h : HasClosed taken faults flow (start s base (length streams)) sinks_old sinks_new sound_old sound_new left_old left_new desk) → clients_in (end_of desk.outlet) ≡ length streams
      → ((c : ℕ) → c < length streams → IsFront (frames_of c (taken_in (end_of desk.outlet))) (slice_index_or streams c []))
      → (how ≡ hows.Over → (c : ℕ) → c < length streams → frames_of c (taken_in (end_of desk.outlet)) ≡ slice_index_or streams c [])
      → EndsWith how (after_acts h.acts (start s base (length streams))) → WroteAt taken faults how sinks_old sinks_new desk.failed.items sound_old sound_new (closed how (after_acts h.acts (start s base (length streams))))
      → PlaysMany taken faults s base streams desk.turns.items how sinks_old sinks_new desk.failed.items sound_old sound_new × Gave true left_old left_new (numbers_in (acts_from desk.turns.items streams))
  plays_closed s base streams desk flow how sinks_old sinks_new sound_old sound_new left_old left_new h many fronts whole ends wrote =
      let all = fronts_of desk h.acts streams true left_old left_new h.done many fronts in
      let same : acts_from desk.turns.items streams ≡ h.acts = ap (λ (ts : List Turn). acts_from ts streams) h.done.turned ∙ acts_are h.acts streams all in (
        plays_many s base streams desk.turns.items h.acts how sinks_old sinks_new desk.failed.items sound_old sound_new h.done.turned all (λ over c inside. h.done.frames c ∙ whole over c inside) (open_all h.acts (start s base (length streams)) h.goes_on) ends wrote,
        subst (λ (later : List Act). Gave true left_old left_new (numbers_in later)) (sym same) h.done.numbers,
      )

  -- what is known of the turns at the end of a session
  pub record IsPlayed (s : Settings) (base : ℕ) (streams : Streams) (desk : Desk) (how : How) (sinks_old sinks_new : List R) (sound_old sound_new left_old left_new : Option (List ℕ)) (zeros_old zeros_new : ℕ) : Type 0 where
    pub plays : PlaysMany taken faults s base streams desk.turns.items how sinks_old sinks_new desk.failed.items sound_old sound_new
    pub at_zero : Bool
    pub gave : Gave at_zero left_old left_new (numbers_in (acts_from desk.turns.items streams))
    pub zeros : Fails at_zero zeros_old zeros_new
    pub over : how ≡ hows.Over → at_zero ≡ true
    pub quit : how ≡ hows.Quit → (after_acts (acts_from desk.turns.items streams) (start s base (length streams))).quit ≡ false → at_zero ≡ true

  pub ends_played : (s : Settings) (base : ℕ) (streams : Streams) (desk : Desk) (r : Result (Unit {0}) Halt) (sinks_old sinks_new : List R) (sound_old sound_new left_old left_new : Option (List ℕ)) (zeros_old zeros_new : ℕ)
      → EndsTo taken faults (start s base (length streams)) sinks_old sinks_new sound_old sound_new left_old left_new zeros_old zeros_new desk r → clients_in (end_of desk.outlet) ≡ length streams
      → ((c : ℕ) → c < length streams → IsFront (frames_of c (taken_in (end_of desk.outlet))) (slice_index_or streams c []))
      → OnOk r ((c : ℕ) → c < length streams → frames_of c (taken_in (end_of desk.outlet)) ≡ slice_index_or streams c []) → IsPlayed s base streams desk (how_of r) sinks_old sinks_new sound_old sound_new left_old left_new zeros_old zeros_new
  ends_played s base streams desk (Ok x) sinks_old sinks_new sound_old sound_new left_old left_new zeros_old zeros_new z many fronts whole =
      let (rose, h) = z in
      let p = plays_closed s base streams desk flows.On hows.Over sinks_old sinks_new sound_old sound_new left_old left_new h many fronts (λ over. whole) (h.goes_on, h.flow_is) h.wrote in
      record { plays = p.0; at_zero = true; gave = p.1; zeros = rose; over = λ over. refl; quit = λ quit going. refl }
  ends_played s base streams desk (Err halt) sinks_old sinks_new sound_old sound_new left_old left_new zeros_old zeros_new (inl z) many fronts whole =
      let (at_zero, counted, h) = z in
      let p = plays_halted s base streams desk halt sinks_old sinks_new sound_old sound_new left_old left_new at_zero h many fronts in
      record { plays = p.0; at_zero = at_zero; gave = p.1; zeros = counted; over = λ over. never_over halt over; quit = λ quit going. absurd (true≢false (sym (p.2 quit) ∙ going)) }
  ends_played s base streams desk (Err halt) sinks_old sinks_new sound_old sound_new left_old left_new zeros_old zeros_new (inr z) many fronts whole =
      let (is, rose, h) = z in
      let p = plays_closed s base streams desk flows.Quit hows.Quit sinks_old sinks_new sound_old sound_new left_old left_new h many fronts (λ over. absurd (true≢false (sym (ap is_over over)))) (inr h.flow_is)
      (quit_ends (after_acts h.acts (start s base (length streams))) sinks_old sinks_new desk.failed.items sound_old sound_new h.goes_on h.wrote) in
      subst (λ (k : Halt). IsPlayed s base streams desk (how_of (Err k)) sinks_old sinks_new sound_old sound_new left_old left_new zeros_old zeros_new) (sym is) (record { plays = p.0; at_zero = true; gave = p.1; zeros = rose; over = λ over. refl; quit = λ quit going. refl })

  -- ---- the beginning

  -- nothing was to be sent, and nothing was
  nothing_heard : (clients : ℕ) (sinks : List R) (failed : List Bool) → length sinks ≡ clients → failed ≡ replicate clients false → AllHear taken faults sinks sinks failed (replicate clients [])
  nothing_heard clients sinks failed many none = record {
    sinks = refl;
    flags = ap length none ∙ length-replicate clients false ∙ sym many;
    clients = length-replicate clients [] ∙ sym many;
    hear = λ c d inside. subst (λ (p : Bool × List ℕ). Hears p.0 (taken (slice_index_or sinks c d)) (taken (slice_index_or sinks c d)) p.1) (λ i. (sym (flag c (within c inside)) i, sym (get_or-replicate clients c [] [] (within c inside)) i))
        (Appends-nil (taken (slice_index_or sinks c d)));
    fail = λ c d inside. subst (λ (b : Bool). Fails b (faults (slice_index_or sinks c d)) (faults (slice_index_or sinks c d))) (sym (flag c (within c inside))) refl;
  }
    where
      within : (c : ℕ) → c < length sinks → c < clients
      within c inside = subst (λ (n : ℕ). c < n) many inside

      flag : (c : ℕ) → c < clients → slice_index_or failed c false ≡ false
      flag c inside = ap (λ (l : List Bool). slice_index_or l c false) none ∙ get_or-replicate clients c false false inside

  pub begins : (relay : Relay) (s : Settings) (base clients : ℕ) (desk : Desk) (sinks : List R) (sound left : Option (List ℕ)) → IsBegun relay s base clients desk → length sinks ≡ clients
      → IsPlaying taken faults (start s base clients) sinks sinks sound sound false left left desk
  begins relay s base clients desk sinks sound left h many = record {
    acts = [];
    done = record {
      turned = h.turns;
      frames = λ c. ap (λ (e : End). frames_of c (taken_in e)) (sym h.outlet.nothing);
      others = λ c le. refl;
      numbers = Consumes-nil left;
    };
    goes_on = refl;
    going = record {
      engine = h.engine ∙ ap (λ (n : ℕ). holding [] (replicate n []) (opened s base (Some most_entries) clients)) (sym (length-replicate clients []));
      wrote = record { sound = Appends-nil sound; replies = nothing_heard clients sinks desk.failed.items many h.failed };
    };
  }

-- the outlet changed, and neither what it took nor how many inlets were made
pub runs_gathered : {R : Type 0} (taken : R → Option (List ℕ)) (faults : R → ℕ) (first : Played) (sinks_old sinks_new : List R) (sound_old sound_new left_old left_new : Option (List ℕ)) (zeros_old zeros_new : ℕ) (old new : Desk) (r : Result (Unit {0}) Halt)
    → new.turns.items ≡ old.turns.items → new.failed.items ≡ old.failed.items → new.engine.running ≡ old.engine.running → taken_in (end_of new.outlet) ≡ taken_in (end_of old.outlet) → clients_in (end_of new.outlet) ≡ clients_in (end_of old.outlet)
    → RunsTo taken faults first sinks_old sinks_new sound_old sound_new left_old left_new zeros_old zeros_new old r → RunsTo taken faults first sinks_old sinks_new sound_old sound_new left_old left_new zeros_old zeros_new new r
runs_gathered taken faults first sinks_old sinks_new sound_old sound_new left_old left_new zeros_old zeros_new old new (Ok x) turns flags engine took many h =
    let (rose, k) = h in (
      rose,
      record {
        acts = k.acts;
        done = done_taken true left_old left_new old new k.acts k.done turns took many;
        goes_on = k.goes_on;
        going = subst (λ (p : List Bool × Running). IsGoing taken faults sinks_old sinks_new p.0 sound_old sound_new (after_acts k.acts first).play p.1) (λ i. (sym flags i, sym engine i)) k.going;
      },
    )
runs_gathered taken faults first sinks_old sinks_new sound_old sound_new left_old left_new zeros_old zeros_new old new (Err halt) turns flags engine took many h =
    let (at_zero, counted, k) = h in (
      at_zero,
      counted,
      record {
        acts = k.acts;
        done = done_taken at_zero left_old left_new old new k.acts k.done turns took many;
        while_open = k.while_open;
        halts = subst (λ (failed : List Bool). HaltsAt taken faults sinks_old sinks_new failed sound_old sound_new (after_acts k.acts first) halt) (sym flags) k.halts;
      },
    )

-- an end that is Over
pub over_gives : {Q : Type 0} (r : Result (Unit {0}) Halt) → how_of r ≡ hows.Over → OnOk r Q → Q
over_gives (Ok x) e q = q
over_gives (Err halts.Quit) e q = absurd (true≢false (sym (ap is_over e)))
over_gives (Err halts.NoMemory) e q = absurd (true≢false (sym (ap is_over e)))
over_gives (Err halts.SoundFault) e q = absurd (true≢false (sym (ap is_over e)))
over_gives (Err halts.TurnsFull) e q = absurd (true≢false (sym (ap is_over e)))

-- which end an end is
pub full_is : (r : Result (Unit {0}) Halt) → how_of r ≡ hows.TurnsFull → r ≡ Err halts.TurnsFull
full_is (Ok x) e = absurd cc
full_is (Err halts.Quit) e = absurd cc
full_is (Err halts.NoMemory) e = absurd cc
full_is (Err halts.SoundFault) e = absurd cc
full_is (Err halts.TurnsFull) e = refl

pub fault_is : (r : Result (Unit {0}) Halt) → how_of r ≡ hows.SoundFault → r ≡ Err halts.SoundFault
fault_is (Ok x) e = absurd cc
fault_is (Err halts.Quit) e = absurd cc
fault_is (Err halts.NoMemory) e = absurd cc
fault_is (Err halts.SoundFault) e = refl
fault_is (Err halts.TurnsFull) e = absurd cc

-- what is counted of the sink for the sound at an end
pub sound_rose : (r : Result (Unit {0}) Halt) (before now : ℕ) → Counted r before now → how_of r ≡ hows.SoundFault → Rose before now
sound_rose r before now h e = subst (λ (q : Result (Unit {0}) Halt). Counted q before now) (fault_is r e) h

pub sound_kept : (r : Result (Unit {0}) Halt) (before now : ℕ) → Counted r before now → (how_of r ≡ hows.SoundFault) ⊎ (now ≡ before)
sound_kept (Ok x) before now h = inr h
sound_kept (Err halts.Quit) before now h = inr h
sound_kept (Err halts.NoMemory) before now h = inr h
sound_kept (Err halts.SoundFault) before now h = inl refl
sound_kept (Err halts.TurnsFull) before now h = inr h

-- some element of a list that has one
pub some_of : {X : Type 0} (xs : List X) (c : ℕ) → c < length xs → X
some_of [] c inside = absurd (omega (arith, inside))
some_of (x ∷ xs) c inside = x

pub begins_steady : (relay : Relay) (s : Settings) (base clients most : ℕ) (desk : Desk) → IsBegun relay s base clients desk → 1 ≤ most → IsSteady most clients desk
begins_steady relay s base clients most desk h some = record {
  settled = ap (λ (r : Running). r.standing) h.engine;
  puts = omega (arith, ap (λ (r : Running). r.waiting.puts) h.engine);
  block = omega (arith, ap (λ (r : Running). r.block) h.engine);
  few = omega (arith, ap length h.turns, some);
  clients = ap (λ (r : Running). length r.replies) h.engine ∙ length-replicate clients [];
  flags = ap length h.failed ∙ length-replicate clients false;
}

-- ---- the streams

at_map : (senders : List Sender) (c : ℕ) (d : Sender) → c < length senders → slice_index_or (map (λ (s : Sender). s.frames) senders) c [] ≡ (slice_index_or senders c d).frames
at_map [] c d inside = absurd (omega (arith, inside))
at_map (s ∷ ss) zero d inside = refl
at_map (s ∷ ss) (suc c) d inside = at_map ss c d (omega (arith, inside))

pub many_streams : (senders : List Sender) → length (map (λ (s : Sender). s.frames) senders) ≡ length senders
many_streams [] = refl
many_streams (s ∷ ss) = ap suc (many_streams ss)

-- each sender stands at its client's number
abbrev pub StandInTurn : List Sender → Type 0
StandInTurn senders = (c : ℕ) (d : Sender) → c < length senders → (slice_index_or senders c d).client ≡ c

nobody : Sender
nobody = new_sender 0

pub fronts_at : (end : End) (senders : List Sender) → gathered_in end ≡ senders → StandInTurn senders → AreFronts end → (c : ℕ) → c < length (map (λ (s : Sender). s.frames) senders) → IsFront (frames_of c (taken_in end)) (slice_index_or (map (λ (s : Sender). s.frames) senders) c [])
fronts_at end senders same turn fronts c inside =
    let within : c < length senders = subst (λ (n : ℕ). c < n) (many_streams senders) inside in
    let all = subst (λ (l : List Sender). All (λ (s : Sender). IsFront (frames_of s.client (taken_in end)) s.frames) l) same fronts in
    let one = All-get_or (λ (s : Sender). IsFront (frames_of s.client (taken_in end)) s.frames) senders c nobody within all in
    let here : IsFront (frames_of c (taken_in end)) (slice_index_or senders c nobody).frames = subst (λ (k : ℕ). IsFront (frames_of k (taken_in end)) (slice_index_or senders c nobody).frames) (turn c nobody within) one in
    subst (λ (fs : List (List ℕ)). IsFront (frames_of c (taken_in end)) fs) (sym (at_map senders c nobody within)) here

pub whole_at : (end : End) (senders : List Sender) → gathered_in end ≡ senders → StandInTurn senders → AllWereTaken end → (c : ℕ) → c < length (map (λ (s : Sender). s.frames) senders) → frames_of c (taken_in end) ≡ slice_index_or (map (λ (s : Sender). s.frames) senders) c []
whole_at end senders same turn taken c inside =
    let within : c < length senders = subst (λ (n : ℕ). c < n) (many_streams senders) inside in
    let all = subst (λ (l : List Sender). All (HasPut (taken_in end)) l) same taken in
    let one : (slice_index_or senders c nobody).frames ≡ frames_of (slice_index_or senders c nobody).client (taken_in end) = All-get_or (HasPut (taken_in end)) senders c nobody within all in
    sym (at_map senders c nobody within ∙ one ∙ ap (λ (k : ℕ). frames_of k (taken_in end)) (turn c nobody within))

-- ---- all together

pub served : {S R : Type 0} (relay : Relay) (left : S → Option (List ℕ)) (faults : S → ℕ) (taken : R → Option (List ℕ)) (sink_faults : R → ℕ) (s : Settings) (base : ℕ) (first seated read gathered last : List (Client S)) (senders : List Sender) (stopped : Bool)
    (desk : Desk) (how : How) (sinks_old sinks_new : List R) (sound_old sound_new left_old left_new : Option (List ℕ)) (zeros_old zeros_new : ℕ) → length seated ≡ length first → length read ≡ length seated → length gathered ≡ length read → length last ≡ length gathered → length senders ≡ length read
    → ((c : ℕ) (d : Client S) → c < length first → IsSeated relay c (slice_index_or first c d) (slice_index_or seated c d))
    → ((c : ℕ) (d : Client S) → c < length seated → IsRead relay left faults c (slice_index_or seated c d) (slice_index_or read c d))
    → ((c : ℕ) (d : Client S) (k : Sender) → c < length read → IsGathered stopped c (slice_index_or read c d) (slice_index_or gathered c d) (slice_index_or senders c k))
    → ((c : ℕ) (d : Client S) → c < length gathered → slice_index_or last c d ≡ told (slice_index_or desk.failed.items c false) (slice_index_or gathered c d)) → (how ≡ hows.Over → stopped ≡ false)
    → IsPlayed taken sink_faults s base (map (λ (k : Sender). k.frames) senders) desk how sinks_old sinks_new sound_old sound_new left_old left_new zeros_old zeros_new
    → IsServed left faults taken sink_faults s base first last sinks_old sinks_new sound_old sound_new left_old left_new zeros_old zeros_new how desk.turns.items
served relay left faults taken sink_faults s base first seated read gathered last senders stopped desk how sinks_old sinks_new sound_old sound_new left_old left_new zeros_old zeros_new one two three four many seats reads gathers tells still p = record {
  streams = map (λ (k : Sender). k.frames) senders;
  failed = desk.failed.items;
  clients = (many_streams senders ∙ many ∙ two ∙ one, four ∙ three ∙ two ∙ one);
  reads = λ c d inside.
      let a = subst (λ (n : ℕ). c < n) (sym one) inside in
      let b = subst (λ (n : ℕ). c < n) (sym two) a in
      let e = subst (λ (n : ℕ). c < n) (sym three) b in
      subst (Reads left faults how (slice_index_or desk.failed.items c false) (slice_index_or first c d) (slice_index_or last c d)) (sym (at_map senders c nobody (subst (λ (n : ℕ). c < n) (sym many) b)))
      (reads_one relay left faults how (slice_index_or desk.failed.items c false) c stopped (slice_index_or senders c nobody) (slice_index_or first c d) (slice_index_or seated c d) (slice_index_or read c d) (slice_index_or gathered c d) (slice_index_or last c d)
      (seats c d inside) (reads c d a) (gathers c d nobody b) (tells c d e) still);
  plays = p.plays;
  at_zero = p.at_zero;
  gave = p.gave;
  zeros = p.zeros;
  over = p.over;
  quit = p.quit;
}

-- ---- no memory

never_quit : hows.NoMemory ≡ hows.Quit → ⊥
never_quit e = cc

nothing_read : {S : Type 0} (left : S → Option (List ℕ)) (faults : S → ℕ) (old new : Client S) → IsStopped old new → HasRead (left old.source) (left new.source) (Rose (faults old.source) (faults new.source)) (hows.NoMemory ≢ hows.Over) [] new.read
nothing_read left faults old new h =
    let none : HasRead (left old.source) (left old.source) (Rose (faults old.source) (faults old.source)) (hows.NoMemory ≢ hows.Over) [] client_ends.Stopped = record {
      bytes = [];
      rest = [];
      taken = Consumes-nil (left old.source);
      cut_so = record { whole = refl; sized = tt };
      why = λ e. absurd (true≢false (sym (ap is_over e)));
    } in
    moved left faults hows.NoMemory old.source old.source old.source new.source [] [] client_ends.Stopped new.read refl (sym h.source) refl (sym h.read) none

-- a session that has not begun
pub served_not : {S R : Type 0} (left : S → Option (List ℕ)) (faults : S → ℕ) (taken : R → Option (List ℕ)) (sink_faults : R → ℕ) (s : Settings) (base : ℕ) (first last : List (Client S)) (sinks : List R) (sound numbers : Option (List ℕ)) (given : ℕ) → length last ≡ length first → length sinks ≡ length first
    → ((c : ℕ) (d : Client S) → c < length first → IsStopped (slice_index_or first c d) (slice_index_or last c d)) → IsServed left faults taken sink_faults s base first last sinks sinks sound sound numbers numbers given given hows.NoMemory []
served_not left faults taken sink_faults s base first last sinks sound numbers given many as_many_sinks stopped =
    let n = length first in
    let streams : Streams = replicate n [] in
    let same : length streams ≡ n = length-replicate n [] in
    let m = length streams in
    let failed = replicate m false in
    let nothing : Wrote taken sink_faults sinks sinks failed sound sound (opened s base (Some most_entries) m) = record { sound = Appends-nil sound; replies = nothing_heard taken sink_faults m sinks failed (as_many_sinks ∙ sym same) refl } in
    let p = opened s base (Some most_entries) m in
    record {
      streams = streams;
      failed = failed;
      clients = (same, many);
      reads = λ c d inside.
          let h = stopped c d inside in
          let quiet : slice_index_or failed c false ≡ false = get_or-replicate m c false false (subst (λ (k : ℕ). c < k) (sym same) inside) in
          record {
            read = subst (λ (frames : List (List ℕ)). HasRead (left (slice_index_or first c d).source) (left (slice_index_or last c d).source) (Rose (faults (slice_index_or first c d).source) (faults (slice_index_or last c d).source)) (hows.NoMemory ≢ hows.Over) frames (slice_index_or last c d).read)
                (sym (get_or-replicate n c [] [] inside)) (nothing_read left faults (slice_index_or first c d) (slice_index_or last c d) h);
            end = h.end ∙ sym h.read ∙ ap (λ (b : Bool). if b then client_ends.SendFault else (slice_index_or last c d).read) (sym quiet);
            unfailed = inr (ap faults h.source);
          };
      plays = plays_many taken sink_faults s base streams [] [] hows.NoMemory sinks sinks failed sound sound refl (λ c. (slice_index_or streams c [], refl)) (λ over. absurd (true≢false (sym (ap is_over over)))) tt tt
          (wrote_fronts taken sink_faults sinks sinks failed sound sound p p (grows_not p) nothing);
      at_zero = false;
      gave = Consumes-nil numbers;
      zeros = refl;
      over = λ over. absurd (true≢false (sym (ap is_over over)));
      quit = λ quit going. absurd (never_quit quit);
    }
