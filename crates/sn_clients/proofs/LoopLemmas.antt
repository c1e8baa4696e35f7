-- The loop of a session, turn by turn.
use Rattle.std.proofs.Common.{◌≡◌, ◌≢◌, ◌⊎◌, ℕ, ◌+◌, ◌*◌, ◌<◌, ◌≤◌, ◌++◌, ◌==◌, Bool, true, false, not, if◌then◌else◌, ne_eqb, List, [], ◌∷◌, length, length-append, map, Option, Result, Ok, Err, IsErrAnd, OnOk, append-nil, refl, sym, ap, subst, ◌∙◌, inl, inr, arith}
use Rattle.std.specs.Io.KnownBytes.{Appends, Consumes, IsAtEnd, Keeps}
use Rattle.std.proofs.KnownBytes.{Appends-nil, Consumes-kept, Consumes-trans}
use Rattle.std.specs.Int.{w64, to_be_bytes}
use Rattle.std.specs.Prelude.{IfErr, OnErr, replicate}
use Rattle.sn_osc.specs.Bytes.{bundle_head, elements_bytes}
use Rattle.sn_osc.proofs.Encoded.{packet_is}
use Rattle.sn_osc.specs.Grammar.{Spells}
use Rattle.sn_osc.specs.Reading.{read}
use Rattle.sn_osc.specs.Shape.{Shape, message, bundle}
use Rattle.sn_osc.specs.declared.fault.PacketFault.{PacketFault}
use Rattle.sn_reply.proofs.FrameLaws.{as_many}
use Rattle.sn_engine.specs.Arriving.{IsSpelled, Offered, is_full, next_boundary, nothing_offered, offer_entries, offer_entry, offered, refusal_of, with_offered}
use Rattle.sn_engine.specs.Entries.{Timed, entries_of}
use Rattle.sn_engine.specs.Refusing.{bad_packet}
use Rattle.sn_engine.specs.Running.{Running, at_boundary, flow_at}
use Rattle.sn_engine.specs.declared.standing.Flow.{Flow}
use Rattle.sn_engine.specs.declared.standing.Flow.TheVariants as flows
use Rattle.sn_engine.specs.declared.standing.Standing.TheVariants.{Settled}
use Rattle.sn_engine.proofs.PutLemmas.{entries_few}
use Rattle.sn_queue.specs.Steps.{put}
use Rattle.sn_render.proofs.ArrivingLemmas.{StaysAt}
use Rattle.sn_ports.specs.Causes.{Rose}
use Rattle.sn_ports.specs.Limits.{most_packet, most_ticks}
use Rattle.sn_ports.specs.declared.failed.NoMemory.{NoMemory}
use Rattle.sn_clients.specs.declared.desk.Desk.{Desk}
use Rattle.sn_clients.specs.declared.ends.End.{End}
use Rattle.sn_clients.specs.declared.notes.Note.{Note}
use Rattle.sn_clients.specs.declared.playing.Halt.{Halt}
use Rattle.sn_clients.specs.declared.playing.Halt.TheVariants as halts
use Rattle.sn_clients.specs.declared.turns.Turn.{Turn}
use Rattle.sn_clients.specs.declared.turns.Turn.TheVariants.{Frame, Ticks}
use Rattle.sn_clients.specs.Answers.{end_of}
use Rattle.sn_clients.specs.Delivery.{AreFronts, Taken}
use Rattle.sn_clients.specs.Ends.{clients_in, gathered_in, taken_in}
use Rattle.sn_clients.specs.Notes.{frames_of}
use Rattle.sn_clients.specs.Looping.{Asked, Closed, Closes, ClosesAt, EndsTo, Gave, HaltsAt, HasClosed, HasDone, HasHalted, HasReceived, IsPlaying, IsSteady, PlaysOn, PlaysTo, Received, RunsTo, SameInlets, StaysAs, frames_in, numbers_in, turn_of}
use Rattle.sn_clients.specs.PlayMany.{Act, Played, acted, after_acts, arrived, arrives, blocks, ticks, with_packet}
use Rattle.sn_clients.specs.Pulses.{Gives, GivesToZero}
use Rattle.sn_clients.specs.Written.{AllSend, Fails, IsGoing, Wrote, WroteFronts, emptied}
use Rattle.sn_clients.proofs.ActLemmas.{acts_go_on, frames_in-append, numbers_in-append, open_all, open_last, turns-append}
use Rattle.sn_clients.proofs.EachLemmas.{arrived_step, boundary_step, grows, grows_not}
use Rattle.sn_clients.proofs.NoteLemmas.{frames-append}
use Rattle.sn_clients.proofs.WrittenLemmas.{going_on, wrote_fronts, wrote_on}

-- ---- a packet that arrives

pub packet_stays : (client : ℕ) (x : Result Shape PacketFault) (r : Running) → StaysAt r (with_packet client x r)
packet_stays client (Ok x) r = record { settings = refl; standing = refl; block = refl; sound = refl; clients = as_many 0 (offered client (entries_of x) r).replies r.replies }
packet_stays client (Err fault) r = record { settings = refl; standing = refl; block = refl; sound = refl; clients = as_many 0 (bad_packet client ∷ []) r.replies }

put_one : (b : Bool) (boundary from : ℕ) (e : Timed) (o : Offered)
    → (if b then record o { replies = o.replies ++ refusal_of from e ∷ []; refused = o.refused + 1 } else record o { waiting = put o.waiting e.tag boundary from e.messages }).waiting.puts ≤ o.waiting.puts + 1
put_one true boundary from e o = omega arith
put_one false boundary from e o = omega arith

pub offered_puts : (boundary from : ℕ) (es : List Timed) (o : Offered) → (offer_entries boundary from es o).waiting.puts ≤ o.waiting.puts + length es
offered_puts boundary from [] o = omega arith
offered_puts boundary from (e ∷ es) o = omega (arith, offered_puts boundary from es (offer_entry boundary from e o), put_one (is_full o.waiting) boundary from e o)

-- a packet has no more entries than it may have bytes
pub entries_at_most : (x : Shape) (bytes : List ℕ) → Spells x bytes → length bytes ≤ most_packet → length (entries_of x) ≤ most_packet
entries_at_most (message m) bytes spelled few = omega arith
entries_at_most (bundle tag inner) bytes spelled few =
    let len = ap length (packet_is (bundle tag inner) 8 1 bytes spelled).0 in
    let four : 4 ≤ length bytes = omega (arith, len, length-append (bundle_head ++ to_be_bytes w64 tag) (elements_bytes inner), length-append bundle_head (to_be_bytes w64 tag)) in
    omega (arith, entries_few (bundle tag inner) bytes spelled four, few)

pub packet_puts : (client : ℕ) (x : Shape) (bytes : List ℕ) (old new : Running) → Spells x bytes → length bytes ≤ most_packet → new ≡ with_offered client (entries_of x) old → new.waiting.puts ≤ old.waiting.puts + most_packet
packet_puts client x bytes old new spelled few is =
    omega (arith, ap (λ (r : Running). r.waiting.puts) is, offered_puts (next_boundary old) client (entries_of x) (nothing_offered old.waiting), entries_at_most x bytes spelled few)

-- ---- what was done

-- the turns stay, and what the outlet took
pub done_taken : (at_zero : Bool) (left_old left_new : Option (List ℕ)) (old new : Desk) (acts : List Act) → HasDone at_zero left_old left_new old acts → new.turns.items ≡ old.turns.items → taken_in (end_of new.outlet) ≡ taken_in (end_of old.outlet)
    → clients_in (end_of new.outlet) ≡ clients_in (end_of old.outlet) → HasDone at_zero left_old left_new new acts
done_taken at_zero left_old left_new old new acts h turns took many = record {
  turned = turns ∙ h.turned;
  frames = λ c. h.frames c ∙ ap (frames_of c) (sym took);
  others = λ c le. h.others c (subst (λ (n : ℕ). n ≤ c) many le);
  numbers = h.numbers;
}

-- the turns and the outlet stay
pub done_moved : (at_zero : Bool) (left_old left_new : Option (List ℕ)) (old new : Desk) (acts : List Act) → HasDone at_zero left_old left_new old acts → new.turns.items ≡ old.turns.items → end_of new.outlet ≡ end_of old.outlet → HasDone at_zero left_old left_new new acts
done_moved at_zero left_old left_new old new acts h turns end = done_taken at_zero left_old left_new old new acts h turns (ap taken_in end) (ap clients_in end)

pub done_same : (at_zero : Bool) (left_old left_new : Option (List ℕ)) (old new : Desk) (acts : List Act) → HasDone at_zero left_old left_new old acts → StaysAs old new → HasDone at_zero left_old left_new new acts
done_same at_zero left_old left_new old new acts h s = done_moved at_zero left_old left_new old new acts h s.turns s.end

gave_same : (at_zero : Bool) (left_old left_new : Option (List ℕ)) (xs ys : List ℕ) → xs ≡ ys → Gave at_zero left_old left_new xs → Gave at_zero left_old left_new ys
gave_same at_zero left_old left_new xs ys e h = subst (Gave at_zero left_old left_new) e h

below : (n c k : ℕ) → k < n → n ≤ c → k ≢ c
below n c k lt le e = omega (arith, lt, le, e)

none_of : (c : ℕ) (note : Note) → note.client ≢ c → frames_of c (note ∷ []) ≡ []
none_of c note n = ap (λ (b : Bool). if b then note.frame.bytes ∷ [] else []) (ne_eqb note.client c n)

pub done_frame : (at_zero : Bool) (left_old left_new : Option (List ℕ)) (old new : Desk) (note : Note) (acts : List Act) → HasDone at_zero left_old left_new old acts → HasReceived old new note
    → HasDone at_zero left_old left_new new (acts ++ arrives note.client note.frame.bytes ∷ [])
done_frame at_zero left_old left_new old new note acts h r =
    let act = arrives note.client note.frame.bytes in
    let taken = taken_in (end_of old.outlet) in
    record {
      turned = r.turns ∙ ap (λ (ts : List Turn). ts ++ Frame note.client ∷ []) h.turned ∙ sym (turns-append acts act);
      frames = λ c. frames_in-append c acts (act ∷ []) ∙ ap (λ (fs : List (List ℕ)). fs ++ frames_of c (note ∷ [])) (h.frames c) ∙ sym (frames-append c taken (note ∷ [])) ∙ ap (λ e. frames_of c (taken_in e)) (sym r.end.end);
      others = λ c le. let many : clients_in (end_of old.outlet) ≤ c = subst (λ (n : ℕ). n ≤ c) (ap clients_in r.end.end) le in
          frames_in-append c acts (act ∷ []) ∙ ap (λ (fs : List (List ℕ)). fs ++ frames_in c (act ∷ [])) (h.others c many) ∙ none_of c note (below (clients_in (end_of old.outlet)) c note.client r.end.client many);
      numbers = gave_same at_zero left_old left_new (numbers_in acts) (numbers_in (acts ++ act ∷ [])) (sym (numbers_in-append acts (act ∷ []) ∙ append-nil (numbers_in acts))) h.numbers;
    }

consumes_one : (old new : Option (List ℕ)) (n : ℕ) → 0 < n → Gives old new n → Consumes old new (n ∷ [])
consumes_one old new n some (inl c) = c
consumes_one old new n some (inr z) = absurd (omega (arith, some, z.0))

pub done_blocks : (left_old left_mid left_new : Option (List ℕ)) (old new : Desk) (n : ℕ) (acts : List Act) → HasDone false left_old left_mid old acts → new.turns.items ≡ old.turns.items ++ Ticks n ∷ [] → end_of new.outlet ≡ end_of old.outlet
    → 0 < n → Gives left_mid left_new n → HasDone false left_old left_new new (acts ++ blocks n ∷ [])
done_blocks left_old left_mid left_new old new n acts h turned same some gives =
    let act = blocks n in
    record {
      turned = turned ∙ ap (λ (ts : List Turn). ts ++ Ticks n ∷ []) h.turned ∙ sym (turns-append acts act);
      frames = λ c. frames_in-append c acts (act ∷ []) ∙ append-nil (frames_in c acts) ∙ h.frames c ∙ ap (λ e. frames_of c (taken_in e)) (sym same);
      others = λ c le. frames_in-append c acts (act ∷ []) ∙ append-nil (frames_in c acts) ∙ h.others c (subst (λ (k : ℕ). k ≤ c) (ap clients_in same) le);
      numbers = gave_same false left_old left_new (numbers_in acts ++ n ∷ []) (numbers_in (acts ++ act ∷ [])) (sym (numbers_in-append acts (act ∷ [])))
          (Consumes-trans left_old left_mid left_new (numbers_in acts) (n ∷ []) h.numbers (consumes_one left_mid left_new n some gives));
    }

zero_given : (left_old left_mid left_new : Option (List ℕ)) (numbers : List ℕ) → Consumes left_old left_mid numbers → Gives left_mid left_new 0 → GivesToZero left_old left_new numbers
zero_given left_old left_mid left_new numbers h (inl c) = inl (Consumes-trans left_old left_mid left_new numbers (0 ∷ []) h c)
zero_given left_old left_mid left_new numbers h (inr z) = inr (Consumes-kept left_old left_mid left_new numbers h z.1, z.2)

pub done_zero : (left_old left_mid left_new : Option (List ℕ)) (old new : Desk) (acts : List Act) → HasDone false left_old left_mid old acts → StaysAs old new → Gives left_mid left_new 0 → HasDone true left_old left_new new acts
done_zero left_old left_mid left_new old new acts h s gives = record {
  turned = s.turns ∙ h.turned;
  frames = λ c. h.frames c ∙ ap (λ e. frames_of c (taken_in e)) (sym s.end);
  others = λ c le. h.others c (subst (λ (n : ℕ). n ≤ c) (ap clients_in s.end) le);
  numbers = zero_given left_old left_mid left_new (numbers_in acts) h.numbers gives;
}

-- an answer that is none
pub received_err : (P : NoMemory → Type 0) (old new : Desk) (r : Result (Option Note) NoMemory) → IsErrAnd r P → StaysAs old new → Received old new r
received_err P old new (Ok x) is s = absurd is
received_err P old new (Err e) is s = s

-- what holds in any case
pub on_any_err : {T E P : Type 0} (r : Result T E) → P → OnErr r P
on_any_err (Ok x) p = tt
on_any_err (Err e) p = p

pub on_any_ok : {T E P : Type 0} (r : Result T E) → P → OnOk r P
on_any_ok (Ok x) p = p
on_any_ok (Err e) p = tt

-- an answer that tells of no fault of the sound
pub no_sound_fault : {X : Type 0} (r : Result X Halt) → IfErr r (λ halt. (halt ≡ halts.SoundFault → ⊥) × (halt ≡ halts.Quit → ⊥)) → r ≡ Err halts.SoundFault → ⊥
no_sound_fault (Ok x) only e = absurd cc
no_sound_fault (Err halt) only e = let same : halt ≡ halts.SoundFault = cc in only.0 same

-- ---- inlets

pub same_inlets : (a : End) → SameInlets a a
same_inlets a = (refl, refl, λ h. h)

pub inlets_both : (a b d : End) → SameInlets a b → SameInlets b d → SameInlets a d
inlets_both a b d p q = (q.0 ∙ p.0, q.1 ∙ p.1, λ h. q.2 (p.2 h))

pub inlets_taken : (a b : End) (note : Note) → Taken a note b → SameInlets a b
inlets_taken a b note t = (ap clients_in t.end, ap gathered_in t.end, λ h. t.fronts)

pub inlets_stay : (a b : End) → b ≡ a → SameInlets a b
inlets_stay a b e = (ap clients_in e, ap gathered_in e, λ h. subst AreFronts (sym e) h)

-- ---- counts

pub steady_note : (most clients : ℕ) (old new : Desk) (note : Note) → IsSteady most clients old → new.turns.items ≡ old.turns.items ++ Frame note.client ∷ [] → new.engine.running.standing ≡ old.engine.running.standing → new.engine.running.block ≡ old.engine.running.block
    → new.engine.running.waiting.puts ≤ old.engine.running.waiting.puts + most_packet → length new.engine.running.replies ≡ length old.engine.running.replies → length new.failed.items ≡ length old.failed.items → length new.turns.items < most → IsSteady most clients new
steady_note most clients old new note h turns standing block puts said flags few =
    let more : length new.turns.items ≡ length old.turns.items + 1 = ap length turns ∙ length-append old.turns.items (Frame note.client ∷ []) in
    record {
      settled = standing ∙ h.settled;
      puts = omega (arith, puts, more, h.puts);
      block = omega (arith, block, more, h.block);
      few = few;
      clients = said ∙ h.clients;
      flags = flags ∙ h.flags;
    }

pub steady_blocks : (most clients : ℕ) (old new : Desk) (n : ℕ) → IsSteady most clients old → new.turns.items ≡ old.turns.items ++ Ticks n ∷ [] → n ≤ most_ticks → new.engine.running.standing ≡ Settled → new.engine.running.block ≡ old.engine.running.block + n
    → new.engine.running.waiting.puts ≡ old.engine.running.waiting.puts → length new.engine.running.replies ≡ length old.engine.running.replies → length new.failed.items ≡ length old.failed.items → length new.turns.items < most → IsSteady most clients new
steady_blocks most clients old new n h turns small standing block puts said flags few =
    let more : length new.turns.items ≡ length old.turns.items + 1 = ap length turns ∙ length-append old.turns.items (Ticks n ∷ []) in
    record {
      settled = standing;
      puts = omega (arith, puts, more, h.puts);
      block = omega (arith, block, more, h.block, small);
      few = few;
      clients = said ∙ h.clients;
      flags = flags ∙ h.flags;
    }

pub steady_same : (most clients : ℕ) (old new : Desk) → IsSteady most clients old → StaysAs old new → IsSteady most clients new
steady_same most clients old new h s =
    let long : length new.turns.items ≡ length old.turns.items = ap length s.turns in
    record {
      settled = ap (λ (r : Running). r.standing) s.engine ∙ h.settled;
      puts = omega (arith, ap (λ (r : Running). r.waiting.puts) s.engine, long, h.puts);
      block = omega (arith, ap (λ (r : Running). r.block) s.engine, long, h.block);
      few = omega (arith, long, h.few);
      clients = ap (λ (r : Running). length r.replies) s.engine ∙ h.clients;
      flags = ap length s.failed ∙ h.flags;
    }

-- an engine that holds nothing but replies, after they are sent
sent_off : (e new : Running) → e.sound ≡ [] → new ≡ record e { replies = replicate (length e.replies) [] } → new ≡ emptied e
sent_off e new quiet is = is ∙ (λ i. record e { sound = quiet i; replies = replicate (length e.replies) [] })

module _ {R : Type 0} (taken : R → Option (List ℕ)) (faults : R → ℕ) where
  -- ---- nothing was done

  pub playing_same : (first : Played) (sinks_old sinks_new : List R) (sound_old sound_new : Option (List ℕ)) (at_zero : Bool) (left_old left_new : Option (List ℕ)) (old new : Desk) → StaysAs old new
      → IsPlaying taken faults first sinks_old sinks_new sound_old sound_new at_zero left_old left_new old → IsPlaying taken faults first sinks_old sinks_new sound_old sound_new at_zero left_old left_new new
  playing_same first sinks_old sinks_new sound_old sound_new at_zero left_old left_new old new s h = record {
    acts = h.acts;
    done = done_same at_zero left_old left_new old new h.acts h.done s;
    goes_on = h.goes_on;
    going = subst (λ (p : List Bool × Running). IsGoing taken faults sinks_old sinks_new p.0 sound_old sound_new (after_acts h.acts first).play p.1) (λ i. (sym s.failed i, sym s.engine i)) h.going;
  }

  pub halts_before : (first : Played) (sinks_old sinks_new : List R) (sound_old sound_new : Option (List ℕ)) (at_zero : Bool) (left_old left_new : Option (List ℕ)) (old new : Desk) → StaysAs old new
      → IsPlaying taken faults first sinks_old sinks_new sound_old sound_new at_zero left_old left_new old → HasHalted taken faults first sinks_old sinks_new sound_old sound_new at_zero left_old left_new new halts.NoMemory
  halts_before first sinks_old sinks_new sound_old sound_new at_zero left_old left_new old new s h =
      let same = playing_same first sinks_old sinks_new sound_old sound_new at_zero left_old left_new old new s h in
      let p = (after_acts same.acts first).play in
      record { acts = same.acts; done = same.done; while_open = open_all same.acts first same.goes_on; halts = wrote_fronts taken faults sinks_old sinks_new new.failed.items sound_old sound_new p p (grows_not p) same.going.wrote }

  -- an end of any kind, told of another answer
  pub halted : {X : Type 0} (first : Played) (sinks_old sinks_new : List R) (sound_old sound_new : Option (List ℕ)) (at_zero : Bool) (left_old left_new : Option (List ℕ)) (desk : Desk) (r : Result X Halt) (halt : Halt) → IsErrAnd r (λ h. h ≡ halt)
      → HasHalted taken faults first sinks_old sinks_new sound_old sound_new at_zero left_old left_new desk halt → PlaysOn taken faults first sinks_old sinks_new sound_old sound_new at_zero left_old left_new desk r
  halted first sinks_old sinks_new sound_old sound_new at_zero left_old left_new desk (Ok x) halt is h = absurd is
  halted first sinks_old sinks_new sound_old sound_new at_zero left_old left_new desk (Err e) halt is h = subst (HasHalted taken faults first sinks_old sinks_new sound_old sound_new at_zero left_old left_new desk) (sym is) h

  pub halted_asked : (first : Played) (sinks_old sinks_new : List R) (sound_old sound_new left_old left_new : Option (List ℕ)) (desk : Desk) (r : Result Bool Halt) (halt : Halt) → IsErrAnd r (λ h. h ≡ halt)
      → HasHalted taken faults first sinks_old sinks_new sound_old sound_new false left_old left_new desk halt → Asked taken faults first sinks_old sinks_new sound_old sound_new left_old left_new desk r
  halted_asked first sinks_old sinks_new sound_old sound_new left_old left_new desk (Ok x) halt is h = absurd is
  halted_asked first sinks_old sinks_new sound_old sound_new left_old left_new desk (Err e) halt is h = subst (HasHalted taken faults first sinks_old sinks_new sound_old sound_new false left_old left_new desk) (sym is) h

  -- ---- a note

  -- memory ran out in its arrival
  pub halts_in_arrival : (first : Played) (sinks_old sinks_new : List R) (sound_old sound_new : Option (List ℕ)) (at_zero : Bool) (left_old left_new : Option (List ℕ)) (old mid new : Desk) (note : Note) → HasReceived old mid note → new.turns.items ≡ mid.turns.items
      → end_of new.outlet ≡ end_of mid.outlet → new.failed.items ≡ mid.failed.items → IsPlaying taken faults first sinks_old sinks_new sound_old sound_new at_zero left_old left_new old
      → HasHalted taken faults first sinks_old sinks_new sound_old sound_new at_zero left_old left_new new halts.NoMemory
  halts_in_arrival first sinks_old sinks_new sound_old sound_new at_zero left_old left_new old mid new note r turns end flags h =
      let act = arrives note.client note.frame.bytes in
      let f = arrived note.client note.frame.bytes in
      let p = (after_acts h.acts first).play in
      let done = done_frame at_zero left_old left_new old mid note h.acts h.done r in
      let fronts : WroteFronts taken faults sinks_old sinks_new old.failed.items sound_old sound_new (f p) = wrote_fronts taken faults sinks_old sinks_new old.failed.items sound_old sound_new p (f p) (grows f (arrived_step note.client note.frame.bytes) p) h.going.wrote in
      record {
        acts = h.acts ++ act ∷ [];
        done = done_moved at_zero left_old left_new mid new (h.acts ++ act ∷ []) done turns end;
        while_open = open_last h.acts act first h.goes_on;
        halts = subst (λ (q : List Bool × Played). WroteFronts taken faults sinks_old sinks_new q.0 sound_old sound_new q.1.play) (λ i. (sym (flags ∙ r.failed) i, sym (acts_go_on h.acts act first h.goes_on) i)) fronts;
      }

  -- its packet arrived, and what this made was sent
  pub plays_note : (first : Played) (sinks_old sinks_mid sinks_new : List R) (sound_old sound_new : Option (List ℕ)) (at_zero : Bool) (left_old left_new : Option (List ℕ)) (old mid new : Desk) (e : Running) (note : Note) → HasReceived old mid note
      → new.turns.items ≡ mid.turns.items → end_of new.outlet ≡ end_of mid.outlet → e ≡ arrived note.client note.frame.bytes mid.engine.running → AllSend taken faults sinks_mid sinks_new mid.failed.items new.failed.items e.replies
      → new.engine.running ≡ record e { replies = replicate (length e.replies) [] } → IsPlaying taken faults first sinks_old sinks_mid sound_old sound_new at_zero left_old left_new old
      → IsPlaying taken faults first sinks_old sinks_new sound_old sound_new at_zero left_old left_new new
  plays_note first sinks_old sinks_mid sinks_new sound_old sound_new at_zero left_old left_new old mid new e note r turns end came sends sent h =
      let act = arrives note.client note.frame.bytes in
      let f = arrived note.client note.frame.bytes in
      let p = (after_acts h.acts first).play in
      let o = old.engine.running in
      let done = done_frame at_zero left_old left_new old mid note h.acts h.done r in
      let is : e ≡ f o = came ∙ ap f r.engine in
      let quiet : (f o).sound ≡ [] = (packet_stays note.client (read note.frame.bytes) o).sound ∙ ap (λ (q : Running). q.sound) h.going.engine in
      let next : new.engine.running ≡ emptied (f o) = sent_off (f o) new.engine.running quiet (subst (λ (q : Running). new.engine.running ≡ record q { replies = replicate (length q.replies) [] }) is sent) in
      let all : AllSend taken faults sinks_mid sinks_new old.failed.items new.failed.items (f o).replies = subst (λ (q : List Bool × Running). AllSend taken faults sinks_mid sinks_new q.0 new.failed.items q.1.replies) (λ i. (r.failed i, is i)) sends in
      let silent : Appends sound_new sound_new (f o).sound = subst (Appends sound_new sound_new) (sym quiet) (Appends-nil sound_new) in
      let on : IsGoing taken faults sinks_old sinks_new new.failed.items sound_old sound_new (f p) new.engine.running =
      going_on taken faults f (arrived_step note.client note.frame.bytes) sinks_old sinks_mid sinks_new old.failed.items new.failed.items sound_old sound_new sound_new p o new.engine.running h.going silent all next in
      let goes = acts_go_on h.acts act first h.goes_on in
      record {
        acts = h.acts ++ act ∷ [];
        done = done_moved at_zero left_old left_new mid new (h.acts ++ act ∷ []) done turns end;
        goes_on = ap (λ (q : Played). q.quit) goes ∙ h.goes_on;
        going = subst (λ (q : Played). IsGoing taken faults sinks_old sinks_new new.failed.items sound_old sound_new q.play new.engine.running) (sym goes) on;
      }

  -- as many turns as there may be were done
  pub halts_full : (first : Played) (sinks_old sinks_new : List R) (sound_old sound_new : Option (List ℕ)) (at_zero : Bool) (left_old left_new : Option (List ℕ)) (desk : Desk) → IsPlaying taken faults first sinks_old sinks_new sound_old sound_new at_zero left_old left_new desk
      → HasHalted taken faults first sinks_old sinks_new sound_old sound_new at_zero left_old left_new desk halts.TurnsFull
  halts_full first sinks_old sinks_new sound_old sound_new at_zero left_old left_new desk h = record { acts = h.acts; done = h.done; while_open = open_all h.acts first h.goes_on; halts = (h.goes_on, h.going.wrote) }

  -- ---- blocks

  pub plays_blocks : (first : Played) (sinks_old sinks_new : List R) (sound_old sound_new left_old left_mid left_new : Option (List ℕ)) (old new : Desk) (n : ℕ) (acts : List Act) → HasDone false left_old left_mid old acts → (after_acts acts first).quit ≡ false
      → new.turns.items ≡ old.turns.items ++ Ticks n ∷ [] → end_of new.outlet ≡ end_of old.outlet → 0 < n → Gives left_mid left_new n
      → PlaysTo taken faults sinks_old sinks_new new.failed.items sound_old sound_new (ticks n (after_acts acts first).play) new.engine.running (Ok tt)
      → IsPlaying taken faults first sinks_old sinks_new sound_old sound_new false left_old left_new new
  plays_blocks first sinks_old sinks_new sound_old sound_new left_old left_mid left_new old new n acts done going turned same some gives h =
      let goes = acts_go_on acts (blocks n) first going in
      record {
        acts = acts ++ blocks n ∷ [];
        done = done_blocks left_old left_mid left_new old new n acts done turned same some gives;
        goes_on = ap (λ (q : Played). q.quit) goes ∙ h.0;
        going = subst (λ (q : Played). IsGoing taken faults sinks_old sinks_new new.failed.items sound_old sound_new q.play new.engine.running) (sym goes) h.1;
      }

  pub halts_in_blocks : (first : Played) (sinks_old sinks_new : List R) (sound_old sound_new left_old left_mid left_new : Option (List ℕ)) (old new : Desk) (n : ℕ) (acts : List Act) (halt : Halt) → HasDone false left_old left_mid old acts
      → (after_acts acts first).quit ≡ false → new.turns.items ≡ old.turns.items ++ Ticks n ∷ [] → end_of new.outlet ≡ end_of old.outlet → 0 < n → Gives left_mid left_new n
      → HaltsAt taken faults sinks_old sinks_new new.failed.items sound_old sound_new (ticks n (after_acts acts first).play) halt
      → HasHalted taken faults first sinks_old sinks_new sound_old sound_new false left_old left_new new halt
  halts_in_blocks first sinks_old sinks_new sound_old sound_new left_old left_mid left_new old new n acts halt done going turned same some gives h = record {
    acts = acts ++ blocks n ∷ [];
    done = done_blocks left_old left_mid left_new old new n acts done turned same some gives;
    while_open = open_last acts (blocks n) first going;
    halts = subst (λ (q : Played). HaltsAt taken faults sinks_old sinks_new new.failed.items sound_old sound_new q halt) (sym (acts_go_on acts (blocks n) first going)) h;
  }

  -- the pulse gave 0
  pub plays_zero : (first : Played) (sinks_old sinks_new : List R) (sound_old sound_new left_old left_mid left_new : Option (List ℕ)) (old new : Desk) → StaysAs old new → Gives left_mid left_new 0
      → IsPlaying taken faults first sinks_old sinks_new sound_old sound_new false left_old left_mid old → IsPlaying taken faults first sinks_old sinks_new sound_old sound_new true left_old left_new new
  plays_zero first sinks_old sinks_new sound_old sound_new left_old left_mid left_new old new s gives h = record {
    acts = h.acts;
    done = done_zero left_old left_mid left_new old new h.acts h.done s gives;
    goes_on = h.goes_on;
    going = subst (λ (p : List Bool × Running). IsGoing taken faults sinks_old sinks_new p.0 sound_old sound_new (after_acts h.acts first).play p.1) (λ i. (sym s.failed i, sym s.engine i)) h.going;
  }

  -- ---- the whole loop

  pub runs_halted : (first : Played) (sinks_old sinks_new : List R) (sound_old sound_new : Option (List ℕ)) (at_zero : Bool) (left_old left_new : Option (List ℕ)) (zeros_old zeros_new : ℕ) (desk : Desk) (r : Result (Unit {0}) Halt) (halt : Halt)
      → IsErrAnd r (λ h. h ≡ halt) → Fails at_zero zeros_old zeros_new → HasHalted taken faults first sinks_old sinks_new sound_old sound_new at_zero left_old left_new desk halt
      → RunsTo taken faults first sinks_old sinks_new sound_old sound_new left_old left_new zeros_old zeros_new desk r
  runs_halted first sinks_old sinks_new sound_old sound_new at_zero left_old left_new zeros_old zeros_new desk (Ok x) halt is counted h = absurd is
  runs_halted first sinks_old sinks_new sound_old sound_new at_zero left_old left_new zeros_old zeros_new desk (Err e) halt is counted h =
      (at_zero, counted, subst (HasHalted taken faults first sinks_old sinks_new sound_old sound_new at_zero left_old left_new desk) (sym is) h)

  pub runs_rest : (first : Played) (sinks_old sinks_new : List R) (sound_old sound_new left_old left_new : Option (List ℕ)) (zeros_old zeros_new : ℕ) (desk : Desk) (r : Result (Unit {0}) Halt) → Rose zeros_old zeros_new
      → PlaysOn taken faults first sinks_old sinks_new sound_old sound_new true left_old left_new desk r → RunsTo taken faults first sinks_old sinks_new sound_old sound_new left_old left_new zeros_old zeros_new desk r
  runs_rest first sinks_old sinks_new sound_old sound_new left_old left_new zeros_old zeros_new desk (Ok x) rose h = (rose, h)
  runs_rest first sinks_old sinks_new sound_old sound_new left_old left_new zeros_old zeros_new desk (Err e) rose h = (true, rose, h)

  pub asked_more : (first : Played) (sinks_old sinks_new : List R) (sound_old sound_new left_old left_new : Option (List ℕ)) (desk : Desk) (more : Bool) → Asked taken faults first sinks_old sinks_new sound_old sound_new left_old left_new desk (Ok more) → more ≡ true
      → IsPlaying taken faults first sinks_old sinks_new sound_old sound_new false left_old left_new desk
  asked_more first sinks_old sinks_new sound_old sound_new left_old left_new desk more h e = subst (λ (b : Bool). IsPlaying taken faults first sinks_old sinks_new sound_old sound_new (not b) left_old left_new desk) e h

  pub asked_zero : (first : Played) (sinks_old sinks_new : List R) (sound_old sound_new left_old left_new : Option (List ℕ)) (desk : Desk) (more : Bool) → Asked taken faults first sinks_old sinks_new sound_old sound_new left_old left_new desk (Ok more) → more ≡ false
      → IsPlaying taken faults first sinks_old sinks_new sound_old sound_new true left_old left_new desk
  asked_zero first sinks_old sinks_new sound_old sound_new left_old left_new desk more h e = subst (λ (b : Bool). IsPlaying taken faults first sinks_old sinks_new sound_old sound_new (not b) left_old left_new desk) e h

  -- the outlet changed, and nothing of what it knows of the queue
  pub halted_moved : (first : Played) (sinks_old sinks_new : List R) (sound_old sound_new : Option (List ℕ)) (at_zero : Bool) (left_old left_new : Option (List ℕ)) (old new : Desk) (halt : Halt) → new.turns.items ≡ old.turns.items → new.failed.items ≡ old.failed.items
      → end_of new.outlet ≡ end_of old.outlet → HasHalted taken faults first sinks_old sinks_new sound_old sound_new at_zero left_old left_new old halt → HasHalted taken faults first sinks_old sinks_new sound_old sound_new at_zero left_old left_new new halt
  halted_moved first sinks_old sinks_new sound_old sound_new at_zero left_old left_new old new halt turns flags end h = record {
    acts = h.acts;
    done = done_moved at_zero left_old left_new old new h.acts h.done turns end;
    while_open = h.while_open;
    halts = subst (λ (failed : List Bool). HaltsAt taken faults sinks_old sinks_new failed sound_old sound_new (after_acts h.acts first) halt) (sym flags) h.halts;
  }

  -- ---- the last boundary

  -- memory ran out at it
  pub closed_not : (sinks : List R) (failed : List Bool) (old : Running) (r : Result (Unit {0}) Halt) → IsErrAnd r (λ halt. halt ≡ halts.NoMemory) → Closed taken faults sinks sinks failed failed old r
  closed_not sinks failed old (Ok x) is = absurd is
  closed_not sinks failed old (Err e) is = subst (λ (halt : Halt). Closed taken faults sinks sinks failed failed old (Err halt)) (sym is) (refl, refl)

  -- it neither writes sound nor counts turns
  pub closed_so : (sinks_old sinks_new : List R) (failed_old failed_new : List Bool) (old : Running) (r : Result (Unit {0}) Halt) → Closed taken faults sinks_old sinks_new failed_old failed_new old r → (r ≡ Err halts.SoundFault → ⊥) × (r ≡ Err halts.TurnsFull → ⊥)
  closed_so sinks_old sinks_new failed_old failed_new old r h = (
    λ e. subst (Closed taken faults sinks_old sinks_new failed_old failed_new old) e h,
    λ e. subst (Closed taken faults sinks_old sinks_new failed_old failed_new old) e h,
  )

  pub closes : (flow : Flow) (first : Played) (sinks_old sinks_mid sinks_new : List R) (sound_old sound_new left_old left_new : Option (List ℕ)) (old new : Desk) → new.turns.items ≡ old.turns.items → end_of new.outlet ≡ end_of old.outlet
      → ClosesAt taken faults flow sinks_mid sinks_new old.failed.items new.failed.items old.engine.running → IsPlaying taken faults first sinks_old sinks_mid sound_old sound_new true left_old left_new old
      → HasClosed taken faults flow first sinks_old sinks_new sound_old sound_new left_old left_new new
  closes flow first sinks_old sinks_mid sinks_new sound_old sound_new left_old left_new old new turns end c h =
      let p = (after_acts h.acts first).play in
      let e = old.engine.running in
      let quiet : (at_boundary e).sound ≡ [] = ap (λ (q : Running). q.sound) h.going.engine in
      record {
        acts = h.acts;
        done = done_moved true left_old left_new old new h.acts h.done turns end;
        goes_on = h.goes_on;
        flow_is = ap (λ (q : Running). flow_at q) (sym h.going.engine) ∙ c.flow_is;
        wrote = wrote_on taken faults at_boundary boundary_step sinks_old sinks_mid sinks_new old.failed.items new.failed.items sound_old sound_new sound_new p e h.going (subst (Appends sound_new sound_new) (sym quiet) (Appends-nil sound_new)) c.replies;
      }

  pub closed_by : (r : Result (Unit {0}) Halt) (first : Played) (sinks_old sinks_mid sinks_new : List R) (sound_old sound_new left_old left_new : Option (List ℕ)) (old new : Desk) → new.turns.items ≡ old.turns.items → end_of new.outlet ≡ end_of old.outlet
      → Closed taken faults sinks_mid sinks_new old.failed.items new.failed.items old.engine.running r → IsPlaying taken faults first sinks_old sinks_mid sound_old sound_new true left_old left_new old
      → Closes taken faults first sinks_old sinks_new sound_old sound_new left_old left_new new r
  closed_by (Ok x) first sinks_old sinks_mid sinks_new sound_old sound_new left_old left_new old new turns end c h = closes flows.On first sinks_old sinks_mid sinks_new sound_old sound_new left_old left_new old new turns end c h
  closed_by (Err halts.Quit) first sinks_old sinks_mid sinks_new sound_old sound_new left_old left_new old new turns end c h = closes flows.Quit first sinks_old sinks_mid sinks_new sound_old sound_new left_old left_new old new turns end c h
  closed_by (Err halts.NoMemory) first sinks_old sinks_mid sinks_new sound_old sound_new left_old left_new old new turns end c h =
      let p = (after_acts h.acts first).play in
      record {
        acts = h.acts;
        done = done_moved true left_old left_new old new h.acts h.done turns end;
        while_open = open_all h.acts first h.goes_on;
        halts = subst (λ (q : List R × List Bool). WroteFronts taken faults sinks_old q.0 q.1 sound_old sound_new p) (λ i. (sym c.0 i, sym c.1 i)) (wrote_fronts taken faults sinks_old sinks_mid old.failed.items sound_old sound_new p p (grows_not p) h.going.wrote);
      }
  closed_by (Err halts.SoundFault) first sinks_old sinks_mid sinks_new sound_old sound_new left_old left_new old new turns end c h = absurd c
  closed_by (Err halts.TurnsFull) first sinks_old sinks_mid sinks_new sound_old sound_new left_old left_new old new turns end c h = absurd c

  -- an end before it
  closes_halted : (halt : Halt) (first : Played) (sinks_old sinks_new : List R) (sound_old sound_new left_old left_new : Option (List ℕ)) (desk : Desk) → (halt ≡ halts.SoundFault → ⊥) × (halt ≡ halts.Quit → ⊥)
      → HasHalted taken faults first sinks_old sinks_new sound_old sound_new true left_old left_new desk halt → Closes taken faults first sinks_old sinks_new sound_old sound_new left_old left_new desk (Err halt)
  closes_halted halts.Quit first sinks_old sinks_new sound_old sound_new left_old left_new desk only h = absurd (only.1 refl)
  closes_halted halts.SoundFault first sinks_old sinks_new sound_old sound_new left_old left_new desk only h = absurd (only.0 refl)
  closes_halted halts.NoMemory first sinks_old sinks_new sound_old sound_new left_old left_new desk only h = h
  closes_halted halts.TurnsFull first sinks_old sinks_new sound_old sound_new left_old left_new desk only h = h

  pub halted_closes : (first : Played) (sinks_old sinks_new : List R) (sound_old sound_new left_old left_new : Option (List ℕ)) (desk : Desk) (r : Result (Unit {0}) Halt) (halt : Halt) → IsErrAnd r (λ h. h ≡ halt) → (halt ≡ halts.SoundFault → ⊥) × (halt ≡ halts.Quit → ⊥)
      → HasHalted taken faults first sinks_old sinks_new sound_old sound_new true left_old left_new desk halt → Closes taken faults first sinks_old sinks_new sound_old sound_new left_old left_new desk r
  halted_closes first sinks_old sinks_new sound_old sound_new left_old left_new desk (Ok x) halt is only h = absurd is
  halted_closes first sinks_old sinks_new sound_old sound_new left_old left_new desk (Err e) halt is only h = subst (λ (k : Halt). Closes taken faults first sinks_old sinks_new sound_old sound_new left_old left_new desk (Err k)) (sym is) (closes_halted halt first sinks_old sinks_new sound_old sound_new left_old left_new desk only h)

  pub ends_by : (r : Result (Unit {0}) Halt) (first : Played) (sinks_old sinks_new : List R) (sound_old sound_new left_old left_new : Option (List ℕ)) (zeros_old zeros_new : ℕ) (desk : Desk) → Rose zeros_old zeros_new
      → Closes taken faults first sinks_old sinks_new sound_old sound_new left_old left_new desk r → EndsTo taken faults first sinks_old sinks_new sound_old sound_new left_old left_new zeros_old zeros_new desk r
  ends_by (Ok x) first sinks_old sinks_new sound_old sound_new left_old left_new zeros_old zeros_new desk rose h = (rose, h)
  ends_by (Err halts.Quit) first sinks_old sinks_new sound_old sound_new left_old left_new zeros_old zeros_new desk rose h = inr (refl, rose, h)
  ends_by (Err halts.NoMemory) first sinks_old sinks_new sound_old sound_new left_old left_new zeros_old zeros_new desk rose h = inl (true, rose, h)
  ends_by (Err halts.SoundFault) first sinks_old sinks_new sound_old sound_new left_old left_new zeros_old zeros_new desk rose h = absurd h
  ends_by (Err halts.TurnsFull) first sinks_old sinks_new sound_old sound_new left_old left_new zeros_old zeros_new desk rose h = inl (true, rose, h)
