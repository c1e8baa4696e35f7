use Rattle.std.proofs.Common.{◌≡◌, ◌∙◌, ◌⊎◌, ◌<◌, ℕ, Bool, false, List, OnOk, Result, ap, inr, length, map, refl, subst, sym, arith, rules}
use Rattle.std.specs.Prelude.{slice_index_or}
use Rattle.std.specs.Vec.{with_items}
use Rattle.std.proofs.lemmas.List.{with_items_is, places}
use Rattle.sn_render.proofs.WritingLemmas.{on_ok}
use Rattle.sn_clients.specs.declared.clients.Client.{Client}
use Rattle.sn_clients.specs.declared.desk.Desk.{Desk}
use Rattle.sn_clients.specs.declared.ends.Sender.{Sender}
use Rattle.sn_clients.specs.declared.playing.Halt.{Halt}
use Rattle.sn_clients.specs.declared.turns.How.{How}
use Rattle.sn_clients.specs.declared.turns.How.TheVariants.{Over, SoundFault}
use Rattle.sn_clients.specs.declared.turns.Turn.{Turn}
use Rattle.sn_ports.specs.Causes.{Rose}
use Rattle.sn_clients.specs.Answers.{end_of, has_stopped}
use Rattle.sn_clients.specs.Clients.{HasInlet}
use Rattle.sn_clients.specs.Ends.{clients_in, gathered_in}
use Rattle.sn_clients.specs.Looping.{IsSteady, RunsTo}
use Rattle.sn_clients.specs.PlayMany.{Streams, start}
use Rattle.sn_clients.specs.Seating.{IsBegun, IsGathered, IsSeatOf, IsSeated, IsStopped, told}
use Rattle.sn_clients.specs.Serving.{IsServed, how_of}
use Rattle.sn_clients.proofs.ServingLemmas.{StandInTurn, begins, begins_steady, ends_played, fronts_at, full_is, has_inlet, has_seat, many_streams, over_gives, runs_gathered, served, served_not, some_of, sound_kept, sound_rose, whole_at}
use Rattle.sn_clients.proofs.serving.serve_many.Goals as goal

-- ---- what the calls need

pub seat_all-requires : goal.seat_all-requires
seat_all-requires g c =
    let count : c.len-count.result ≡ length c.args.clients.now.items = omega arith in
    let first : c.as_mut_slice-2.result.now ≡ c.args.clients.now.items = search rules in
    c.in-Ok.ensures.inlets.0 ∙ (count ∙ sym (ap length first))

pub play_and_read-played-requires-clause-some : goal.play_and_read-played-requires-clause-some
play_and_read-played-requires-clause-some g c κs lives =
    let old = c.args.clients.now in
    let now : List (Client g.row.S.Denot) = c.seat_all.new.clients in
    let is : (with_items old now).items ≡ now = with_items_is old now (search (rules, places)) in
    let first : c.as_mut_slice-2.result.now ≡ old.items = search rules in
    omega (arith, ap length is, c.seat_all.ensures.count, ap length first, c.requires.clients.0)

pub play_and_read-played-requires-clause-inlets : goal.play_and_read-played-requires-clause-inlets
play_and_read-played-requires-clause-inlets g c κs lives = λ k d inside.
    let old = c.args.clients.now in
    let now : List (Client g.row.S.Denot) = c.seat_all.new.clients in
    let is : (with_items old now).items ≡ now = with_items_is old now (search (rules, places)) in
    let within : k < length c.as_mut_slice-2.result.now = omega (arith, inside, ap length is, c.seat_all.ensures.count) in
    subst (λ (l : List (Client g.row.S.Denot)). HasInlet c.in-Ok.relay k (slice_index_or l k d)) (sym is)
    (has_inlet c.in-Ok.relay k _ _ (c.seat_all.ensures.seated c.in-Ok.relay c.in-Ok.ensures.inlets.1 k d within))

pub play_and_read-played-requires-clause-outlet : goal.play_and_read-played-requires-clause-outlet
play_and_read-played-requires-clause-outlet g c κs lives = c.in-Ok.ensures.desk.outlet.outlet_of

pub play_and_read-played-requires-clause-steady : goal.play_and_read-played-requires-clause-steady
play_and_read-played-requires-clause-steady g c κs lives =
    let count : c.len-count.result ≡ length c.args.clients.now.items = omega arith in
    subst (λ (n : ℕ). IsSteady c.args.most n c.in-Ok.desk) (count ∙ sym c.requires.sinks) (begins_steady c.in-Ok.relay c.args.settings.now c.args.base c.len-count.result c.args.most c.in-Ok.desk c.in-Ok.ensures.desk c.requires.most)

pub gather_all-requires-clause-outlet : goal.gather_all-requires-clause-outlet
gather_all-requires-clause-outlet g c = c.play_and_read-played.ensures.played.outlet

pub gather_all-requires-clause-none : goal.gather_all-requires-clause-none
gather_all-requires-clause-none g c = c.play_and_read-played.ensures.played.inlets.1 ∙ ap gathered_in c.in-Ok.ensures.desk.outlet.nothing

pub gather_all-requires-clause-inlets : goal.gather_all-requires-clause-inlets
gather_all-requires-clause-inlets g c = λ k d inside.
    let old = c.args.clients.now in
    let now : List (Client g.row.S.Denot) = c.seat_all.new.clients in
    let mid = c.play_and_read-played.new.clients in
    let here : c.as_mut_slice-3.result.now ≡ mid.items = search rules in
    let within : k < length (with_items old now).items = omega (arith, inside, ap length here, c.play_and_read-played.ensures.count) in
    subst (λ (l : List (Client g.row.S.Denot)). IsSeatOf c.in-Ok.relay k (slice_index_or l k d)) (sym here)
    (has_seat c.in-Ok.relay g.S.Source.left g.S.Source.faults k _ _ (c.play_and_read-played.ensures.read k d within))

pub end-end-requires-clause-outlet : goal.end-end-requires-clause-outlet
end-end-requires-clause-outlet g c = c.gather_all.ensures.outlet

pub end-end-requires-clause-steady : goal.end-end-requires-clause-steady
end-end-requires-clause-steady g c =
    let here : c.as_mut_slice-4.result.now ≡ c.play_and_read-played.new.sinks.items = search rules in
    on_ok c.play_and_read-played.result
    (λ (h : IsSteady c.args.most (length c.play_and_read-played.new.sinks.items) c.play_and_read-played.new.desk). record { settled = h.settled; puts = h.puts; block = h.block; few = h.few; clients = h.clients ∙ sym (ap length here); flags = h.flags ∙ sym (ap length here) })
    c.play_and_read-played.ensures.played.steady

pub end-end-requires-clause-few : goal.end-end-requires-clause-few
end-end-requires-clause-few g c = c.play_and_read-played.ensures.played.few

pub end-end-requires-clause-full : goal.end-end-requires-clause-full
end-end-requires-clause-full g c = c.play_and_read-played.ensures.played.full

-- ---- what it says

pub returns-in_default-clause-served : goal.returns-in_default-clause-served
returns-in_default-clause-served g c =
    let old = c.args.clients.now in
    let now : List (Client g.row.S.Denot) = c.unbegun.new.clients in
    let is : (with_items old now).items ≡ now = with_items_is old now (search (rules, places)) in
    let first : c.as_mut_slice.result.now ≡ old.items = search rules in
    let stopped = subst (λ (p : List (Client g.row.S.Denot) × List (Client g.row.S.Denot)). (k : ℕ) (d : Client g.row.S.Denot) → k < length p.0 → IsStopped (slice_index_or p.0 k d) (slice_index_or p.1 k d)) (λ i. (first i, sym is i)) c.unbegun.ensures.stopped in
    let (how, turns) = c.unbegun.ensures.session in
    subst (λ (p : How × List Turn). IsServed g.S.Source.left g.S.Source.faults g.R.Sink.taken g.R.Sink.faults c.args.settings.now c.args.base old.items (with_items old now).items c.args.sinks.now.items c.args.sinks.now.items (g.O.Sink.taken c.args.sound.now) (g.O.Sink.taken c.args.sound.now) (g.T.Pulse.left c.args.pulse.now) (g.T.Pulse.left c.args.pulse.now) (g.T.Pulse.zeros c.args.pulse.now) (g.T.Pulse.zeros c.args.pulse.now) p.0 p.1)
    (λ i. (sym how i, sym turns i))
    (served_not g.S.Source.left g.S.Source.faults g.R.Sink.taken g.R.Sink.faults c.args.settings.now c.args.base old.items (with_items old now).items c.args.sinks.now.items (g.O.Sink.taken c.args.sound.now) (g.T.Pulse.left c.args.pulse.now) (g.T.Pulse.zeros c.args.pulse.now)
    (ap length is ∙ c.unbegun.ensures.count ∙ ap length first) c.requires.sinks stopped)

pub returns-clause-served : goal.returns-clause-served
returns-clause-served g c =
    let relay = c.in-Ok.relay in
    let desk = c.in-Ok.desk in
    let begun = c.in-Ok.ensures.desk in
    let p = c.play_and_read-played in
    let played = p.ensures.played in
    let gathering = c.gather_all.ensures in
    let n = c.end-end.new in
    let e = c.end-end.ensures in
    -- the clients, step by step
    let first = c.args.clients.now in
    let seated : List (Client g.row.S.Denot) = c.seat_all.new.clients in
    let read = p.new.clients in
    let gathered : List (Client g.row.S.Denot) = c.gather_all.new.clients in
    let last : List (Client g.row.S.Denot) = c.tell_faults.new.clients in
    let first_is : c.as_mut_slice-2.result.now ≡ first.items = search rules in
    let seated_is : (with_items first seated).items ≡ seated = with_items_is first seated (search (rules, places)) in
    let read_is : c.as_mut_slice-3.result.now ≡ read.items = search rules in
    let gathered_is : (with_items read gathered).items ≡ gathered = with_items_is read gathered (search (rules, places)) in
    let told_is : c.as_mut_slice-5.result.now ≡ (with_items read gathered).items = search rules in
    let last_is : (with_items (with_items read gathered) last).items ≡ last = with_items_is (with_items read gathered) last (search (rules, places)) in
    let flags_here : c.deref.result.now ≡ c.remains-turns.result.1.items = search rules in
    let flags_are : c.deref.result.now ≡ n.self.failed.items = flags_here ∙ c.remains-turns.ensures.failed in
    let sinks_are : c.as_mut_slice-4.result.now ≡ p.new.sinks.items = search rules in
    let sinks_end : (with_items p.new.sinks n.sinks).items ≡ n.sinks = with_items_is p.new.sinks n.sinks (search (rules, places)) in
    -- their streams
    let senders = gathered_in (end_of c.gather_all.new.outlet) in
    let streams : Streams = map (λ (s : Sender). s.frames) senders in
    let begins_many : c.len-count.result ≡ length first.items = omega arith in
    let count : length senders ≡ length read.items = gathering.senders ∙ ap length read_is in
    let many : length streams ≡ length first.items = many_streams senders ∙ (count ∙ (p.ensures.count ∙ (ap length seated_is ∙ (c.seat_all.ensures.count ∙ ap length first_is)))) in
    let turn : StandInTurn senders = λ k d inside.
    let within : k < length c.as_mut_slice-3.result.now = omega (arith, inside, gathering.senders) in
    (gathering.gathered k (some_of c.as_mut_slice-3.result.now k within) d within).client in
    -- what was played
    let taken = g.R.Sink.taken in
    let faults = g.R.Sink.faults in
    let sinks = c.args.sinks.now.items in
    let sound = g.O.Sink.taken c.args.sound.now in
    let left = g.T.Pulse.left c.args.pulse.now in
    let sound_new = g.O.Sink.taken p.new.sound in
    let left_new = g.T.Pulse.left p.new.pulse in
    let zeros_old = g.T.Pulse.zeros c.args.pulse.now in
    let zeros_new = g.T.Pulse.zeros p.new.pulse in
    let s = c.args.settings.now in
    let base = c.args.base in
    let opens : IsBegun relay s base (length streams) desk = subst (λ (k : ℕ). IsBegun relay s base k desk) (begins_many ∙ sym many) begun in
    let begins_so = begins taken faults relay s base (length streams) desk sinks sound left opens (c.requires.sinks ∙ sym many) in
    let runs = played.plays (start s base (length streams)) sinks sound left begins_so in
    let mid : Desk = record p.new.desk { outlet = c.gather_all.new.outlet } in
    let moved = runs_gathered taken faults (start s base (length streams)) sinks p.new.sinks.items sound sound_new left left_new zeros_old zeros_new p.new.desk mid p.result refl refl refl gathering.taken gathering.clients runs in
    let ends = e.ends (start s base (length streams)) sinks sound sound_new left left_new zeros_old zeros_new
    (subst (λ (l : List g.row.R.Denot). RunsTo taken faults (start s base (length streams)) sinks l sound sound_new left left_new zeros_old zeros_new mid p.result) (sym sinks_are) moved) in
    let clients = e.inlets.0 ∙ (gathering.clients ∙ (played.inlets.0 ∙ (ap clients_in begun.outlet.nothing ∙ (begins_many ∙ sym many)))) in
    let fronts = fronts_at (end_of n.self.outlet) senders e.inlets.1 turn (e.inlets.2 gathering.fronts) in
    let whole = on_ok c.end-end.result (whole_at (end_of n.self.outlet) senders e.inlets.1 turn) e.none in
    let all = ends_played taken faults s base streams n.self c.end-end.result sinks n.sinks sound sound_new left left_new zeros_old zeros_new ends clients fronts whole in
    let still : how_of c.end-end.result ≡ Over → has_stopped c.gather_all.new.outlet ≡ false = λ over.
    let ok = over_gives c.end-end.result over e.was in
    gathering.stopped ∙ (subst (λ (r : Result (Unit {0}) Halt). OnOk r (has_stopped p.new.desk.outlet ≡ has_stopped desk.outlet)) ok played.stopped ∙ begun.outlet.going) in
    -- all of it
    let whole_session = served relay g.S.Source.left g.S.Source.faults taken faults s base first.items (with_items first seated).items read.items (with_items read gathered).items (with_items (with_items read gathered) last).items senders (has_stopped c.gather_all.new.outlet) n.self
    (how_of c.end-end.result) sinks n.sinks sound sound_new left left_new zeros_old zeros_new
    (ap length seated_is ∙ (c.seat_all.ensures.count ∙ ap length first_is)) p.ensures.count (ap length gathered_is ∙ (gathering.count ∙ ap length read_is)) (ap length last_is ∙ (c.tell_faults.ensures.count ∙ ap length told_is)) count
    (subst (λ (q : List (Client g.row.S.Denot) × List (Client g.row.S.Denot)). (k : ℕ) (d : Client g.row.S.Denot) → k < length q.0 → IsSeated relay k (slice_index_or q.0 k d) (slice_index_or q.1 k d)) (λ i. (first_is i, sym seated_is i)) (c.seat_all.ensures.seated relay c.in-Ok.ensures.inlets.1))
    p.ensures.read
    (subst (λ (q : List (Client g.row.S.Denot) × List (Client g.row.S.Denot)). (k : ℕ) (d : Client g.row.S.Denot) (x : Sender) → k < length q.0 → IsGathered (has_stopped c.gather_all.new.outlet) k (slice_index_or q.0 k d) (slice_index_or q.1 k d) (slice_index_or senders k x)) (λ i. (read_is i, sym gathered_is i)) gathering.gathered)
    (subst (λ (q : List (Client g.row.S.Denot) × List (Client g.row.S.Denot) × List Bool). (k : ℕ) (d : Client g.row.S.Denot) → k < length q.0 → slice_index_or q.1 k d ≡ told (slice_index_or q.2 k false) (slice_index_or q.0 k d)) (λ i. (told_is i, sym last_is i, flags_are i)) c.tell_faults.ensures.told)
    still all in
    subst (λ (q : List g.row.R.Denot × How × List Turn). IsServed g.S.Source.left g.S.Source.faults taken faults s base first.items (with_items (with_items read gathered) last).items sinks q.0 sound sound_new left left_new zeros_old zeros_new q.1 q.2) (λ i. (sym sinks_end i, sym c.how_of.ensures i, sym c.remains-turns.ensures.turns i)) whole_session

pub returns-clause-few : goal.returns-clause-few
returns-clause-few g c = omega (arith, c.end-end.ensures.few, ap length c.remains-turns.ensures.turns)

pub returns-clause-full : goal.returns-clause-full
returns-clause-full g c = λ full. ap length c.remains-turns.ensures.turns ∙ c.end-end.ensures.full (full_is c.end-end.result (sym c.how_of.ensures ∙ full))

pub returns-clause-over : goal.returns-clause-over
returns-clause-over g c = λ over. omega (arith, over_gives c.end-end.result (sym c.how_of.ensures ∙ over) c.end-end.ensures.over, ap length c.remains-turns.ensures.turns)

pub returns-clause-zero : goal.returns-clause-zero
returns-clause-zero g c = λ over.
    let ok = over_gives c.end-end.result (sym c.how_of.ensures ∙ over) c.end-end.ensures.was in
    subst (λ (r : Result (Unit {0}) Halt). OnOk r (Rose (g.T.Pulse.zeros c.args.pulse.now) (g.T.Pulse.zeros c.play_and_read-played.new.pulse))) ok c.play_and_read-played.ensures.played.zero

pub returns-clause-sound : goal.returns-clause-sound
returns-clause-sound g c = λ fault.
    let p = c.play_and_read-played in
    let before = g.O.Sink.faults c.args.sound.now in
    let now = g.O.Sink.faults p.new.sound in
    sound_rose c.end-end.result before now (c.end-end.ensures.counted before now p.ensures.played.counted) (sym c.how_of.ensures ∙ fault)

pub returns-clause-sound_unfailed : goal.returns-clause-sound_unfailed
returns-clause-sound_unfailed g c =
    let p = c.play_and_read-played in
    let before = g.O.Sink.faults c.args.sound.now in
    let now = g.O.Sink.faults p.new.sound in
    subst (λ (how : How). (how ≡ SoundFault) ⊎ (now ≡ before)) (sym c.how_of.ensures) (sound_kept c.end-end.result before now (c.end-end.ensures.counted before now p.ensures.played.counted))

pub returns-in_default-clause-sound_unfailed : goal.returns-in_default-clause-sound_unfailed
returns-in_default-clause-sound_unfailed g c = inr refl
