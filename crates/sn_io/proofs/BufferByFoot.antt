-- What a unit on a buffer makes of words depends on those that it may touch.
use Rattle.std.proofs.Common.{◌≡◌, ℕ, zero, suc, ◌+◌, ◌*◌, ◌==◌, Bool, true, false, cond, List, ℤ, Option, Some, None, get_or, refl, ap, subst, ◌∙◌}
use Rattle.std.specs.Option.{option_map}
use Rattle.sn_fixed.specs.Fixed.{sat}
use Rattle.sn_def.specs.declared.kind.Kind.{Kind}
use Rattle.sn_def.specs.declared.kind.Kind.TheVariants as kinds
use Rattle.sn_def.specs.declared.control.Now.{Now}
use Rattle.sn_def.specs.Units.{row_of}
use Rattle.sn_mem.specs.declared.extents.Foot.{Foot}
use Rattle.sn_mem.specs.declared.buffers.BufferPlace.{BufferPlace}
use Rattle.sn_mem.specs.Words.{MayWrite, touches}
use Rattle.sn_mem.specs.Blocks.{window, put, sample, word_for}
use Rattle.sn_mem.specs.Buffers.{Buffer, buffer_of}
use Rattle.sn_mem.proofs.Feet.{may_touch, may_read}
use Rattle.sn_io.specs.declared.between.Point.{Point}
use Rattle.sn_io.specs.Positions.{indexed}
use Rattle.sn_io.specs.Between.{play_points, scaled_points}
use Rattle.sn_io.specs.BufferUnits.{chosen, usable, gathered, gathered_between, set_frame, set_at, scattered, signals_from, play_frames, record_frames}
use Rattle.sn_io.specs.BuffersOverWords.{usable_place, place_frames, set_word, onto_buffer, gathered_from, between_from, buffer_unit_over}
use Rattle.sn_io.specs.Conditions.{MayReadBuffer, MayReachBuffer}
use Rattle.sn_io.specs.ByFoot.{Agree, BlocksAgree}
use Rattle.sn_io.proofs.Agreeing.{agree_set, agree_put, agree_window}
use Rattle.sn_io.proofs.BufferMeaning.{buffer_same}

-- ---- reading

pick_same : (f : Foot) (us ws : List ℕ) (p : BufferPlace) (t : Bool) → MayReadBuffer f (Some p) → Agree (touches f) us ws → option_map (buffer_of us) (cond t (Some p) None) ≡ option_map (buffer_of ws) (cond t (Some p) None)
pick_same f us ws p true may a = ap Some (buffer_same us ws p (λ j low high. a.same j (may_read f f p.extent.at p.extent.len j may refl low high)))
pick_same f us ws p false may a = refl

usable_same : (f : Foot) (us ws : List ℕ) (count : ℕ) (q : Option BufferPlace) → MayReadBuffer f q → Agree (touches f) us ws → option_map (buffer_of us) (usable (λ (p : BufferPlace). p.channels) count q) ≡ option_map (buffer_of ws) (usable (λ (p : BufferPlace). p.channels) count q)
usable_same f us ws count None may a = refl
usable_same f us ws count (Some p) may a = pick_same f us ws p (p.channels == count) may a

gathered_same : (f : Foot) (us ws : List ℕ) (n : ℕ) (inputs : List (List ℤ)) (places : List (Option BufferPlace)) (os rs : List (Option ℕ)) → os ≡ rs → MayReadBuffer f (chosen inputs places) → Agree (touches f) us ws
    → gathered_from us (usable_place n inputs places) os n ≡ gathered_from ws (usable_place n inputs places) rs n
gathered_same f us ws n inputs places os rs e may a =
    ap (λ (os : List (Option ℕ)). gathered_from us (usable_place n inputs places) os n) e
    ∙ ap (λ (b : Option Buffer). gathered b rs n) (usable_same f us ws n (chosen inputs places) may a)

between_same : (f : Foot) (us ws : List ℕ) (n : ℕ) (inputs : List (List ℤ)) (places : List (Option BufferPlace)) (os rs : List (Option Point)) → os ≡ rs → MayReadBuffer f (chosen inputs places) → Agree (touches f) us ws
    → between_from us (usable_place n inputs places) os n ≡ between_from ws (usable_place n inputs places) rs n
between_same f us ws n inputs places os rs e may a =
    ap (λ (os : List (Option Point)). between_from us (usable_place n inputs places) os n) e
    ∙ ap (λ (b : Option Buffer). gathered_between b rs n) (usable_same f us ws n (chosen inputs places) may a)

-- ---- writing

frame_agrees : (seen : ℕ → Bool) (at : ℕ) (inputs : List (List ℤ)) (first k place c : ℕ) (us ws : List ℕ) → Agree seen us ws → Agree seen (set_frame (set_word at) inputs first k place c us) (set_frame (set_word at) inputs first k place c ws)
unfolding set_frame
frame_agrees seen at inputs first k place zero us ws a = a
frame_agrees seen at inputs first k place (suc c) us ws a =
    agree_set seen (set_frame (set_word at) inputs first k place c us) (set_frame (set_word at) inputs first k place c ws) (at + (place + c)) (word_for (sat (sample inputs (first + c) k))) (frame_agrees seen at inputs first k place c us ws a)

at_agrees : (seen : ℕ → Bool) (at : ℕ) (inputs : List (List ℤ)) (first channels k : ℕ) (o : Option ℕ) (us ws : List ℕ) → Agree seen us ws → Agree seen (set_at (set_word at) inputs first channels k o us) (set_at (set_word at) inputs first channels k o ws)
at_agrees seen at inputs first channels k None us ws a = a
at_agrees seen at inputs first channels k (Some i) us ws a = frame_agrees seen at inputs first k (i * channels) channels us ws a

scattered_agrees : (seen : ℕ → Bool) (at : ℕ) (inputs : List (List ℤ)) (first channels : ℕ) (os : List (Option ℕ)) (m : ℕ) (us ws : List ℕ) → Agree seen us ws → Agree seen (scattered (set_word at) inputs first channels os m us) (scattered (set_word at) inputs first channels os m ws)
unfolding scattered
scattered_agrees seen at inputs first channels os zero us ws a = a
scattered_agrees seen at inputs first channels os (suc k) us ws a =
    at_agrees seen at inputs first channels k (get_or os k None) (scattered (set_word at) inputs first channels os k us) (scattered (set_word at) inputs first channels os k ws) (scattered_agrees seen at inputs first channels os k us ws a)

onto_agrees : (seen : ℕ → Bool) (inputs : List (List ℤ)) (first : ℕ) (os : List (Option ℕ)) (q : Option BufferPlace) (us ws : List ℕ) → Agree seen us ws → Agree seen (onto_buffer inputs first os q us) (onto_buffer inputs first os q ws)
onto_agrees seen inputs first os None us ws a = a
onto_agrees seen inputs first os (Some p) us ws a = scattered_agrees seen p.extent.at inputs first p.channels os 64 us ws a

onto_agree : (seen : ℕ → Bool) (inputs : List (List ℤ)) (first : ℕ) (os rs : List (Option ℕ)) (q : Option BufferPlace) (us ws : List ℕ) → os ≡ rs → Agree seen us ws → Agree seen (onto_buffer inputs first os q us) (onto_buffer inputs first rs q ws)
onto_agree seen inputs first os rs q us ws e a = let P : List (Option ℕ) → Type 0 = λ (rs : List (Option ℕ)). Agree seen (onto_buffer inputs first os q us) (onto_buffer inputs first rs q ws) in subst P e (onto_agrees seen inputs first os q us ws a)

-- ---- units

state_same : (f : Foot) (us ws : List ℕ) (at len : ℕ) → MayWrite f at len → Agree (touches f) us ws → window us at len ≡ window ws at len
state_same f us ws at len state a = agree_window (touches f) us ws at len (λ j p q. may_touch f f at len j state refl p q) a

pub buffer_unit_by_foot : (k : Kind) (now : Now) (f : Foot) (n : ℕ) (places : List (Option BufferPlace)) (us ws : List ℕ) (at len : ℕ) (inputs : List (List ℤ)) → MayWrite f at len → MayReachBuffer k f inputs places → Agree (touches f) us ws
    → BlocksAgree (touches f) (buffer_unit_over k now n places us at len inputs) (buffer_unit_over k now n places ws at len inputs)
unfolding row_of buffer_unit_over
buffer_unit_by_foot kinds.PlayBuf now f n places us ws at len inputs state may a =
    let o : Option ℕ = place_frames (usable_place n inputs places) in
    let e : window us at len ≡ window ws at len = state_same f us ws at len state a in
    let xs : List ℕ = (play_frames o (window us at len) inputs).0 in
    let ys : List ℕ = (play_frames o (window ws at len) inputs).0 in
    let words : Agree (touches f) (put us at xs) (put ws at ys) = agree_put (touches f) us ws at xs ys (ap (λ (st : List ℕ). (play_frames o st inputs).0) e) a in record {
      words = words;
      outputs = gathered_same f (put us at xs) (put ws at ys) n inputs places (play_frames o (window us at len) inputs).1 (play_frames o (window ws at len) inputs).1 (ap (λ (st : List ℕ). (play_frames o st inputs).1) e) (may.reads refl) words;
    }
buffer_unit_by_foot kinds.PlayBufL now f n places us ws at len inputs state may a =
    let o : Option ℕ = place_frames (usable_place n inputs places) in
    let e : window us at len ≡ window ws at len = state_same f us ws at len state a in
    let xs : List ℕ = (play_points o (window us at len) inputs).0 in
    let ys : List ℕ = (play_points o (window ws at len) inputs).0 in
    let words : Agree (touches f) (put us at xs) (put ws at ys) = agree_put (touches f) us ws at xs ys (ap (λ (st : List ℕ). (play_points o st inputs).0) e) a in record {
      words = words;
      outputs = between_same f (put us at xs) (put ws at ys) n inputs places (play_points o (window us at len) inputs).1 (play_points o (window ws at len) inputs).1 (ap (λ (st : List ℕ). (play_points o st inputs).1) e) (may.reads refl) words;
    }
buffer_unit_by_foot kinds.RecordBuf now f n places us ws at len inputs state may a =
    let p : Option BufferPlace = usable_place (signals_from 4 inputs) inputs places in
    let o : Option ℕ = place_frames p in
    let e : window us at len ≡ window ws at len = state_same f us ws at len state a in
    let xs : List ℕ = (record_frames o (window us at len) inputs).0 in
    let ys : List ℕ = (record_frames o (window ws at len) inputs).0 in record {
      words = onto_agree (touches f) inputs 4 (record_frames o (window us at len) inputs).1 (record_frames o (window ws at len) inputs).1 p (put us at xs) (put ws at ys) (ap (λ (st : List ℕ). (record_frames o st inputs).1) e)
          (agree_put (touches f) us ws at xs ys (ap (λ (st : List ℕ). (record_frames o st inputs).0) e) a);
      outputs = refl;
    }
buffer_unit_by_foot kinds.BufRd now f n places us ws at len inputs state may a =
    let os : List (Option ℕ) = indexed (place_frames (usable_place n inputs places)) inputs in record {
      words = a;
      outputs = gathered_same f us ws n inputs places os os refl (may.reads refl) a;
    }
buffer_unit_by_foot kinds.BufRdL now f n places us ws at len inputs state may a =
    let os : List (Option Point) = scaled_points (place_frames (usable_place n inputs places)) inputs in record {
      words = a;
      outputs = between_same f us ws n inputs places os os refl (may.reads refl) a;
    }
buffer_unit_by_foot kinds.BufWr now f n places us ws at len inputs state may a =
    let p : Option BufferPlace = usable_place (signals_from 2 inputs) inputs places in record {
      words = onto_agrees (touches f) inputs 2 (indexed (place_frames p) inputs) p us ws a;
      outputs = refl;
    }
buffer_unit_by_foot kinds.BufFrames now f n places us ws at len inputs state may a = record { words = a; outputs = refl }
buffer_unit_by_foot _ now f n places us ws at len inputs state may a = record { words = a; outputs = refl }
