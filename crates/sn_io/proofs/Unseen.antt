-- Units that end do not see whether their done word was settled.
use Rattle.std.proofs.Common.{◌≡◌, ℕ, zero, suc, ◌+◌, ◌==◌, Bool, true, false, cond, List, [], ◌∷◌, ◌++◌, ℤ, Option, Some, None, refl, sym, ap, ◌∙◌}
use Rattle.std.specs.Prelude.{pos, int_lt, is_some, ◌+ℤ◌}
use Rattle.sn_fixed.specs.Fixed.{sat}
use Rattle.sn_def.specs.declared.kind.Kind.TheVariants as kinds
use Rattle.sn_def.specs.declared.control.Now.{Now}
use Rattle.sn_mem.specs.Blocks.{sample, recurrence}
use Rattle.sn_mem.specs.Buffers.{Buffer}
use Rattle.sn_mem.specs.Done.{ended}
use Rattle.sn_done.specs.Done.{settled_word, settled_first, IsUnseen}
use Rattle.sn_done.proofs.Settling.{twice, ended_alike, ended_if, ended_unless, both_zero, unseen_then, StepsAlike, HoldsDone, recurrence_unseen}
use Rattle.sn_io.specs.declared.triggers.Quiet.{Quiet}
use Rattle.sn_io.specs.declared.triggers.DoneWord.{DoneWord}
use Rattle.sn_io.specs.declared.playing.Playing.{Playing}
use Rattle.sn_io.specs.declared.recording.Recording.{Recording}
use Rattle.sn_io.specs.Triggers.{quiet_in, quiet_words, counted, is_quiet, is_silent, detect_silence, ending_in, ending_words, end_self, trigger_block}
use Rattle.sn_io.specs.Positions.{walk, walked, frame_at, playing_in, playing_words, begun_at, started, looped, play_buf, recording_in, recording_words, records, record_buf}
use Rattle.sn_io.specs.declared.between.Point.{Point}
use Rattle.sn_io.specs.declared.placing.Placed.{Placed}
use Rattle.sn_io.specs.Between.{point_at, placed_in, placed_words, first_place, started_place, looped_place, next_place, play_buf_l}
use Rattle.sn_io.specs.BufferUnits.{frames_in, usable_buffer, signals_from, gathered, gathered_between, rewritten, buffer_unit}

-- ---- DetectSilence

settle_quiet : Quiet → Quiet
settle_quiet s = record { done = settled_word s.done; count = s.count }

silence_steps : (rate : ℕ) → StepsAlike settle_quiet (detect_silence rate)
unfolding settle_quiet
silence_steps rate = record {
  states = λ s inputs k.
      let count : Option ℕ = counted (is_quiet inputs k) s.count in
      ap (λ d. record { done = d; count = count }) (ended_if (is_silent rate (sample inputs 2 k) count) s.done);
  given = λ s inputs k.
      let b : Bool = is_silent rate (sample inputs 2 k) (counted (is_quiet inputs k) s.count) in
      ap {B = ℤ} (λ (b : Bool). cond b (pos 0) (pos 16777216)) (both_zero (cond b (ended (settled_word s.done)) (settled_word s.done)) (cond b (ended s.done) s.done) (ended_if b s.done));
}

quiet_holds : HoldsDone settle_quiet quiet_in quiet_words
unfolding settle_quiet
quiet_holds = record { loads = loads; stores = λ s. refl }
  where
    loads : (ws : List ℕ) → settle_quiet (quiet_in (settled_first ws)) ≡ settle_quiet (quiet_in ws)
    loads [] = refl
    loads (d ∷ ws) = let s : Quiet = quiet_in (d ∷ ws) in ap (λ n. record { done = n; count = s.count }) (twice d)

pub silence_unseen : (now : Now) (inputs : List (List ℤ)) → IsUnseen (λ ws. trigger_block kinds.DetectSilence now ws inputs)
unfolding trigger_block
silence_unseen now inputs = unseen_then (λ ws. recurrence quiet_in quiet_words (detect_silence now.rate) ws inputs) (λ (xs : List ℤ). xs ∷ []) (recurrence_unseen settle_quiet quiet_in quiet_words (detect_silence now.rate) inputs (silence_steps now.rate) quiet_holds)

-- ---- FreeSelf and PauseSelf

settle_ending : DoneWord → DoneWord
settle_ending s = record { done = settled_word s.done }

ending_steps : StepsAlike settle_ending end_self
unfolding settle_ending
ending_steps = record {
  states = λ s inputs k. ap {B = DoneWord} (λ d. record { done = d }) (ended_if (int_lt (pos 0) (sample inputs 0 k)) s.done);
  given = λ s inputs k. refl;
}

ending_holds : HoldsDone settle_ending ending_in ending_words
unfolding settle_ending
ending_holds = record { loads = loads; stores = λ s. refl }
  where
    loads : (ws : List ℕ) → settle_ending (ending_in (settled_first ws)) ≡ settle_ending (ending_in ws)
    loads [] = refl
    loads (d ∷ ws) = ap {B = DoneWord} (λ n. record { done = n }) (twice d)

ending_unseen : (inputs : List (List ℤ)) → IsUnseen (λ ws. recurrence ending_in ending_words end_self ws inputs)
ending_unseen inputs = recurrence_unseen settle_ending ending_in ending_words end_self inputs ending_steps ending_holds

no_blocks : List ℤ → List (List ℤ)
no_blocks xs = []

pub free_unseen : (now : Now) (inputs : List (List ℤ)) → IsUnseen (λ ws. trigger_block kinds.FreeSelf now ws inputs)
unfolding trigger_block no_blocks
free_unseen now inputs = unseen_then (λ ws. recurrence ending_in ending_words end_self ws inputs) no_blocks (ending_unseen inputs)

pub pause_unseen : (now : Now) (inputs : List (List ℤ)) → IsUnseen (λ ws. trigger_block kinds.PauseSelf now ws inputs)
unfolding trigger_block no_blocks
pause_unseen now inputs = unseen_then (λ ws. recurrence ending_in ending_words end_self ws inputs) no_blocks (ending_unseen inputs)

-- ---- a recurrence that gives frames

walk_alike : {S A : Type 0} (settle : S → S) (step : S → List (List ℤ) → ℕ → S × A) → StepsAlike settle step → (s t : S) (inputs : List (List ℤ)) (n : ℕ) → settle s ≡ settle t
    → (settle (walk step s inputs n).0 ≡ settle (walk step t inputs n).0) × ((walk step s inputs n).1 ≡ (walk step t inputs n).1)
unfolding walk
walk_alike settle step h s t inputs zero e = (e, refl)
walk_alike {S} {A} settle step h s t inputs (suc k) e =
    let r = walk_alike settle step h s t inputs k e in
    let a : S = (walk step s inputs k).0 in
    let b : S = (walk step t inputs k).0 in (
      sym (h.states a inputs k) ∙ (ap (λ (c : S). settle (step c inputs k).0) r.0 ∙ h.states b inputs k),
      ap (λ (xs : List A). xs ++ (step a inputs k).1 ∷ []) r.1
          ∙ ap (λ (y : A). (walk step t inputs k).1 ++ y ∷ []) (sym (h.given a inputs k) ∙ (ap (λ (c : S). (step c inputs k).1) r.0 ∙ h.given b inputs k)),
    )

walked_unseen : {S A : Type 0} (settle : S → S) (loaded : List ℕ → S) (stored : S → List ℕ) (step : S → List (List ℤ) → ℕ → S × A) (inputs : List (List ℤ)) → StepsAlike settle step → HoldsDone settle loaded stored
    → IsUnseen (λ ws. walked loaded stored step ws inputs)
walked_unseen {S} settle loaded stored step inputs h holds = record {
  words = λ ws.
      let a : S = (walk step (loaded (settled_first ws)) inputs 64).0 in
      let b : S = (walk step (loaded ws) inputs 64).0 in
      holds.stores a ∙ (ap stored (walk_alike settle step h (loaded (settled_first ws)) (loaded ws) inputs 64 (holds.loads ws)).0 ∙ sym (holds.stores b));
  given = λ ws. (walk_alike settle step h (loaded (settled_first ws)) (loaded ws) inputs 64 (holds.loads ws)).1;
}

-- ---- PlayBuf

settle_playing : Playing → Playing
settle_playing p = record { done = settled_word p.done; trigger = p.trigger; position = p.position; begun = p.begun }

playing_steps : (frames : Option ℕ) → StepsAlike settle_playing (play_buf frames)
unfolding settle_playing
playing_steps None = record {
  states = λ p inputs k. ap (λ d. record { done = d; trigger = sample inputs 2 k; position = begun_at p (sample inputs 3 k); begun = true }) (twice p.done);
  given = λ p inputs k. refl;
}
playing_steps (Some frames) = record {
  states = λ p inputs k.
      let x : ℤ = looped frames (sample inputs 4 k) (started p (sample inputs 2 k) (sample inputs 3 k)) in
      ap (λ d. record { done = d; trigger = sample inputs 2 k; position = sat (x +ℤ sample inputs 1 k); begun = true }) (ended_unless (is_some (frame_at frames x)) p.done);
  given = λ p inputs k. refl;
}

playing_holds : HoldsDone settle_playing playing_in playing_words
unfolding settle_playing
playing_holds = record { loads = loads; stores = λ p. refl }
  where
    loads : (ws : List ℕ) → settle_playing (playing_in (settled_first ws)) ≡ settle_playing (playing_in ws)
    loads [] = refl
    loads (d ∷ ws) = let p : Playing = playing_in (d ∷ ws) in ap (λ n. record { done = n; trigger = p.trigger; position = p.position; begun = p.begun }) (twice d)

-- ---- PlayBufL

settle_placed : Placed → Placed
settle_placed p = record { done = settled_word p.done; trigger = p.trigger; place = p.place; begun = p.begun }

placing_steps : (frames : Option ℕ) → StepsAlike settle_placed (play_buf_l frames)
unfolding settle_placed
placing_steps None = record {
  states = λ p inputs k. ap (λ d. record { done = d; trigger = sample inputs 2 k; place = first_place p (sample inputs 3 k); begun = true }) (twice p.done);
  given = λ p inputs k. refl;
}
placing_steps (Some frames) = record {
  states = λ p inputs k.
      let loop : ℤ = sample inputs 4 k in
      let x : ℤ = looped_place frames loop (started_place p (sample inputs 2 k) (sample inputs 3 k)) in
      ap (λ d. record { done = d; trigger = sample inputs 2 k; place = next_place x (sample inputs 1 k); begun = true }) (ended_unless (is_some (point_at frames loop x)) p.done);
  given = λ p inputs k. refl;
}

placing_holds : HoldsDone settle_placed placed_in placed_words
unfolding settle_placed
placing_holds = record { loads = loads; stores = λ p. refl }
  where
    loads : (ws : List ℕ) → settle_placed (placed_in (settled_first ws)) ≡ settle_placed (placed_in ws)
    loads [] = refl
    loads (d ∷ ws) = let p : Placed = placed_in (d ∷ ws) in ap (λ n. record { done = n; trigger = p.trigger; place = p.place; begun = p.begun }) (twice d)

-- ---- RecordBuf

settle_recording : Recording → Recording
settle_recording r = record { done = settled_word r.done; position = r.position }

-- the state after a frame, by the three tests that decide
recorded_at : Bool → Bool → Bool → ℕ → ℕ → Recording
recorded_at records last loops d place =
    cond records
    (cond last (cond loops (record { done = d; position = 0 }) (record { done = ended d; position = place + 1 })) (record { done = d; position = place + 1 }))
    (record { done = d; position = place })

recorded_alike : (records last loops : Bool) (d place : ℕ) → settle_recording (recorded_at records last loops (settled_word d) place) ≡ settle_recording (recorded_at records last loops d place)
unfolding settle_recording recorded_at
recorded_alike true true true d place = ap (λ n. record { done = n; position = 0 }) (twice d)
recorded_alike true true false d place = ap (λ n. record { done = n; position = place + 1 }) (ended_alike d)
recorded_alike true false loops d place = ap (λ n. record { done = n; position = place + 1 }) (twice d)
recorded_alike false last loops d place = ap (λ n. record { done = n; position = place }) (twice d)

recording_steps : (frames : Option ℕ) → StepsAlike settle_recording (record_buf frames)
unfolding settle_recording recorded_at
recording_steps None = record {
  states = λ r inputs k. ap (λ n. record { done = n; position = r.position }) (twice r.done);
  given = λ r inputs k. refl;
}
recording_steps (Some frames) = record {
  states = λ r inputs k. recorded_alike (records frames r (sample inputs 1 k)) (r.position + 1 == frames) (int_lt (pos 0) (sample inputs 2 k)) r.done r.position;
  given = λ r inputs k. refl;
}

recording_holds : HoldsDone settle_recording recording_in recording_words
unfolding settle_recording
recording_holds = record { loads = loads; stores = λ r. refl }
  where
    loads : (ws : List ℕ) → settle_recording (recording_in (settled_first ws)) ≡ settle_recording (recording_in ws)
    loads [] = refl
    loads (d ∷ ws) = let r : Recording = recording_in (d ∷ ws) in ap (λ n. record { done = n; position = r.position }) (twice d)

-- ---- what they give

pub playing_unseen : (now : Now) (n : ℕ) (inputs : List (List ℤ)) (buffers : List (Option Buffer)) → IsUnseen {A = List (List ℤ) × List (Option Buffer)} (λ ws. let r = buffer_unit kinds.PlayBuf now n ws inputs buffers in (r.state, (r.outputs, r.buffers)))
unfolding buffer_unit
playing_unseen now n inputs buffers =
    let b : Option Buffer = usable_buffer n inputs buffers in
    unseen_then {B = List (List ℤ) × List (Option Buffer)} (λ ws. walked playing_in playing_words (play_buf (frames_in b)) ws inputs) (λ (frames : List (Option ℕ)). (gathered b frames n, buffers))
    (walked_unseen settle_playing playing_in playing_words (play_buf (frames_in b)) inputs (playing_steps (frames_in b)) playing_holds)

pub placing_unseen : (now : Now) (n : ℕ) (inputs : List (List ℤ)) (buffers : List (Option Buffer)) → IsUnseen {A = List (List ℤ) × List (Option Buffer)} (λ ws. let r = buffer_unit kinds.PlayBufL now n ws inputs buffers in (r.state, (r.outputs, r.buffers)))
unfolding buffer_unit
placing_unseen now n inputs buffers =
    let b : Option Buffer = usable_buffer n inputs buffers in
    unseen_then {B = List (List ℤ) × List (Option Buffer)} (λ ws. walked placed_in placed_words (play_buf_l (frames_in b)) ws inputs) (λ (points : List (Option Point)). (gathered_between b points n, buffers))
    (walked_unseen settle_placed placed_in placed_words (play_buf_l (frames_in b)) inputs (placing_steps (frames_in b)) placing_holds)

pub recording_unseen : (now : Now) (n : ℕ) (inputs : List (List ℤ)) (buffers : List (Option Buffer)) → IsUnseen {A = List (List ℤ) × List (Option Buffer)} (λ ws. let r = buffer_unit kinds.RecordBuf now n ws inputs buffers in (r.state, (r.outputs, r.buffers)))
unfolding buffer_unit
recording_unseen now n inputs buffers =
    let b : Option Buffer = usable_buffer (signals_from 4 inputs) inputs buffers in
    let none : List (List ℤ) = [] in
    unseen_then {B = List (List ℤ) × List (Option Buffer)} (λ ws. walked recording_in recording_words (record_buf (frames_in b)) ws inputs) (λ (frames : List (Option ℕ)). (none, rewritten inputs 4 frames buffers))
    (walked_unseen settle_recording recording_in recording_words (record_buf (frames_in b)) inputs (recording_steps (frames_in b)) recording_holds)
