-- The words after a unit's block hold the buffers and the state words after it.
use Rattle.std.proofs.Common.{◌≡◌, ◌≢◌, ◌≤◌, ◌<◌, ◌⊎◌, ℕ, zero, suc, ◌+◌, ◌*◌, ◌==◌, Bool, true, false, cond, List, [], ◌∷◌, ℤ, pos, Option, Some, None, map, replicate, length, get_or, set, refl, ap, sym, subst, ◌∙◌, ⊎_elim, inl, inr, arith, length-set, get_or-set_same, get_or-set_other}
use Rattle.std.specs.Prelude.{IfSome}
use Rattle.std.specs.Option.{option_map}
use Rattle.std.proofs.lemmas.Bool.{cases_eq, cases_lt}
use Rattle.std.proofs.lemmas.List.{map-set, ext_get_or, length-map}
use Rattle.std.proofs.Math.ListN.{get_or-map}
use Rattle.sn_fixed.specs.Fixed.{sat}
use Rattle.sn_mem.specs.declared.extents.Extent.{Extent}
use Rattle.sn_mem.specs.declared.buffers.BufferPlace.{BufferPlace}
use Rattle.sn_def.specs.declared.kind.Kind.{Kind}
use Rattle.sn_def.specs.declared.kind.Kind.TheVariants as kinds
use Rattle.sn_def.specs.declared.control.Now.{Now}
use Rattle.sn_def.specs.Units.{row_of}
use Rattle.sn_def.specs.StateWords.{words_of}
use Rattle.sn_mem.specs.Blocks.{window, put, sample, sample_in, word_for}
use Rattle.sn_mem.specs.Buffers.{Buffer, samples_of, buffer_of, buffers_of}
use Rattle.sn_mem.proofs.Steps.{length-put}
use Rattle.sn_mem.proofs.Windows.{window_put, window_same, apart_put}
use Rattle.sn_mem.proofs.BusLaws.{sample_in-word_for}
use Rattle.sn_io.specs.Positions.{indexed}
use Rattle.sn_io.specs.Between.{play_points, scaled_points}
use Rattle.sn_io.specs.BufferUnits.{BufferBlock, is_buffer_unit, writes_buffer, buffer_number, numbered, chosen, usable, usable_buffer, frames_in, gathered, gathered_between, set_frame, set_at, scattered, set_sample, written, signals_from, replaced_at, rewritten, length_in, play_frames, record_frames, buffer_unit}
use Rattle.sn_io.specs.BuffersOverWords.{usable_place, place_frames, set_word, onto_buffer, buffer_unit_over}
use Rattle.sn_io.specs.Conditions.{AreWithin}
use Rattle.sn_io.proofs.Samples.{sat_fits}
use Rattle.sn_io.proofs.Words.{within}
use Rattle.sn_io.proofs.Bounds.{indexed_within, record_within}
use Rattle.sn_io.proofs.Meaning.{put_there}

-- ---- two things that are written side by side

frame_meets : {S T : Type 0} (R : S → T → Type 0) (f : S → ℕ → ℤ → S) (g : T → ℕ → ℤ → T) (inputs : List (List ℤ)) (first k i frames channels c : ℕ) (s : S) (t : T) → i < frames → c ≤ channels → ((s : S) (t : T) (j : ℕ) (x : ℤ) → j < frames * channels → R s t → R (f s j x) (g t j x)) → R s t
    → R (set_frame f inputs first k (i * channels) c s) (set_frame g inputs first k (i * channels) c t)
unfolding set_frame
frame_meets R f g inputs first k i frames channels zero s t lt le step r = r
frame_meets R f g inputs first k i frames channels (suc c) s t lt le step r =
    step (set_frame f inputs first k (i * channels) c s) (set_frame g inputs first k (i * channels) c t) (i * channels + c) (sample inputs (first + c) k) (within i frames channels c lt (omega (arith, le)))
    (frame_meets R f g inputs first k i frames channels c s t lt (omega (arith, le)) step r)

at_meets : {S T : Type 0} (R : S → T → Type 0) (f : S → ℕ → ℤ → S) (g : T → ℕ → ℤ → T) (inputs : List (List ℤ)) (first k frames channels : ℕ) (o : Option ℕ) (s : S) (t : T) → IfSome o (λ i. i < frames) → ((s : S) (t : T) (j : ℕ) (x : ℤ) → j < frames * channels → R s t → R (f s j x) (g t j x)) → R s t
    → R (set_at f inputs first channels k o s) (set_at g inputs first channels k o t)
at_meets R f g inputs first k frames channels None s t lt step r = r
at_meets R f g inputs first k frames channels (Some i) s t lt step r = frame_meets R f g inputs first k i frames channels channels s t lt (omega arith) step r

pub scattered_meets : {S T : Type 0} (R : S → T → Type 0) (f : S → ℕ → ℤ → S) (g : T → ℕ → ℤ → T) (inputs : List (List ℤ)) (first frames channels : ℕ) (os : List (Option ℕ)) (m : ℕ) (s : S) (t : T) → AreWithin (Some frames) os → ((s : S) (t : T) (j : ℕ) (x : ℤ) → j < frames * channels → R s t → R (f s j x) (g t j x)) → R s t
    → R (scattered f inputs first channels os m s) (scattered g inputs first channels os m t)
unfolding scattered
scattered_meets R f g inputs first frames channels os zero s t all step r = r
scattered_meets R f g inputs first frames channels os (suc k) s t all step r =
    at_meets R f g inputs first k frames channels (get_or os k None) (scattered f inputs first channels os k s) (scattered g inputs first channels os k t) (all k) step (scattered_meets R f g inputs first frames channels os k s t all step r)

-- ---- one sample

one_set : (ws : List ℕ) (e : Extent) (j : ℕ) (x : ℤ) → j < e.len → e.at + e.len ≤ length ws → samples_of (set_word e.at ws j x) e ≡ set_sample (samples_of ws e) j x
unfolding put
one_set ws e j x lt inside =
    let w : ℕ = word_for (sat x) in
    let a : window (set ws (e.at + j) w) e.at e.len ≡ set (window ws e.at e.len) j w = window_put ws e.at e.len j (w ∷ []) (omega (arith, lt)) inside in
    ap (λ (ys : List ℕ). map sample_in ys) a ∙ (map-set sample_in (window ws e.at e.len) j w ∙ ap (set (samples_of ws e) j) (sample_in-word_for (sat x) (sat_fits x)))

-- the words and the samples of a buffer, and which words are as before
record Holds (e : Extent) (ws us : List ℕ) (xs : List ℤ) : Type 0 where
  pub is : samples_of us e ≡ xs
  pub long : length us ≡ length ws
  pub others : (j : ℕ) → (j < e.at) ⊎ (e.at + e.len ≤ j) → get_or us j 0 ≡ get_or ws j 0

one_step : (e : Extent) (ws us : List ℕ) (xs : List ℤ) (j : ℕ) (x : ℤ) → e.at + e.len ≤ length ws → j < e.len → Holds e ws us xs → Holds e ws (set_word e.at us j x) (set_sample xs j x)
one_step e ws us xs j x inside lt r =
    let w : ℕ = word_for (sat x) in record {
      is = one_set us e j x lt (omega (arith, r.long, inside)) ∙ ap (λ (ys : List ℤ). set_sample ys j x) r.is;
      long = length-set us (e.at + j) w ∙ r.long;
      others = λ i off. get_or-set_other us (e.at + j) i w 0 (⊎_elim (λ (l : i < e.at). omega (arith, l)) (λ (h : e.at + e.len ≤ i). omega (arith, h, lt)) off) ∙ r.others i off;
    }

onto_holds : (inputs : List (List ℤ)) (first : ℕ) (os : List (Option ℕ)) (p : BufferPlace) (ws : List ℕ) → p.extent.at + p.extent.len ≤ length ws → p.extent.len ≡ p.frames * p.channels → AreWithin (Some p.frames) os
    → Holds p.extent ws (onto_buffer inputs first os (Some p) ws) (scattered set_sample inputs first p.channels os 64 (samples_of ws p.extent))
onto_holds inputs first os p ws inside size all =
    scattered_meets (λ (us : List ℕ) (xs : List ℤ). Holds p.extent ws us xs) (set_word p.extent.at) set_sample inputs first p.frames p.channels os 64 ws (samples_of ws p.extent) all
    (λ us xs j x lt r. one_step p.extent ws us xs j x inside (omega (arith, size, lt)) r)
    (record { is = refl; long = refl; others = λ j off. refl })

-- ---- all buffers

-- no word is in both
abbrev pub HaveNoWordInCommon : Extent → Extent → Type 0
HaveNoWordInCommon a b = (x : ℕ) → a.at ≤ x → x < a.at + a.len → b.at ≤ x → x < b.at + b.len → ⊥

same_buffer : (us ws : List ℕ) (p : BufferPlace) (xs : List ℤ) → samples_of us p.extent ≡ xs → ◌≡◌ {A = Buffer} (buffer_of us p) (record { frames = p.frames; channels = p.channels; samples = xs; extent = p.extent })
same_buffer us ws p xs e = ap (λ (xs : List ℤ). let b : Buffer = record { frames = p.frames; channels = p.channels; samples = xs; extent = p.extent } in b) e

-- a buffer rests on its words
pub buffer_same : (us ws : List ℕ) (p : BufferPlace) → ((j : ℕ) → p.extent.at ≤ j → j < p.extent.at + p.extent.len → get_or us j 0 ≡ get_or ws j 0) → buffer_of us p ≡ buffer_of ws p
buffer_same us ws p h = same_buffer us ws p (samples_of ws p.extent) (ap (λ (ys : List ℕ). map sample_in ys) (window_same us ws p.extent.at p.extent.len (λ k lt. h (p.extent.at + k) (omega arith) (omega (arith, lt)))))

option_same : (us ws : List ℕ) (o : Option BufferPlace) → ((p : BufferPlace) → o ≡ Some p → buffer_of us p ≡ buffer_of ws p) → option_map (buffer_of us) o ≡ option_map (buffer_of ws) o
option_same us ws None h = refl
option_same us ws (Some p) h = ap Some (h p refl)

buffer_there : (ws : List ℕ) (places : List (Option BufferPlace)) (n : ℕ) → get_or (buffers_of ws places) n None ≡ option_map (buffer_of ws) (get_or places n None)
unfolding buffers_of
buffer_there ws places n = get_or-map (option_map (buffer_of ws)) places n None

length-buffers : (ws : List ℕ) (places : List (Option BufferPlace)) → length (buffers_of ws places) ≡ length places
unfolding buffers_of
length-buffers ws places = length-map places (option_map (buffer_of ws))

-- if the words of all buffers stay, so do the buffers
pub buffers_same : (us ws : List ℕ) (places : List (Option BufferPlace)) → ((n : ℕ) (p : BufferPlace) → get_or places n None ≡ Some p → buffer_of us p ≡ buffer_of ws p) → buffers_of us places ≡ buffers_of ws places
buffers_same us ws places h = ext_get_or None (buffers_of us places) (buffers_of ws places) (length-buffers us places ∙ sym (length-buffers ws places))
    (λ k lt. buffer_there us places k ∙ (option_same us ws (get_or places k None) (h k) ∙ sym (buffer_there ws places k)))

-- if the words of all others stay, one is changed
buffers_set : (us ws : List ℕ) (places : List (Option BufferPlace)) (n : ℕ) (p : BufferPlace) (b : Buffer) → get_or places n None ≡ Some p → buffer_of us p ≡ b → ((m : ℕ) (q : BufferPlace) → m ≢ n → get_or places m None ≡ Some q → buffer_of us q ≡ buffer_of ws q)
    → buffers_of us places ≡ set (buffers_of ws places) n (Some b)
buffers_set us ws places n p b there is others = ext_get_or None (buffers_of us places) (set (buffers_of ws places) n (Some b)) (length-buffers us places ∙ sym (length-set (buffers_of ws places) n (Some b) ∙ length-buffers ws places))
    (λ k lt. buffer_there us places k ∙ ⊎_elim
    (λ (e : k ≡ n). ap (λ m. option_map (buffer_of us) (get_or places m None)) e ∙ (ap (option_map (buffer_of us)) there ∙ (ap Some is ∙ (sym (get_or-set_same (buffers_of ws places) n (Some b) None (omega (arith, length-buffers us places, length-buffers ws places, lt, e))) ∙ ap (λ m. get_or (set (buffers_of ws places) n (Some b)) m None) (sym e)))))
    (λ (ne : k ≢ n). option_same us ws (get_or places k None) (λ q. others k q ne) ∙ (sym (buffer_there ws places k) ∙ sym (get_or-set_other (buffers_of ws places) n k (Some b) None ne)))
    (cases_eq k n))

-- a word of one is none of the other
outside : (e : Extent) (j : ℕ) → (e.at ≤ j → j < e.at + e.len → ⊥) → (j < e.at) ⊎ (e.at + e.len ≤ j)
outside e j off = ⊎_elim (λ (l : j < e.at). inl l) (λ (h : e.at ≤ j). ⊎_elim (λ (k : j < e.at + e.len). absurd (off h k)) (λ (k : e.at + e.len ≤ j). inr k) (cases_lt j (e.at + e.len))) (cases_lt j e.at)

-- a word of no buffer
abbrev pub IsNoBuffers : List (Option BufferPlace) → ℕ → Type 0
IsNoBuffers places j = (n : ℕ) (p : BufferPlace) → get_or places n None ≡ Some p → p.extent.at ≤ j → j < p.extent.at + p.extent.len → ⊥

-- the words after a buffer was written
record Wrote (places : List (Option BufferPlace)) (vs us : List ℕ) (after : List (Option Buffer)) : Type 0 where
  pub buffers : buffers_of us places ≡ after
  pub long : length us ≡ length vs
  pub others : (j : ℕ) → IsNoBuffers places j → get_or us j 0 ≡ get_or vs j 0

-- Where a unit's state and the buffers lie. The state and the buffer that is written, if one is, are inside the words.
-- A buffer has a word for each sample, and no word is in two of them.
pub record Stand (at len words : ℕ) (places : List (Option BufferPlace)) (o : Option ℕ) : Type 0 where
  pub inside : 0 < len → at + len ≤ words
  pub size : (n : ℕ) (p : BufferPlace) → get_or places n None ≡ Some p → p.extent.len ≡ p.frames * p.channels
  pub within : (n : ℕ) (p : BufferPlace) → o ≡ Some n → get_or places n None ≡ Some p → p.extent.at + p.extent.len ≤ words
  pub state : (n : ℕ) (p : BufferPlace) → get_or places n None ≡ Some p → HaveNoWordInCommon (record { at = at; len = len }) p.extent
  pub apart : (m n : ℕ) (q p : BufferPlace) → m ≢ n → get_or places m None ≡ Some q → get_or places n None ≡ Some p → HaveNoWordInCommon q.extent p.extent

chosen_frames : (p : BufferPlace) (os : List (Option ℕ)) (t : Bool) → AreWithin (place_frames (cond t (Some p) None)) os → t ≡ true → AreWithin (Some p.frames) os
chosen_frames p os true all e = all
chosen_frames p os false all e = absurd cc

wrote_one : (at len : ℕ) (inputs : List (List ℤ)) (first : ℕ) (os : List (Option ℕ)) (places : List (Option BufferPlace)) (vs : List ℕ) (n : ℕ) (p : BufferPlace) (t : Bool) → get_or places n None ≡ Some p → Stand at len (length vs) places (Some n) → (t ≡ true → AreWithin (Some p.frames) os)
    → Wrote places vs (onto_buffer inputs first os (cond t (Some p) None) vs) (replaced_at (Some n) (buffers_of vs places) (option_map (written inputs first os) (cond t (Some (buffer_of vs p)) None)))
wrote_one at len inputs first os places vs n p true there stand all =
    let us : List ℕ = onto_buffer inputs first os (Some p) vs in
    let h = onto_holds inputs first os p vs (stand.within n p refl there) (stand.size n p there) (all refl) in record {
      buffers = buffers_set us vs places n p (written inputs first os (buffer_of vs p)) there (same_buffer us vs p (scattered set_sample inputs first p.channels os 64 (samples_of vs p.extent)) h.is)
          (λ m q ne e. buffer_same us vs q (λ j low high. h.others j (outside p.extent j (λ a b. stand.apart m n q p ne e there j low high a b))));
      long = h.long;
      others = λ j off. h.others j (outside p.extent j (off n p there));
    }
wrote_one at len inputs first os places vs n p false there stand all = record { buffers = refl; long = refl; others = λ j off. refl }

wrote_at : (at len : ℕ) (inputs : List (List ℤ)) (first : ℕ) (os : List (Option ℕ)) (places : List (Option BufferPlace)) (vs : List ℕ) (n count : ℕ) (q : Option BufferPlace) → get_or places n None ≡ q → Stand at len (length vs) places (Some n) → AreWithin (place_frames (usable (λ (p : BufferPlace). p.channels) count q)) os
    → Wrote places vs (onto_buffer inputs first os (usable (λ (p : BufferPlace). p.channels) count q) vs) (replaced_at (Some n) (buffers_of vs places) (option_map (written inputs first os) (usable (λ (b : Buffer). b.channels) count (option_map (buffer_of vs) q))))
wrote_at at len inputs first os places vs n count None there stand all = record { buffers = refl; long = refl; others = λ j off. refl }
wrote_at at len inputs first os places vs n count (Some p) there stand all = wrote_one at len inputs first os places vs n p (p.channels == count) there stand (chosen_frames p os (p.channels == count) all)

wrote : (at len : ℕ) (inputs : List (List ℤ)) (first : ℕ) (os : List (Option ℕ)) (places : List (Option BufferPlace)) (vs : List ℕ) (o : Option ℕ) (count : ℕ) → Stand at len (length vs) places o → AreWithin (place_frames (usable (λ (p : BufferPlace). p.channels) count (numbered o places))) os
    → Wrote places vs (onto_buffer inputs first os (usable (λ (p : BufferPlace). p.channels) count (numbered o places)) vs) (replaced_at o (buffers_of vs places) (option_map (written inputs first os) (usable (λ (b : Buffer). b.channels) count (numbered o (buffers_of vs places)))))
wrote at len inputs first os places vs None count stand all = record { buffers = refl; long = refl; others = λ j off. refl }
wrote at len inputs first os places vs (Some n) count stand all =
    let w = wrote_at at len inputs first os places vs n count (get_or places n None) refl stand all in record {
      buffers = w.buffers ∙ ap (λ (b : Option Buffer). replaced_at (Some n) (buffers_of vs places) (option_map (written inputs first os) (usable (λ (b : Buffer). b.channels) count b))) (sym (buffer_there vs places n));
      long = w.long;
      others = w.others;
    }

-- ---- the buffer of a unit, over words

pick_map : (ws : List ℕ) (p : BufferPlace) (t : Bool) → cond t (Some (buffer_of ws p)) None ≡ option_map (buffer_of ws) (cond t (Some p) None)
pick_map ws p true = refl
pick_map ws p false = refl

usable_map : (ws : List ℕ) (count : ℕ) (q : Option BufferPlace) → usable (λ (b : Buffer). b.channels) count (option_map (buffer_of ws) q) ≡ option_map (buffer_of ws) (usable (λ (p : BufferPlace). p.channels) count q)
usable_map ws count None = refl
usable_map ws count (Some p) = pick_map ws p (p.channels == count)

numbered_map : (ws : List ℕ) (places : List (Option BufferPlace)) (o : Option ℕ) → numbered o (buffers_of ws places) ≡ option_map (buffer_of ws) (numbered o places)
numbered_map ws places None = refl
numbered_map ws places (Some n) = buffer_there ws places n

usable_there : (ws : List ℕ) (count : ℕ) (inputs : List (List ℤ)) (places : List (Option BufferPlace)) → usable_buffer count inputs (buffers_of ws places) ≡ option_map (buffer_of ws) (usable_place count inputs places)
usable_there ws count inputs places = ap (usable (λ (b : Buffer). b.channels) count) (numbered_map ws places (buffer_number inputs)) ∙ usable_map ws count (chosen inputs places)

frames_map : (ws : List ℕ) (q : Option BufferPlace) → frames_in (option_map (buffer_of ws) q) ≡ place_frames q
frames_map ws None = refl
frames_map ws (Some p) = refl

frames_there : (ws : List ℕ) (count : ℕ) (inputs : List (List ℤ)) (places : List (Option BufferPlace)) → frames_in (usable_buffer count inputs (buffers_of ws places)) ≡ place_frames (usable_place count inputs places)
frames_there ws count inputs places = ap frames_in (usable_there ws count inputs places) ∙ frames_map ws (usable_place count inputs places)

-- ---- units

-- the words us and the outputs after a unit, whose state is at a place, against its block
pub record BufferMeans (at len : ℕ) (places : List (Option BufferPlace)) (ws us : List ℕ) (outputs : List (List ℤ)) (r : BufferBlock) : Type 0 where
  pub buffers : buffers_of us places ≡ r.buffers
  pub state : window us at len ≡ r.state
  pub gives : outputs ≡ r.outputs
  pub long : length us ≡ length ws
  pub others : (j : ℕ) → (j < at) ⊎ (at + len ≤ j) → IsNoBuffers places j → get_or us j 0 ≡ get_or ws j 0

-- the words after the state was put
record Put (at len : ℕ) (places : List (Option BufferPlace)) (ws xs : List ℕ) : Type 0 where
  pub buffers : buffers_of (put ws at xs) places ≡ buffers_of ws places
  pub state : window (put ws at xs) at len ≡ xs
  pub long : length (put ws at xs) ≡ length ws
  pub others : (j : ℕ) → (j < at) ⊎ (at + len ≤ j) → get_or (put ws at xs) j 0 ≡ get_or ws j 0

state_put : (at len : ℕ) (places : List (Option BufferPlace)) (o : Option ℕ) (ws xs : List ℕ) → length xs ≡ len → Stand at len (length ws) places o → Put at len places ws xs
state_put at len places o ws xs size stand =
    let off : (j : ℕ) → (j < at) ⊎ (at + len ≤ j) → get_or (put ws at xs) j 0 ≡ get_or ws j 0 = λ j a. apart_put ws at j xs (⊎_elim (λ (l : j < at). inl l) (λ (r : at + len ≤ j). inr (omega (arith, size, r))) a) in record {
      buffers = buffers_same (put ws at xs) ws places (λ n p there. buffer_same (put ws at xs) ws p (λ j low high. off j (outside (record { at = at; len = len }) j (λ a b. stand.state n p there j a b low high))));
      state = put_there ws at len xs size stand.inside;
      long = length-put ws at xs;
      others = off;
    }

stand_long : (at len n m : ℕ) (places : List (Option BufferPlace)) (o : Option ℕ) → m ≡ n → Stand at len n places o → Stand at len m places o
stand_long at len n m places o e stand = let P : ℕ → Type 0 = λ n. Stand at len n places o in subst P (sym e) stand

-- the state's words are those of no buffer
state_off : (at len words : ℕ) (places : List (Option BufferPlace)) (o : Option ℕ) → Stand at len words places o → (k : ℕ) → k < len → IsNoBuffers places (at + k)
state_off at len words places o stand k lt n p there low high = stand.state n p there (at + k) (omega arith) (omega (arith, lt)) low high

play_means : (now : Now) (n at len : ℕ) (places : List (Option BufferPlace)) (ws : List ℕ) (inputs : List (List ℤ)) → 4 ≡ len → Stand at len (length ws) places None
    → BufferMeans at len places ws (buffer_unit_over kinds.PlayBuf now n places ws at len inputs).0 (buffer_unit_over kinds.PlayBuf now n places ws at len inputs).1 (buffer_unit kinds.PlayBuf now n (window ws at len) inputs (buffers_of ws places))
unfolding buffer_unit_over buffer_unit
play_means now n at len places ws inputs size stand =
    let st : List ℕ = window ws at len in
    let o : Option ℕ = place_frames (usable_place n inputs places) in
    let o' : Option ℕ = frames_in (usable_buffer n inputs (buffers_of ws places)) in
    let same : o ≡ o' = sym (frames_there ws n inputs places) in
    let xs : List ℕ = (play_frames o st inputs).0 in
    let us : List ℕ = put ws at xs in
    let h = state_put at len places None ws xs size stand in record {
      buffers = h.buffers;
      state = h.state ∙ ap (λ (o : Option ℕ). (play_frames o st inputs).0) same;
      gives = ap (λ (b : Option Buffer). gathered b (play_frames o st inputs).1 n) (sym (usable_there us n inputs places) ∙ ap (usable_buffer n inputs) h.buffers)
          ∙ ap (λ (o : Option ℕ). gathered (usable_buffer n inputs (buffers_of ws places)) (play_frames o st inputs).1 n) same;
      long = h.long;
      others = λ j off no. h.others j off;
    }

placing_means : (now : Now) (n at len : ℕ) (places : List (Option BufferPlace)) (ws : List ℕ) (inputs : List (List ℤ)) → 4 ≡ len → Stand at len (length ws) places None
    → BufferMeans at len places ws (buffer_unit_over kinds.PlayBufL now n places ws at len inputs).0 (buffer_unit_over kinds.PlayBufL now n places ws at len inputs).1 (buffer_unit kinds.PlayBufL now n (window ws at len) inputs (buffers_of ws places))
unfolding buffer_unit_over buffer_unit
placing_means now n at len places ws inputs size stand =
    let st : List ℕ = window ws at len in
    let o : Option ℕ = place_frames (usable_place n inputs places) in
    let o' : Option ℕ = frames_in (usable_buffer n inputs (buffers_of ws places)) in
    let same : o ≡ o' = sym (frames_there ws n inputs places) in
    let xs : List ℕ = (play_points o st inputs).0 in
    let us : List ℕ = put ws at xs in
    let h = state_put at len places None ws xs size stand in record {
      buffers = h.buffers;
      state = h.state ∙ ap (λ (o : Option ℕ). (play_points o st inputs).0) same;
      gives = ap (λ (b : Option Buffer). gathered_between b (play_points o st inputs).1 n) (sym (usable_there us n inputs places) ∙ ap (usable_buffer n inputs) h.buffers)
          ∙ ap (λ (o : Option ℕ). gathered_between (usable_buffer n inputs (buffers_of ws places)) (play_points o st inputs).1 n) same;
      long = h.long;
      others = λ j off no. h.others j off;
    }

record_means : (now : Now) (n at len : ℕ) (places : List (Option BufferPlace)) (ws : List ℕ) (inputs : List (List ℤ)) → 2 ≡ len → Stand at len (length ws) places (buffer_number inputs)
    → BufferMeans at len places ws (buffer_unit_over kinds.RecordBuf now n places ws at len inputs).0 (buffer_unit_over kinds.RecordBuf now n places ws at len inputs).1 (buffer_unit kinds.RecordBuf now n (window ws at len) inputs (buffers_of ws places))
unfolding buffer_unit_over buffer_unit
record_means now n at len places ws inputs size stand =
    let st : List ℕ = window ws at len in
    let count : ℕ = signals_from 4 inputs in
    let o : Option ℕ = place_frames (usable_place count inputs places) in
    let o' : Option ℕ = frames_in (usable_buffer count inputs (buffers_of ws places)) in
    let same : o ≡ o' = sym (frames_there ws count inputs places) in
    let xs : List ℕ = (record_frames o st inputs).0 in
    let os : List (Option ℕ) = (record_frames o st inputs).1 in
    let vs : List ℕ = put ws at xs in
    let us : List ℕ = onto_buffer inputs 4 os (usable_place count inputs places) vs in
    let h = state_put at len places (buffer_number inputs) ws xs size stand in
    let w = wrote at len inputs 4 os places vs (buffer_number inputs) count (stand_long at len (length ws) (length vs) places (buffer_number inputs) h.long stand) (record_within o o st inputs os refl refl) in record {
      buffers = w.buffers ∙ (ap (rewritten inputs 4 os) h.buffers ∙ ap (λ (o : Option ℕ). rewritten inputs 4 (record_frames o st inputs).1 (buffers_of ws places)) same);
      state = window_same us vs at len (λ k lt. w.others (at + k) (state_off at len (length ws) places (buffer_number inputs) stand k lt)) ∙ (h.state ∙ ap (λ (o : Option ℕ). (record_frames o st inputs).0) same);
      gives = refl;
      long = w.long ∙ h.long;
      others = λ j off no. w.others j no ∙ h.others j off;
    }

read_means : (now : Now) (n at len : ℕ) (places : List (Option BufferPlace)) (ws : List ℕ) (inputs : List (List ℤ))
    → BufferMeans at len places ws (buffer_unit_over kinds.BufRd now n places ws at len inputs).0 (buffer_unit_over kinds.BufRd now n places ws at len inputs).1 (buffer_unit kinds.BufRd now n (window ws at len) inputs (buffers_of ws places))
unfolding buffer_unit_over buffer_unit
read_means now n at len places ws inputs = record {
  buffers = refl;
  state = refl;
  gives = ap (λ (b : Option Buffer). gathered b (indexed (place_frames (usable_place n inputs places)) inputs) n) (sym (usable_there ws n inputs places))
      ∙ ap (λ (o : Option ℕ). gathered (usable_buffer n inputs (buffers_of ws places)) (indexed o inputs) n) (sym (frames_there ws n inputs places));
  long = refl;
  others = λ j off no. refl;
}

scaled_means : (now : Now) (n at len : ℕ) (places : List (Option BufferPlace)) (ws : List ℕ) (inputs : List (List ℤ))
    → BufferMeans at len places ws (buffer_unit_over kinds.BufRdL now n places ws at len inputs).0 (buffer_unit_over kinds.BufRdL now n places ws at len inputs).1 (buffer_unit kinds.BufRdL now n (window ws at len) inputs (buffers_of ws places))
unfolding buffer_unit_over buffer_unit
scaled_means now n at len places ws inputs = record {
  buffers = refl;
  state = refl;
  gives = ap (λ (b : Option Buffer). gathered_between b (scaled_points (place_frames (usable_place n inputs places)) inputs) n) (sym (usable_there ws n inputs places))
      ∙ ap (λ (o : Option ℕ). gathered_between (usable_buffer n inputs (buffers_of ws places)) (scaled_points o inputs) n) (sym (frames_there ws n inputs places));
  long = refl;
  others = λ j off no. refl;
}

write_means : (now : Now) (n at len : ℕ) (places : List (Option BufferPlace)) (ws : List ℕ) (inputs : List (List ℤ)) → Stand at len (length ws) places (buffer_number inputs)
    → BufferMeans at len places ws (buffer_unit_over kinds.BufWr now n places ws at len inputs).0 (buffer_unit_over kinds.BufWr now n places ws at len inputs).1 (buffer_unit kinds.BufWr now n (window ws at len) inputs (buffers_of ws places))
unfolding buffer_unit_over buffer_unit
write_means now n at len places ws inputs stand =
    let count : ℕ = signals_from 2 inputs in
    let o : Option ℕ = place_frames (usable_place count inputs places) in
    let os : List (Option ℕ) = indexed o inputs in
    let us : List ℕ = onto_buffer inputs 2 os (usable_place count inputs places) ws in
    let w = wrote at len inputs 2 os places ws (buffer_number inputs) count stand (indexed_within o o inputs os refl refl) in record {
      buffers = w.buffers ∙ ap (λ (o : Option ℕ). rewritten inputs 2 (indexed o inputs) (buffers_of ws places)) (sym (frames_there ws count inputs places));
      state = window_same us ws at len (λ k lt. w.others (at + k) (state_off at len (length ws) places (buffer_number inputs) stand k lt));
      gives = refl;
      long = w.long;
      others = λ j off no. w.others j no;
    }

count_means : (now : Now) (n at len : ℕ) (places : List (Option BufferPlace)) (ws : List ℕ) (inputs : List (List ℤ))
    → BufferMeans at len places ws (buffer_unit_over kinds.BufFrames now n places ws at len inputs).0 (buffer_unit_over kinds.BufFrames now n places ws at len inputs).1 (buffer_unit kinds.BufFrames now n (window ws at len) inputs (buffers_of ws places))
unfolding buffer_unit_over buffer_unit
count_means now n at len places ws inputs = record {
  buffers = refl;
  state = refl;
  gives = ap (λ (o : Option ℕ). replicate 64 (pos (length_in o)) ∷ []) (sym (ap frames_in (numbered_map ws places (buffer_number inputs)) ∙ frames_map ws (chosen inputs places)));
  long = refl;
  others = λ j off no. refl;
}

-- the number of the buffer that a unit writes
abbrev pub written_by : Kind → List (List ℤ) → Option ℕ
written_by k inputs = cond (writes_buffer k) (buffer_number inputs) None

pub buffer_unit_means : (k : Kind) (now : Now) (n at len frames : ℕ) (places : List (Option BufferPlace)) (ws : List ℕ) (inputs : List (List ℤ)) → is_buffer_unit k ≡ true → words_of (row_of k).words frames ≡ len → Stand at len (length ws) places (written_by k inputs)
    → BufferMeans at len places ws (buffer_unit_over k now n places ws at len inputs).0 (buffer_unit_over k now n places ws at len inputs).1 (buffer_unit k now n (window ws at len) inputs (buffers_of ws places))
unfolding row_of
buffer_unit_means kinds.PlayBuf now n at len frames places ws inputs is size stand = play_means now n at len places ws inputs size stand
buffer_unit_means kinds.PlayBufL now n at len frames places ws inputs is size stand = placing_means now n at len places ws inputs size stand
buffer_unit_means kinds.RecordBuf now n at len frames places ws inputs is size stand = record_means now n at len places ws inputs size stand
buffer_unit_means kinds.BufRd now n at len frames places ws inputs is size stand = read_means now n at len places ws inputs
buffer_unit_means kinds.BufRdL now n at len frames places ws inputs is size stand = scaled_means now n at len places ws inputs
buffer_unit_means kinds.BufWr now n at len frames places ws inputs is size stand = write_means now n at len places ws inputs stand
buffer_unit_means kinds.BufFrames now n at len frames places ws inputs is size stand = count_means now n at len places ws inputs
buffer_unit_means _ now n at len frames places ws inputs is size stand = absurd cc
