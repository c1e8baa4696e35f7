-- A unit on a buffer keeps the number of the words, and changes none but those that may be written.
use Rattle.std.proofs.Common.{◌≡◌, ◌≤◌, ◌<◌, ℕ, zero, suc, ◌+◌, ◌*◌, ◌==◌, Bool, true, false, cond, List, ℤ, Option, Some, None, length, get_or, refl, ◌∙◌, ⊎_elim, inl, inr, arith, length-set, get_or-set_other}
use Rattle.sn_fixed.specs.Fixed.{sat}
use Rattle.sn_def.specs.declared.kind.Kind.{Kind}
use Rattle.sn_def.specs.declared.kind.Kind.TheVariants as kinds
use Rattle.sn_def.specs.declared.control.Now.{Now}
use Rattle.sn_def.specs.Units.{row_of}
use Rattle.sn_def.specs.StateWords.{words_of}
use Rattle.sn_mem.specs.declared.extents.Foot.{Foot}
use Rattle.sn_mem.specs.declared.buffers.BufferPlace.{BufferPlace}
use Rattle.sn_mem.specs.Words.{MayWrite, writes}
use Rattle.sn_mem.specs.Blocks.{window, put, sample, word_for}
use Rattle.sn_mem.proofs.Steps.{length-put}
use Rattle.sn_mem.proofs.Windows.{apart_put}
use Rattle.sn_io.specs.Positions.{indexed}
use Rattle.sn_io.specs.Between.{play_points}
use Rattle.sn_io.specs.BufferUnits.{chosen, usable, set_frame, set_at, scattered, signals_from, play_frames, record_frames}
use Rattle.sn_io.specs.BuffersOverWords.{usable_place, place_frames, set_word, onto_buffer, buffer_unit_over}
use Rattle.sn_io.specs.Conditions.{IsWholeIfSome, MayWriteBuffer, MayReachBuffer, AreWithin}
use Rattle.sn_io.proofs.Bounds.{indexed_within, record_within}
use Rattle.sn_io.proofs.Keeping.{off_run}
use Rattle.sn_io.proofs.BufferMeaning.{scattered_meets}

-- ---- lengths

frame_long : (at : ℕ) (inputs : List (List ℤ)) (first k place c : ℕ) (ws : List ℕ) → length (set_frame (set_word at) inputs first k place c ws) ≡ length ws
unfolding set_frame
frame_long at inputs first k place zero ws = refl
frame_long at inputs first k place (suc c) ws = length-set (set_frame (set_word at) inputs first k place c ws) (at + (place + c)) (word_for (sat (sample inputs (first + c) k))) ∙ frame_long at inputs first k place c ws

at_long : (at : ℕ) (inputs : List (List ℤ)) (first channels k : ℕ) (o : Option ℕ) (ws : List ℕ) → length (set_at (set_word at) inputs first channels k o ws) ≡ length ws
at_long at inputs first channels k None ws = refl
at_long at inputs first channels k (Some i) ws = frame_long at inputs first k (i * channels) channels ws

scattered_long : (at : ℕ) (inputs : List (List ℤ)) (first channels : ℕ) (os : List (Option ℕ)) (m : ℕ) (ws : List ℕ) → length (scattered (set_word at) inputs first channels os m ws) ≡ length ws
unfolding scattered
scattered_long at inputs first channels os zero ws = refl
scattered_long at inputs first channels os (suc k) ws = at_long at inputs first channels k (get_or os k None) (scattered (set_word at) inputs first channels os k ws) ∙ scattered_long at inputs first channels os k ws

onto_long : (inputs : List (List ℤ)) (first : ℕ) (os : List (Option ℕ)) (q : Option BufferPlace) (ws : List ℕ) → length (onto_buffer inputs first os q ws) ≡ length ws
onto_long inputs first os None ws = refl
onto_long inputs first os (Some p) ws = scattered_long p.extent.at inputs first p.channels os 64 ws

pub buffer_unit_long : (k : Kind) (now : Now) (n : ℕ) (places : List (Option BufferPlace)) (ws : List ℕ) (at len : ℕ) (inputs : List (List ℤ)) → length (buffer_unit_over k now n places ws at len inputs).0 ≡ length ws
unfolding buffer_unit_over
buffer_unit_long kinds.PlayBuf now n places ws at len inputs = length-put ws at (play_frames (place_frames (usable_place n inputs places)) (window ws at len) inputs).0
buffer_unit_long kinds.PlayBufL now n places ws at len inputs = length-put ws at (play_points (place_frames (usable_place n inputs places)) (window ws at len) inputs).0
buffer_unit_long kinds.RecordBuf now n places ws at len inputs =
    let r = record_frames (place_frames (usable_place (signals_from 4 inputs) inputs places)) (window ws at len) inputs in
    onto_long inputs 4 r.1 (usable_place (signals_from 4 inputs) inputs places) (put ws at r.0) ∙ length-put ws at r.0
buffer_unit_long kinds.BufRd now n places ws at len inputs = refl
buffer_unit_long kinds.BufRdL now n places ws at len inputs = refl
buffer_unit_long kinds.BufWr now n places ws at len inputs = onto_long inputs 2 (indexed (place_frames (usable_place (signals_from 2 inputs) inputs places)) inputs) (usable_place (signals_from 2 inputs) inputs places) ws
buffer_unit_long kinds.BufFrames now n places ws at len inputs = refl
buffer_unit_long _ now n places ws at len inputs = refl

-- ---- words that may not be written

place_keeps : (f : Foot) (inputs : List (List ℤ)) (first : ℕ) (os : List (Option ℕ)) (p : BufferPlace) (ws : List ℕ) (j : ℕ) → MayWrite f p.extent.at p.extent.len → p.extent.len ≡ p.frames * p.channels → AreWithin (Some p.frames) os → writes f j ≡ false → get_or (onto_buffer inputs first os (Some p) ws) j 0 ≡ get_or ws j 0
place_keeps f inputs first os p ws j may size all off =
    let apart = off_run f p.extent.at p.extent.len j may off in
    scattered_meets (λ (us : List ℕ) (vs : List ℕ). get_or us j 0 ≡ get_or ws j 0) (set_word p.extent.at) (set_word p.extent.at) inputs first p.frames p.channels os 64 ws ws all
    (λ us vs i x lt e. get_or-set_other us (p.extent.at + i) j (word_for (sat x)) 0 (⊎_elim (λ (l : j < p.extent.at). omega (arith, l)) (λ (h : p.extent.at + p.extent.len ≤ j). omega (arith, h, size, lt)) apart) ∙ e)
    refl

pick_keeps : (f : Foot) (inputs : List (List ℤ)) (first : ℕ) (os : List (Option ℕ)) (p : BufferPlace) (t : Bool) (ws : List ℕ) (j : ℕ) → MayWrite f p.extent.at p.extent.len → p.extent.len ≡ p.frames * p.channels → AreWithin (place_frames (cond t (Some p) None)) os → writes f j ≡ false → get_or (onto_buffer inputs first os (cond t (Some p) None) ws) j 0 ≡ get_or ws j 0
pick_keeps f inputs first os p true ws j may size all off = place_keeps f inputs first os p ws j may size all off
pick_keeps f inputs first os p false ws j may size all off = refl

onto_keeps : (f : Foot) (inputs : List (List ℤ)) (first count : ℕ) (os : List (Option ℕ)) (q : Option BufferPlace) (ws : List ℕ) (j : ℕ) → IsWholeIfSome q → MayWriteBuffer f q → AreWithin (place_frames (usable (λ (p : BufferPlace). p.channels) count q)) os → writes f j ≡ false → get_or (onto_buffer inputs first os (usable (λ (p : BufferPlace). p.channels) count q) ws) j 0 ≡ get_or ws j 0
onto_keeps f inputs first count os None ws j whole may all off = refl
onto_keeps f inputs first count os (Some p) ws j whole may all off = pick_keeps f inputs first os p (p.channels == count) ws j may whole.size all off

state_keeps : (f : Foot) (ws : List ℕ) (at len : ℕ) (xs : List ℕ) (j : ℕ) → length xs ≡ len → MayWrite f at len → writes f j ≡ false → get_or (put ws at xs) j 0 ≡ get_or ws j 0
state_keeps f ws at len xs j long may off = apart_put ws at j xs (⊎_elim (λ (l : j < at). inl l) (λ (h : at + len ≤ j). inr (omega (arith, long, h))) (off_run f at len j may off))

pub buffer_unit_keeps : (k : Kind) (now : Now) (f : Foot) (n : ℕ) (places : List (Option BufferPlace)) (ws : List ℕ) (at len frames : ℕ) (inputs : List (List ℤ)) (j : ℕ) → MayWrite f at len → words_of (row_of k).words frames ≡ len → MayReachBuffer k f inputs places → writes f j ≡ false
    → get_or (buffer_unit_over k now n places ws at len inputs).0 j 0 ≡ get_or ws j 0
unfolding row_of buffer_unit_over
buffer_unit_keeps kinds.PlayBuf now f n places ws at len frames inputs j state size may off = state_keeps f ws at len (play_frames (place_frames (usable_place n inputs places)) (window ws at len) inputs).0 j size state off
buffer_unit_keeps kinds.PlayBufL now f n places ws at len frames inputs j state size may off = state_keeps f ws at len (play_points (place_frames (usable_place n inputs places)) (window ws at len) inputs).0 j size state off
buffer_unit_keeps kinds.RecordBuf now f n places ws at len frames inputs j state size may off =
    let count : ℕ = signals_from 4 inputs in
    let o : Option ℕ = place_frames (usable_place count inputs places) in
    let st : List ℕ = window ws at len in
    let os : List (Option ℕ) = (record_frames o st inputs).1 in
    onto_keeps f inputs 4 count os (chosen inputs places) (put ws at (record_frames o st inputs).0) j may.whole (may.writes refl) (record_within o o st inputs os refl refl) off
    ∙ state_keeps f ws at len (record_frames o st inputs).0 j size state off
buffer_unit_keeps kinds.BufRd now f n places ws at len frames inputs j state size may off = refl
buffer_unit_keeps kinds.BufRdL now f n places ws at len frames inputs j state size may off = refl
buffer_unit_keeps kinds.BufWr now f n places ws at len frames inputs j state size may off =
    let count : ℕ = signals_from 2 inputs in
    let o : Option ℕ = place_frames (usable_place count inputs places) in
    onto_keeps f inputs 2 count (indexed o inputs) (chosen inputs places) ws j may.whole (may.writes refl) (indexed_within o o inputs (indexed o inputs) refl refl) off
buffer_unit_keeps kinds.BufFrames now f n places ws at len frames inputs j state size may off = refl
buffer_unit_keeps _ now f n places ws at len frames inputs j state size may off = refl
