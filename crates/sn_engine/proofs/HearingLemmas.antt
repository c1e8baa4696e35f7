-- The samples that are heard of audio buses.
use Rattle.std.proofs.Common.{◌≡◌, ◌≢◌, ◌<◌, ◌≤◌, ◌+◌, ◌*◌, ℕ, zero, suc, ℤ, pos, Bool, true, false, cond, List, [], ◌∷◌, ◌++◌, set, ap, sym, ◌∙◌, ⊎_elim, arith, get_or-set_other, append_assoc, append-nil, add-one, length, length-append, mul-suc}
use Rattle.std.specs.Prelude.{◌==◌, slice_index, slice_index_or}
use Rattle.std.proofs.lemmas.Bool.{cases_eq}
use Rattle.std.proofs.lemmas.Grind.{get_or-set_at}
use Rattle.std.proofs.Math.Nat.{mul-le-mul_left, mul_comm}
use Rattle.sn_mem.specs.Blocks.{table, sample_in}
use Rattle.sn_mem.specs.Buses.{AudioBus, audio_bus, audio_buses, heard, silent}
use Rattle.sn_mem.proofs.Windows.{table_at}
use Rattle.sn_mem.proofs.Tables.{length-table}
use Rattle.sn_mem.proofs.BusLaws.{audio_at}
use Rattle.sn_world.specs.World.{World}
use Rattle.sn_engine.specs.Hearing.{AreWritten}
use Rattle.sn_engine.specs.Outputs.{frame_of, frames_of}
use Rattle.sn_engine.specs.Remembered.{Remembered}

-- nothing of the memory changed
pub words_same : {u v : Remembered} → u ≡ v → u.words ≡ v.words
words_same e = ap (λ (m : Remembered). m.words) e

pub still_wide : {u v : Remembered} → u ≡ v → 10368 ≤ length v.words → 10368 ≤ length u.words
still_wide e wide = omega (arith, ap length (words_same e), wide)

chosen : (b : Bool) (x y : ℤ) → b ≡ true → cond b x y ≡ x
chosen b x y e = ap (λ c. cond c x y) e

pub heard_written : (ws : List ℕ) (bus b frame : ℕ) (written : Bool) → frame < 64 → written ≡ true → written ≡ ((audio_bus ws bus).written == b + 1) → heard b (audio_bus ws bus) frame ≡ sample_in (slice_index ws (65 * bus + 1 + frame))
heard_written ws bus b frame written low on is =
    chosen (slice_index ws (65 * bus) == b + 1) _ _ (sym is ∙ on)
    ∙ table_at (λ k. sample_in (slice_index ws (65 * bus + 1 + k))) 64 frame (pos 0) low

pub heard_unwritten : (ws : List ℕ) (bus b frame : ℕ) (written : Bool) → written ≡ false → written ≡ ((audio_bus ws bus).written == b + 1) → heard b (audio_bus ws bus) frame ≡ pos 0
heard_unwritten ws bus b frame written off is = ap (λ c. cond c (slice_index_or (audio_bus ws bus).samples frame (pos 0)) (pos 0)) (sym is ∙ off)

-- one more bus of which it is known
pub one_more : (b : ℕ) (ws : List ℕ) (written : List Bool) (n : ℕ) (x : Bool) → n < length written → AreWritten b ws n written → x ≡ ((audio_bus ws n).written == b + 1) → AreWritten b ws (n + 1) (set written n x)
one_more b ws written n x low so_far is c less =
    ⊎_elim
    (λ (e : c ≡ n). get_or-set_at written n c x false e low ∙ (is ∙ ap (λ k. (audio_bus ws k).written == b + 1) (sym e)))
    (λ (d : c ≢ n). get_or-set_other written n c x false d ∙ so_far c (omega (arith, less, d)))
    (cases_eq c n)

-- the bus of a number
pub of_bus : (b frame : ℕ) (ws : List ℕ) (c : ℕ) → c < 128 → heard b (slice_index_or (audio_buses ws) c silent) frame ≡ heard b (audio_bus ws c) frame
of_bus b frame ws c low = ap (λ (bus : AudioBus). heard b bus frame) (audio_at ws c silent low)

pub none_put : (f : ℕ → ℤ) (items : List ℤ) → items ≡ items ++ table f 0
unfolding table
none_put f items = sym (append-nil items)

pub put_more : (f : ℕ → ℤ) (old items new : List ℤ) (n : ℕ) (x : ℤ) → items ≡ old ++ table f n → x ≡ f n → new ≡ items ++ x ∷ [] → new ≡ old ++ table f (n + 1)
unfolding table
put_more f old items new n x so_far is put =
    put
    ∙ ap (λ (xs : List ℤ). xs ++ x ∷ []) so_far
    ∙ append_assoc old (table f n) (x ∷ [])
    ∙ ap (λ (y : ℤ). old ++ (table f n ++ y ∷ [])) is
    ∙ ap (λ (m : ℕ). old ++ table f m) (sym (add-one n))

-- so many samples
pub frames_made : (channels b : ℕ) (w : World) (n : ℕ) → length (frames_of channels b w n) ≡ n * channels
unfolding frames_of
frames_made channels b w zero = omega arith
frames_made channels b w (suc n) = omega (arith, length-append (frames_of channels b w n) (frame_of channels b w n), frames_made channels b w n, length-table (λ c. heard b (slice_index_or w.audio_buses c silent) n) channels)

pub few_frames : (channels b : ℕ) (w : World) (k : ℕ) (items : List ℤ) → channels ≤ 8 → k ≡ 64 → items ≡ frames_of channels b w k → length items ≤ 512
few_frames channels b w k items few last are = let size : length items ≡ 64 * channels = ap length are ∙ ap (λ n. length (frames_of channels b w n)) last ∙ frames_made channels b w 64 in omega (arith, size, few)

pub no_frames : (channels b : ℕ) (w : World) (items : List ℤ) → items ≡ [] → items ≡ frames_of channels b w 0
unfolding frames_of
no_frames channels b w items none = none

pub next_frame : (channels b : ℕ) (w w' : World) (k : ℕ) (items new : List ℤ) → items ≡ frames_of channels b w k → w' ≡ w → new ≡ items ++ frame_of channels b w' k → new ≡ frames_of channels b w (k + 1)
unfolding frames_of
next_frame channels b w w' k items new so_far same put =
    put
    ∙ ap (λ (xs : List ℤ). xs ++ frame_of channels b w' k) so_far
    ∙ ap (λ (v : World). frames_of channels b w k ++ frame_of channels b v k) same
    ∙ ap (λ (m : ℕ). frames_of channels b w m) (sym (add-one k))

-- a frame has room after those before it
pub room_for_one : (k channels len room : ℕ) → channels ≤ 8 → k < 64 → len ≡ k * channels → 512 ≤ room → len + channels ≤ room
room_for_one k channels len room few before is some =
    let whole : channels * suc k ≤ channels * 64 = mul-le-mul_left channels (omega (arith, before)) in
    omega (arith, is, some, few, whole, mul-suc channels k, mul_comm k channels)
