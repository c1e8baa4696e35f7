-- Parts of a recording.
use Rattle.std.proofs.Common.{◌≡◌, ◌≤◌, ◌<◌, ◌+◌, ◌-◌, ◌*◌, ◌/◌, ◌^◌, ◌⊎◌, ℕ, zero, suc, ℤ, pos, negsuc, List, ◌∷◌, ◌++◌, length, take, drop, append_assoc, append-nil, Option, Some, None, Bool, true, false, inl, inr, refl, sym, ap, ◌∙◌, subst, arith, le_refl}
use Rattle.std.specs.Prelude.{if◌then◌else◌, nat_lt, ◌==◌, ◌||◌, ◌&&◌, is_some, int_lt, unsigned_abs, FitsSigned}
use Rattle.std.proofs.lemmas.Bool.{le-ltb, lt-ltb, ltb-true}
use Rattle.std.proofs.Math.Nat.{add-mul, suc-mul, div-zero, mul-div_cancel, mul-le-mul_right, div-mul-le_self}
use Rattle.std.specs.List.{flat_map}
use Rattle.std.specs.Int.{w32, cast_signed, cast_unsigned}
use Rattle.std.proofs.lemmas.Int.{to_z-of_z, to_z_pos}
use Rattle.std.proofs.lemmas.Nat.{mul-le}
use Rattle.std.proofs.lemmas.List.{drop-drop, length-drop, length-take}
use Rattle.sn_osc.specs.Bytes.{int_bytes}
use Rattle.sn_shelf.specs.declared.waves.Recording.{Recording}
use Rattle.sn_shelf.specs.Waves.{Wave, sample_of, samples_of, wave_in}
use Rattle.sn_shelf.specs.WaveViews.{heard, IsWhole}
use Rattle.sn_shelf.specs.Expanded.{natural, frames_of, frames_taken, is_possible, part_in, part_of, within_room, part_within, ◌>>=◌}

-- ---- samples

pub samples_count : (n width : ℕ) (bytes : List ℕ) → length (samples_of n width bytes) ≡ n
unfolding samples_of
samples_count zero width bytes = refl
samples_count (suc n) width bytes = ap suc (samples_count n width (drop width bytes))

samples_front : (n k width : ℕ) (bytes : List ℕ) → n ≤ k → take n (samples_of k width bytes) ≡ samples_of n width bytes
unfolding samples_of
samples_front zero k width bytes few = refl
samples_front (suc n) zero width bytes few = absurd (omega (arith, few))
samples_front (suc n) (suc k) width bytes few = ap (λ xs. sample_of width bytes ∷ xs) (samples_front n k width (drop width bytes) (omega (arith, few)))

-- so many samples from one on
samples_part : (m n k width : ℕ) (bytes : List ℕ) → m + n ≤ k → take n (drop m (samples_of k width bytes)) ≡ samples_of n width (drop (m * width) bytes)
unfolding samples_of
samples_part zero n k width bytes few =
    let none : 0 ≡ 0 * width = omega arith in
    samples_front n k width bytes (omega (arith, few)) ∙ ap (λ (p : ℕ). samples_of n width (drop p bytes)) none
samples_part (suc m) n zero width bytes few = absurd (omega (arith, few))
samples_part (suc m) n (suc k) width bytes few =
    let place : width + m * width ≡ suc m * width = omega (arith, suc-mul m width) in
    samples_part m n k width (drop width bytes) (omega (arith, few)) ∙ ap (samples_of n width) (drop-drop (m * width) width bytes) ∙ ap (λ (p : ℕ). samples_of n width (drop p bytes)) place

-- ---- samples that are put one after another

pub put_more : (all out new : List ℕ) (rest after : List ℕ) (sample : ℤ) (left width : ℕ) → 0 < left → sample ≡ sample_of width rest → new ≡ out ++ int_bytes sample → after ≡ drop width rest
    → out ++ flat_map int_bytes (samples_of left width rest) ≡ all → new ++ flat_map int_bytes (samples_of (left - 1) width after) ≡ all
unfolding samples_of
put_more all out new rest after sample zero width some is put place so_far = absurd (omega (arith, some))
put_more all out new rest after sample (suc n) width some is put place so_far =
    let less : suc n - 1 ≡ n = omega arith in
    let others = flat_map int_bytes (samples_of n width (drop width rest)) in
    (λ i. put i ++ flat_map int_bytes (samples_of (less i) width (place i))) ∙ append_assoc out (int_bytes sample) others
    ∙ ap (λ (s : ℤ). out ++ (int_bytes s ++ others)) is ∙ so_far

pub rest_there : (rest after : List ℕ) (left width : ℕ) → 0 < left → after ≡ drop width rest → left * width ≤ length rest → (left - 1) * width ≤ length after
rest_there rest after zero width some place there = absurd (omega (arith, some))
rest_there rest after (suc n) width some place there =
    let less : suc n - 1 ≡ n = omega arith in
    subst (λ (k : ℕ). k * width ≤ length after) (sym less) (omega (arith, suc-mul n width, there, ap length place, length-drop width rest))

pub all_put : (all out rest : List ℕ) (left width : ℕ) → left ≡ 0 → out ++ flat_map int_bytes (samples_of left width rest) ≡ all → out ≡ all
unfolding samples_of
all_put all out rest zero width none so_far = sym (append-nil out) ∙ so_far
all_put all out rest (suc n) width none so_far = absurd (omega (arith, none))

-- ---- what is heard

pub heard_count : (r : Recording) → length (heard r).samples ≡ r.frames * r.channels
heard_count r = samples_count (r.frames * r.channels) r.width r.sounding.now

times_over : (n k : ℕ) → 1 ≤ k → n * k / k ≡ n
times_over n k some = mul-div_cancel n (omega (arith, some))

pub heard_frames : (r : Recording) → IsWhole r → frames_of (heard r) ≡ r.frames
heard_frames r whole = ap (λ (n : ℕ). n / r.channels) (heard_count r) ∙ times_over r.frames r.channels whole.some_channels

-- ---- sizes

few_width : (r : Recording) → IsWhole r → r.width ≤ 3
few_width r whole = by whole.width
  where
    by : (r.width ≡ 2) ⊎ (r.width ≡ 3) → r.width ≤ 3
    by (inl is) = omega (arith, is)
    by (inr is) = omega (arith, is)

pub frame_bytes_few : (r : Recording) (frames : ℕ) → IsWhole r → frames < 2 ^ 32 → frames * r.channels < 2 ^ 64
frame_bytes_few r frames whole few = omega (arith, mul-le frames r.channels (2 ^ 32) 8 (omega (arith, few)) whole.few_channels)

pub bytes_few : (r : Recording) (frames : ℕ) → IsWhole r → frames < 2 ^ 32 → frames * r.channels * r.width < 2 ^ 64
bytes_few r frames whole few =
    let some : frames * r.channels ≤ 34359738368 = omega (arith, mul-le frames r.channels (2 ^ 32) 8 (omega (arith, few)) whole.few_channels) in
    omega (arith, mul-le (frames * r.channels) r.width 34359738368 3 some (few_width r whole))

pub bytes_there : (r : Recording) (frames : ℕ) → IsWhole r → frames ≤ r.frames → frames * r.channels * r.width ≤ length r.sounding.now
bytes_there r frames whole few =
    omega (arith, whole.there, mul-le-mul_right r.width (mul-le-mul_right r.channels few))

-- ---- parts

split : (start frames channels width : ℕ) → (start + frames) * channels * width ≡ start * channels * width + frames * channels * width
split start frames channels width = ap (λ (n : ℕ). n * width) (add-mul start frames channels) ∙ add-mul (start * channels) (frames * channels) width

both : (start frames channels : ℕ) → (start + frames) * channels ≡ start * channels + frames * channels
both start frames channels = add-mul start frames channels

pub cut_heard : (r part : Recording) (start : ℕ) → IsWhole r → start + part.frames ≤ r.frames → part.channels ≡ r.channels → part.width ≡ r.width → part.sounding.now ≡ drop (start * r.channels * r.width) r.sounding.now
    → heard part ≡ part_of (heard r) start part.frames
cut_heard r part start whole few channels width rest =
    let fits : start * r.channels + part.frames * r.channels ≤ r.frames * r.channels = omega (arith, both start part.frames r.channels, mul-le-mul_right r.channels few) in
    let one : samples_of (part.frames * part.channels) part.width part.sounding.now ≡ samples_of (part.frames * r.channels) r.width (drop (start * r.channels * r.width) r.sounding.now) =
    λ i. samples_of (part.frames * channels i) (width i) (rest i) in
    λ i. record { channels = channels i; samples = (one ∙ sym (samples_part (start * r.channels) (part.frames * r.channels) (r.frames * r.channels) r.width r.sounding.now fits)) i }

pub cut_whole : (r part : Recording) (start : ℕ) → IsWhole r → 1 ≤ part.frames → start + part.frames ≤ r.frames → part.channels ≡ r.channels → part.width ≡ r.width
    → part.sounding.now ≡ drop (start * r.channels * r.width) r.sounding.now → IsWhole part
cut_whole r part start whole some few channels width rest =
    let all : (start + part.frames) * r.channels * r.width ≤ r.frames * r.channels * r.width = mul-le-mul_right r.width (mul-le-mul_right r.channels few) in
    let there : part.frames * r.channels * r.width ≤ length part.sounding.now =
    omega (arith, all, split start part.frames r.channels r.width, whole.there, ap length rest, length-drop (start * r.channels * r.width) r.sounding.now) in
    record {
      some_channels = subst (λ (n : ℕ). 1 ≤ n) (sym channels) whole.some_channels;
      few_channels = subst (λ (n : ℕ). n ≤ 8) (sym channels) whole.few_channels;
      width = subst (λ (n : ℕ). (n ≡ 2) ⊎ (n ≡ 3)) (sym width) whole.width;
      some_frames = some;
      there = subst (λ (c : ℕ). part.frames * c * part.width ≤ length part.sounding.now) (sym channels) (subst (λ (w : ℕ). part.frames * r.channels * w ≤ length part.sounding.now) (sym width) there);
    }

-- one frame or more is taken
pub some_taken : (left wanted : ℕ) → 0 < left → 1 ≤ frames_taken left wanted
some_taken left wanted some = by ((wanted == 0) || nat_lt left wanted) refl
  where
    by : (b : Bool) → ((wanted == 0) || nat_lt left wanted) ≡ b → 1 ≤ (if b then left else wanted)
    by true is = omega (arith, some)
    by false is = at wanted is
      where
        at : (w : ℕ) → ((w == 0) || nat_lt left w) ≡ false → 1 ≤ w
        at zero e = absurd cc
        at (suc w) e = omega arith

abbrev part_by : ℕ → Wave → ℕ → ℕ → Bool → Option Wave
part_by room w start wanted inside = if inside then within_room room (part_of w start (frames_taken (frames_of w - start) wanted)) else None

pub starts_late : (room : ℕ) (r : Recording) (start wanted : ℕ) → IsWhole r → r.frames ≤ start → part_within room (heard r) start wanted ≡ None
unfolding part_within
starts_late room r start wanted whole late = ap (part_by room (heard r) start wanted) (le-ltb start (frames_of (heard r)) (omega (arith, late, heard_frames r whole)))

starts : (room : ℕ) (r : Recording) (start wanted : ℕ) → IsWhole r → start < r.frames
    → part_within room (heard r) start wanted ≡ within_room room (part_of (heard r) start (frames_taken (r.frames - start) wanted))
unfolding part_within
starts room r start wanted whole early =
    ap (part_by room (heard r) start wanted) (lt-ltb start (frames_of (heard r)) (omega (arith, early, heard_frames r whole)))
    ∙ ap (λ (n : ℕ). within_room room (part_of (heard r) start (frames_taken (n - start) wanted))) (heard_frames r whole)

dropped : (b : Bool) (w : Wave) → b ≡ true → (if b then None else Some w) ≡ None
dropped true w h = refl
dropped false w h = absurd cc

kept : (b : Bool) (w : Wave) → b ≡ false → (if b then None else Some w) ≡ Some w
kept true w h = absurd cc
kept false w h = refl

part_count : (r : Recording) (start frames : ℕ) → start + frames ≤ r.frames → length (part_of (heard r) start frames).samples ≡ frames * r.channels
part_count r start frames few =
    let fits : start * r.channels + frames * r.channels ≤ r.frames * r.channels = omega (arith, both start frames r.channels, mul-le-mul_right r.channels few) in
    ap length (samples_part (start * r.channels) (frames * r.channels) (r.frames * r.channels) r.width r.sounding.now fits)
    ∙ samples_count (frames * r.channels) r.width (drop (start * r.channels * r.width) r.sounding.now)

pub no_space : (room : ℕ) (r : Recording) (start wanted frames : ℕ) → IsWhole r → start < r.frames → frames ≡ frames_taken (r.frames - start) wanted → frames ≤ r.frames - start → room < frames * r.channels
    → part_within room (heard r) start wanted ≡ None
no_space room r start wanted frames whole early is few many =
    let part = part_of (heard r) start frames in
    let count : length part.samples ≡ frames * r.channels = part_count r start frames (omega (arith, few, early)) in
    starts room r start wanted whole early ∙ ap (λ (n : ℕ). within_room room (part_of (heard r) start n)) (sym is)
    ∙ dropped (nat_lt room (length part.samples)) part (lt-ltb room (length part.samples) (omega (arith, count, many)))

pub has_space : (room : ℕ) (r part : Recording) (start wanted frames : ℕ) → IsWhole r → start < r.frames → frames ≡ frames_taken (r.frames - start) wanted → frames ≤ r.frames - start → frames * r.channels ≤ room
    → heard part ≡ part_of (heard r) start frames → part_within room (heard r) start wanted ≡ Some (heard part)
has_space room r part start wanted frames whole early is few fits cut =
    let p = part_of (heard r) start frames in
    let count : length p.samples ≡ frames * r.channels = part_count r start frames (omega (arith, few, early)) in
    starts room r start wanted whole early ∙ ap (λ (n : ℕ). within_room room (part_of (heard r) start n)) (sym is)
    ∙ kept (nat_lt room (length p.samples)) p (le-ltb room (length p.samples) (omega (arith, count, fits))) ∙ ap (λ (w : Wave). Some w) (sym cut)

-- ---- requests that no file can meet

some_channel : (channels count start : ℕ) → start < count / channels → 0 < channels
some_channel zero count start early = absurd (omega (arith, early, div-zero count))
some_channel (suc n) count start early = omega arith

some_samples : (w : Wave) (start wanted : ℕ) → start < frames_of w → 0 < length (part_of w start (frames_taken (frames_of w - start) wanted)).samples
some_samples w start wanted early =
    let n = length w.samples in
    let c = w.channels in
    let frames = frames_taken (n / c - start) wanted in
    let some : 1 ≤ frames = some_taken (n / c - start) wanted (omega (arith, early)) in
    let channels : 0 < c = some_channel c n start early in
    let asked : 0 < frames * c = omega (arith, mul-le 1 1 frames c some channels) in
    let before : start * c < n = omega (arith, mul-le-mul_right c early, suc-mul start c, div-mul-le_self n c, channels) in
    let left : 0 < length (drop (start * c) w.samples) = omega (arith, length-drop (start * c) w.samples, before) in
    omega (arith, length-take (frames * c) (drop (start * c) w.samples), asked, left)

no_part_fits : (w : Wave) (start wanted : ℕ) → part_within 0 w start wanted ≡ None
unfolding part_within
no_part_fits w start wanted = by (nat_lt start (frames_of w)) refl
  where
    by : (b : Bool) → nat_lt start (frames_of w) ≡ b → part_by 0 w start wanted b ≡ None
    by false is = refl
    by true is =
        let part = part_of w start (frames_taken (frames_of w - start) wanted) in
        dropped (nat_lt 0 (length part.samples)) part (lt-ltb 0 (length part.samples) (some_samples w start wanted (ltb-true start (frames_of w) is)))

none_fits : (first count : Option ℕ) (room : ℕ) (wave : Option Wave) → (is_some first && is_some count && nat_lt 0 room) ≡ false → (first >>= λ start. count >>= λ wanted. wave >>= λ w. part_within room w start wanted) ≡ None
none_fits None count room wave h = refl
none_fits (Some start) None room wave h = refl
none_fits (Some start) (Some wanted) room None h = refl
none_fits (Some start) (Some wanted) zero (Some w) h = no_part_fits w start wanted
none_fits (Some start) (Some wanted) (suc room) (Some w) h =
    let on : nat_lt 0 (suc room) ≡ true = lt-ltb 0 (suc room) (omega arith) in
    let not_so : true ≡ false = sym on ∙ h in
    absurd cc

pub impossible : (room : ℕ) (bytes : List ℕ) (first count : ℤ) → is_possible room first count ≡ false → part_in room bytes first count ≡ None
unfolding part_in
impossible room bytes first count h = none_fits (natural first) (natural count) room (wave_in bytes) h

-- ---- numbers that are at least 0

pub natural_some : (n : ℤ) → int_lt n (pos 0) ≡ false → natural n ≡ Some (unsigned_abs n)
natural_some (pos n) h = refl
natural_some (negsuc n) h = absurd cc

pub natural_none : (n : ℤ) → int_lt n (pos 0) ≡ true → natural n ≡ None
natural_none (pos n) h = absurd (omega (arith, ltb-true n 0 h))
natural_none (negsuc n) h = refl

-- ---- numbers as arguments

pub number_again : (n : ℤ) → FitsSigned w32 n → cast_signed w32 (cast_unsigned w32 n) ≡ n
number_again n fits = to_z-of_z w32 n fits

pub count_pos : (n : ℕ) → n < 2 ^ 31 → cast_signed w32 n ≡ pos n
count_pos n few = to_z_pos w32 n few

pub frames_short : (r : Recording) → IsWhole r → r.frames * r.channels ≤ 16777216 → r.frames < 2 ^ 31
frames_short r whole fits = omega (arith, fits, mul-le r.frames 1 r.frames r.channels (le_refl r.frames) whole.some_channels)
