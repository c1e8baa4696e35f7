-- A signal put onto a bus in the words is the signal put onto the bus.
use Rattle.std.proofs.Common.{◌≡◌, ◌≤◌, ◌<◌, ◌⊎◌, ℕ, zero, suc, ◌+◌, ◌*◌, ◌==◌, nat_lt, Bool, true, false, ◌&&◌, cond, List, [], ℤ, pos, negsuc, ◌+ℤ◌, Option, Some, None, length, get_or, set, refl, ap, sym, subst, ◌∙◌, ⊎_elim, inl, inr, arith, length-set, get_or-set_same, get_or-set_other}
use Rattle.std.proofs.lemmas.Bool.{eqb-true, ltb-true, cases_lt}
use Rattle.std.proofs.lemmas.Int.{ints}
use Rattle.sn_fixed.specs.Fixed.{sat}
use Rattle.sn_mem.specs.Blocks.{block, put, sample_in, samples_at, table, changed, word_for}
use Rattle.sn_mem.specs.Buses.{AudioBus, audio_bus, audio_buses, audio_number, silent}
use Rattle.sn_mem.proofs.Steps.{length-put}
use Rattle.sn_mem.proofs.Tables.{length-table}
use Rattle.sn_mem.proofs.Puts.{in_put}
use Rattle.sn_mem.proofs.Windows.{table_at, table_same, apart_put}
use Rattle.sn_mem.proofs.BusLaws.{sample_in-word_for, audio_at, audio_set}
use Rattle.sn_io.specs.Channels.{audio_channel, channels}
use Rattle.sn_io.specs.BusOutputs.{mixed, replaced, change_audio}
use Rattle.sn_io.specs.OverWords.{summed, overwritten, onto_block, onto_audio, onto_audio_channel}
use Rattle.sn_io.proofs.Samples.{alone, once_more, sat_fits, sat_same}

-- ---- the samples of a block after a change

changed_at : (f : ℕ → ℤ → ℕ) (ws : List ℕ) (at : ℕ) (xs : List ℤ) (k : ℕ) → k < 64 → at + 64 ≤ length ws → get_or (changed f ws at xs) (at + k) 0 ≡ f (get_or ws (at + k) 0) (get_or xs k (pos 0))
changed_at f ws at xs k lt inside =
    let F : ℕ → ℕ = λ k. f (get_or ws (at + k) 0) (get_or xs k (pos 0)) in
    let long : length (table F 64) ≡ 64 = length-table F 64 in
    in_put ws at k (table F 64) (omega (arith, long, lt)) (omega (arith, long, inside)) ∙ table_at F 64 k 0 lt

changed_apart : (f : ℕ → ℤ → ℕ) (ws : List ℕ) (at : ℕ) (xs : List ℤ) (j : ℕ) → (j < at) ⊎ (at + 64 ≤ j) → get_or (changed f ws at xs) j 0 ≡ get_or ws j 0
changed_apart f ws at xs j apart =
    let F : ℕ → ℕ = λ k. f (get_or ws (at + k) 0) (get_or xs k (pos 0)) in
    let long : length (table F 64) ≡ 64 = length-table F 64 in
    apart_put ws at j (table F 64) (⊎_elim (λ (l : j < at). inl l) (λ (r : at + 64 ≤ j). inr (omega (arith, long, r))) apart)

changed_long : (f : ℕ → ℤ → ℕ) (ws : List ℕ) (at : ℕ) (xs : List ℤ) → length (changed f ws at xs) ≡ length ws
changed_long f ws at xs = length-put ws at (table (λ k. f (get_or ws (at + k) 0) (get_or xs k (pos 0))) 64)

same_bus : (w w' : ℕ) (xs xs' : List ℤ) → w ≡ w' → xs ≡ xs' → ◌≡◌ {A = AudioBus} (record { written = w; samples = xs }) (record { written = w'; samples = xs' })
same_bus w w' xs xs' p q = cc

-- ---- one signal, if it is added to the bus and if it isn't

mixed_by : Bool → ℕ → List ℕ → ℕ → List ℤ → ℕ → ℤ
mixed_by t b ws at xs k = sat (cond t (get_or (samples_at ws (at + 1)) k (pos 0)) (pos 0) +ℤ sat (get_or xs k (pos 0)))

unfoldable pub onto_by : Bool → ℕ → List ℕ → ℕ → List ℤ → List ℕ
onto_by t b ws at xs = cond t (changed summed ws (at + 1) xs) (set (changed (λ w. overwritten) ws (at + 1) xs) at (b + 1))

onto_by_is : (t : Bool) (b : ℕ) (ws : List ℕ) (at : ℕ) (xs : List ℤ) → (t ≡ true → get_or ws at 0 ≡ b + 1) → at + 65 ≤ length ws
    → ◌≡◌ {A = AudioBus} (record { written = get_or (onto_by t b ws at xs) at 0; samples = samples_at (onto_by t b ws at xs) (at + 1) }) (record { written = b + 1; samples = table (mixed_by t b ws at xs) 64 })
unfolding onto_by mixed_by
onto_by_is true b ws at xs mark inside =
    let us : List ℕ = changed summed ws (at + 1) xs in
    same_bus (get_or us at 0) (b + 1) (samples_at us (at + 1)) (table (λ k. sat (get_or (samples_at ws (at + 1)) k (pos 0) +ℤ sat (get_or xs k (pos 0)))) 64)
    (changed_apart summed ws (at + 1) xs at (inl (omega arith)) ∙ mark refl)
    (table_same (λ k. sample_in (get_or us (at + 1 + k) 0)) (λ k. sat (get_or (samples_at ws (at + 1)) k (pos 0) +ℤ sat (get_or xs k (pos 0)))) 64
    (λ k lt.
    let z : ℤ = sample_in (get_or ws (at + 1 + k) 0) +ℤ sat (get_or xs k (pos 0)) in
    ap sample_in (changed_at summed ws (at + 1) xs k lt (omega arith))
    ∙ (sample_in-word_for (sat z) (sat_fits z)
    ∙ ap (λ y. sat (y +ℤ sat (get_or xs k (pos 0)))) (sym (table_at (λ k. sample_in (get_or ws (at + 1 + k) 0)) 64 k (pos 0) lt)))))
onto_by_is false b ws at xs mark inside =
    let vs : List ℕ = changed (λ w. overwritten) ws (at + 1) xs in
    let us : List ℕ = set vs at (b + 1) in
    let long : length vs ≡ length ws = changed_long (λ w. overwritten) ws (at + 1) xs in
    same_bus (get_or us at 0) (b + 1) (samples_at us (at + 1)) (table (λ k. sat (pos 0 +ℤ sat (get_or xs k (pos 0)))) 64)
    (get_or-set_same vs at (b + 1) 0 (omega (arith, long, inside)))
    (table_same (λ k. sample_in (get_or us (at + 1 + k) 0)) (λ k. sat (pos 0 +ℤ sat (get_or xs k (pos 0)))) 64
    (λ k lt.
    let z : ℤ = pos 0 +ℤ get_or xs k (pos 0) in
    ap sample_in (get_or-set_other vs at (at + 1 + k) (b + 1) 0 (omega arith) ∙ changed_at (λ w. overwritten) ws (at + 1) xs k lt (omega arith))
    ∙ sample_in-word_for (sat z) (sat_fits z)
    ∙ once_more (get_or xs k (pos 0))))

apart_by : (t : Bool) (b : ℕ) (ws : List ℕ) (at : ℕ) (xs : List ℤ) (j : ℕ) → (j < at) ⊎ (at + 65 ≤ j) → get_or (onto_by t b ws at xs) j 0 ≡ get_or ws j 0
unfolding onto_by
apart_by true b ws at xs j apart = changed_apart summed ws (at + 1) xs j (⊎_elim (λ (l : j < at). inl (omega (arith, l))) (λ (r : at + 65 ≤ j). inr (omega (arith, r))) apart)
apart_by false b ws at xs j apart =
    get_or-set_other (changed (λ w. overwritten) ws (at + 1) xs) at j (b + 1) 0 (⊎_elim (λ (l : j < at). omega (arith, l)) (λ (r : at + 65 ≤ j). omega (arith, r)) apart)
    ∙ changed_apart (λ w. overwritten) ws (at + 1) xs j (⊎_elim (λ (l : j < at). inl (omega (arith, l))) (λ (r : at + 65 ≤ j). inr (omega (arith, r))) apart)

pub onto_apart : (adds : Bool) (b : ℕ) (ws : List ℕ) (at : ℕ) (xs : List ℤ) (j : ℕ) → (j < at) ⊎ (at + 65 ≤ j) → get_or (onto_block adds b ws at xs) j 0 ≡ get_or ws j 0
unfolding onto_by
onto_apart adds b ws at xs j apart = apart_by (adds && get_or ws at 0 == b + 1) b ws at xs j apart

long_by : (t : Bool) (b : ℕ) (ws : List ℕ) (at : ℕ) (xs : List ℤ) → length (onto_by t b ws at xs) ≡ length ws
unfolding onto_by
long_by true b ws at xs = changed_long summed ws (at + 1) xs
long_by false b ws at xs = length-set (changed (λ w. overwritten) ws (at + 1) xs) at (b + 1) ∙ changed_long (λ w. overwritten) ws (at + 1) xs

pub onto_long : (adds : Bool) (b : ℕ) (ws : List ℕ) (at : ℕ) (xs : List ℤ) → length (onto_block adds b ws at xs) ≡ length ws
unfolding onto_by
onto_long adds b ws at xs = long_by (adds && get_or ws at 0 == b + 1) b ws at xs

mark_by : (t : Bool) (b : ℕ) (ws : List ℕ) (at : ℕ) (xs : List ℤ) → (t ≡ true → get_or ws at 0 ≡ b + 1) → at < length ws → get_or (onto_by t b ws at xs) at 0 ≡ b + 1
unfolding onto_by
mark_by true b ws at xs mark lt = changed_apart summed ws (at + 1) xs at (inl (omega arith)) ∙ mark refl
mark_by false b ws at xs mark lt = get_or-set_same (changed (λ w. overwritten) ws (at + 1) xs) at (b + 1) 0 (omega (arith, lt, changed_long (λ w. overwritten) ws (at + 1) xs))

-- the bus is marked written
pub onto_mark : (b : ℕ) (ws : List ℕ) (at : ℕ) (xs : List ℤ) → at < length ws → get_or (onto_block true b ws at xs) at 0 ≡ b + 1
unfolding onto_by
onto_mark b ws at xs lt = mark_by (get_or ws at 0 == b + 1) b ws at xs (λ h. eqb-true (get_or ws at 0) (b + 1) h) lt

pub apart_from : (j at n : ℕ) → (at ≤ j → j < at + n → ⊥) → (j < at) ⊎ (at + n ≤ j)
apart_from j at n off = ⊎_elim (λ (l : j < at). inl l) (λ (r : at ≤ j). ⊎_elim (λ (k : j < at + n). absurd (off r k)) (λ (k : at + n ≤ j). inr k) (cases_lt j (at + n))) (cases_lt j at)

-- how a unit changes a bus, in the words and as a value
pub Mixes : Bool → ℕ → (AudioBus → List ℤ → AudioBus) → Type 0
Mixes adds b change = (ws : List ℕ) (n : ℕ) (xs : List ℤ) → 65 * n + 65 ≤ length ws → audio_bus (onto_block adds b ws (65 * n) xs) n ≡ change (audio_bus ws n) xs

pub out_mixes : (b : ℕ) → Mixes true b (mixed b)
unfolding Mixes onto_by mixed_by
out_mixes b ws n xs inside = onto_by_is (get_or ws (65 * n) 0 == b + 1) b ws (65 * n) xs (eqb-true (get_or ws (65 * n) 0) (b + 1)) inside

pub replace_mixes : (b : ℕ) → Mixes false b (replaced b)
unfolding Mixes onto_by mixed_by
replace_mixes b ws n xs inside =
    onto_by_is false b ws (65 * n) xs (λ e. absurd cc) inside
    ∙ same_bus (b + 1) (b + 1) (table (λ k. sat (pos 0 +ℤ sat (get_or xs k (pos 0)))) 64) (table (λ k. sat (get_or xs k (pos 0))) 64) refl
    (table_same (λ k. sat (pos 0 +ℤ sat (get_or xs k (pos 0)))) (λ k. sat (get_or xs k (pos 0))) 64 (λ k lt. sym (once_more (get_or xs k (pos 0))) ∙ alone (get_or xs k (pos 0))))

-- ---- by way of a lane

-- a sample that is saturated adds as much as before
summed_same : (w : ℕ) (x y : ℤ) → y ≡ sat x → summed w y ≡ summed w x
summed_same w x y e = ap (λ z. word_for (sat (sample_in w +ℤ z))) (ap sat e ∙ sat_same (sat x) (sat_fits x))

overwritten_same : (x y : ℤ) → y ≡ sat x → overwritten y ≡ overwritten x
overwritten_same x y e = ap (λ z. word_for (sat (pos 0 +ℤ z))) e ∙ ap word_for (sym (once_more x))

onto_same : (t : Bool) (b : ℕ) (ws : List ℕ) (at : ℕ) (xs ys : List ℤ) → ((k : ℕ) → k < 64 → get_or ys k (pos 0) ≡ sat (get_or xs k (pos 0))) → onto_by t b ws at ys ≡ onto_by t b ws at xs
unfolding onto_by
onto_same true b ws at xs ys same =
    let f : List ℤ → ℕ → ℕ = λ zs k. summed (get_or ws (at + 1 + k) 0) (get_or zs k (pos 0)) in
    ap (put ws (at + 1)) (table_same (f ys) (f xs) 64 (λ k lt. summed_same (get_or ws (at + 1 + k) 0) (get_or xs k (pos 0)) (get_or ys k (pos 0)) (same k lt)))
onto_same false b ws at xs ys same =
    let f : List ℤ → ℕ → ℕ = λ zs k. overwritten (get_or zs k (pos 0)) in
    ap (λ (us : List ℕ). set (put ws (at + 1) us) at (b + 1)) (table_same (f ys) (f xs) 64 (λ k lt. overwritten_same (get_or xs k (pos 0)) (get_or ys k (pos 0)) (same k lt)))

pub onto_saturated : (b : ℕ) (ws : List ℕ) (at : ℕ) (xs ys : List ℤ) → ((k : ℕ) → k < 64 → get_or ys k (pos 0) ≡ sat (get_or xs k (pos 0))) → onto_block true b ws at ys ≡ onto_block true b ws at xs
unfolding onto_by
onto_saturated b ws at xs ys same = onto_same (get_or ws at 0 == b + 1) b ws at xs ys same

marked_off : (t : Bool) → (t ≡ true → ⊥) → t ≡ false
marked_off true never = absurd (never refl)
marked_off false never = refl

-- a lane that was not written in this block holds what was put onto it, saturated
pub lane_holds : (b : ℕ) (ls : List ℕ) (at : ℕ) (xs : List ℤ) → (get_or ls at 0 ≡ b + 1 → ⊥) → at + 65 ≤ length ls → (k : ℕ) → k < 64
    → get_or (samples_at (onto_block true b ls at xs) (at + 1)) k (pos 0) ≡ sat (get_or xs k (pos 0))
unfolding onto_by mixed_by
lane_holds b ls at xs off inside k lt =
    let t : Bool = get_or ls at 0 == b + 1 in
    let x : ℤ = get_or xs k (pos 0) in
    let never : t ≡ false = marked_off t (λ e. off (eqb-true (get_or ls at 0) (b + 1) e)) in
    ap (λ (bus : AudioBus). get_or bus.samples k (pos 0)) (onto_by_is t b ls at xs (eqb-true (get_or ls at 0) (b + 1)) inside)
    ∙ table_at (mixed_by t b ls at xs) 64 k (pos 0) lt
    ∙ ap (λ u. sat (cond u (get_or (samples_at ls (at + 1)) k (pos 0)) (pos 0) +ℤ sat x)) never
    ∙ (sym (once_more x) ∙ alone x)

-- so adding the lane to a bus is adding what was put onto it
pub added_by_lane : (b : ℕ) (ws ls : List ℕ) (at lane : ℕ) (xs : List ℤ) → (get_or ls lane 0 ≡ b + 1 → ⊥) → lane + 65 ≤ length ls
    → onto_block true b ws at (samples_at (onto_block true b ls lane xs) (lane + 1)) ≡ onto_block true b ws at xs
added_by_lane b ws ls at lane xs off inside = onto_saturated b ws at xs (samples_at (onto_block true b ls lane xs) (lane + 1)) (lane_holds b ls lane xs off inside)

-- ---- one channel

-- the buses after a change of words: of the audio buses alone
pub record Mixed (us ws : List ℕ) (after : List AudioBus) : Type 0 where
  pub audio : audio_buses us ≡ after
  pub others : (j : ℕ) → 8320 ≤ j → get_or us j 0 ≡ get_or ws j 0
  pub long : length us ≡ length ws

-- the bus is one, and inside the words
abbrev pub IsInside : ℕ → Option ℕ → Type 0
IsInside len None = Unit {0}
IsInside len (Some n) = 65 * n + 65 ≤ len

number_low : (b : Bool) (n m : ℕ) → b ≡ nat_lt n 128 → cond b (Some n) None ≡ Some m → m < 128
number_low true n m e h = let l : n < 128 = ltb-true n 128 (sym e) in let s : n ≡ m = cc in omega arith
number_low false n m e h = absurd cc

pub number_bound : (z : ℤ) (n : ℕ) → audio_number z ≡ Some n → n < 128
number_bound (pos m) n h = number_low (nat_lt m 128) m n refl h
number_bound (negsuc m) n h = absurd cc

one_mixes : (adds : Bool) (b : ℕ) (change : AudioBus → List ℤ → AudioBus) (ws : List ℕ) (o : Option ℕ) (xs : List ℤ) → Mixes adds b change → ((n : ℕ) → o ≡ Some n → n < 128) → IsInside (length ws) o → Mixed (onto_audio adds b ws o xs) ws (change_audio change (audio_buses ws) o xs)
unfolding Mixes
one_mixes adds b change ws None xs mixes low inside = record { audio = refl; others = λ j le. refl; long = refl }
one_mixes adds b change ws (Some n) xs mixes low inside = let l : n < 128 = low n refl in record {
  audio = audio_set (onto_block adds b ws (65 * n) xs) ws n l (λ j le off. onto_apart adds b ws (65 * n) xs j (apart_from j (65 * n) 65 off))
      ∙ ap (set (audio_buses ws) n) (mixes ws n xs inside ∙ ap (λ (bus : AudioBus). change bus xs) (sym (audio_at ws n silent l)));
  others = λ j le. onto_apart adds b ws (65 * n) xs j (inr (omega arith));
  long = onto_long adds b ws (65 * n) xs;
}

-- ---- all channels

pub channels_mix : (adds : Bool) (b : ℕ) (change : AudioBus → List ℤ → AudioBus) (inputs : List (List ℤ)) (m : ℕ) (ws : List ℕ) → Mixes adds b change → ((i : ℕ) → i < m → IsInside (length ws) (audio_channel inputs i))
    → Mixed (channels (onto_audio_channel adds b inputs) inputs m ws) ws (channels (λ (bs : List AudioBus) i signal. change_audio change bs (audio_channel inputs i) signal) inputs m (audio_buses ws))
unfolding channels
channels_mix adds b change inputs zero ws mixes inside = record { audio = refl; others = λ j le. refl; long = refl }
channels_mix adds b change inputs (suc i) ws mixes inside =
    let before = channels_mix adds b change inputs i ws mixes (λ k lt. inside k (omega arith)) in
    let us : List ℕ = channels (onto_audio_channel adds b inputs) inputs i ws in
    let o : Option ℕ = audio_channel inputs i in
    let P : ℕ → Type 0 = λ n. IsInside n o in
    let one = one_mixes adds b change us o (block inputs (suc i)) mixes (λ n e. number_bound (get_or (get_or inputs 0 []) 0 (pos 0) +ℤ pos i) n e) (subst P (sym before.long) (inside i (omega arith))) in record {
      audio = one.audio ∙ ap (λ (bs : List AudioBus). change_audio change bs o (block inputs (suc i))) before.audio;
      others = λ j le. one.others j le ∙ before.others j le;
      long = one.long ∙ before.long;
    }
