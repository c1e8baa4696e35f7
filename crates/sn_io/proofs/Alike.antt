-- What Out.ar makes of words does not depend on a bus that it alone mixes, and onto that bus it puts one signal.
use Rattle.std.proofs.Common.{◌≡◌, ◌≢◌, ◌≤◌, ◌<◌, ◌⊎◌, inl, inr, ⊎_elim, ℕ, zero, suc, ◌+◌, ◌*◌, Bool, true, false, ◌&&◌, cond, List, ℤ, pos, negsuc, ◌+ℤ◌, Option, Some, None, length, get_or, refl, ap, sym, ◌∙◌, arith, true≢false}
use Rattle.std.specs.Prelude.{nat_le, nat_lt}
use Rattle.std.proofs.lemmas.Bool.{and_from, and_parts, cases_eq, le-leb, leb-true, lt-ltb, ltb-true}
use Rattle.std.proofs.lemmas.Int.{ints}
use Rattle.sn_mem.specs.Blocks.{block, sample}
use Rattle.sn_mem.specs.Buses.{audio_number}
use Rattle.sn_io.specs.ByFoot.{Agree}
use Rattle.sn_io.specs.Channels.{audio_channel, channels}
use Rattle.sn_io.specs.OverWords.{onto_audio, onto_audio_channel, onto_block}
use Rattle.sn_io.proofs.Agreeing.{AreSeen}
use Rattle.sn_io.proofs.BusByFoot.{block_agrees}
use Rattle.sn_io.proofs.Mixing.{apart_from, onto_apart, onto_long}

-- ---- if no word of a bus is seen

abbrev pub AreUnseen : (ℕ → Bool) → ℕ → ℕ → Type 0
AreUnseen seen at n = (j : ℕ) → at ≤ j → j < at + n → seen j ≡ false

unseen_agrees : (seen : ℕ → Bool) (adds : Bool) (b : ℕ) (us ws : List ℕ) (at : ℕ) (xs : List ℤ) → AreUnseen seen at 65 → Agree seen us ws → Agree seen (onto_block adds b us at xs) (onto_block adds b ws at xs)
unseen_agrees seen adds b us ws at xs off a = record {
  long = onto_long adds b us at xs ∙ a.long ∙ sym (onto_long adds b ws at xs);
  same = λ x t.
      let apart : (x < at) ⊎ (at + 65 ≤ x) = apart_from x at 65 (λ low high. true≢false (sym t ∙ off x low high)) in
      onto_apart adds b us at xs x apart ∙ a.same x t ∙ sym (onto_apart adds b ws at xs x apart);
}

-- the bus of a channel is seen whole, or not at all
abbrev pub IsWhole : (ℕ → Bool) → Option ℕ → Type 0
IsWhole seen o = (n : ℕ) → o ≡ Some n → AreSeen seen (65 * n) 65 ⊎ AreUnseen seen (65 * n) 65

channel_alike : (seen : ℕ → Bool) (adds : Bool) (b : ℕ) (us ws : List ℕ) (o : Option ℕ) (xs : List ℤ) → IsWhole seen o → Agree seen us ws → Agree seen (onto_audio adds b us o xs) (onto_audio adds b ws o xs)
channel_alike seen adds b us ws None xs whole a = a
channel_alike seen adds b us ws (Some n) xs whole a = ⊎_elim
    (λ (on : AreSeen seen (65 * n) 65). block_agrees seen adds b us ws (65 * n) xs on a)
    (λ (off : AreUnseen seen (65 * n) 65). unseen_agrees seen adds b us ws (65 * n) xs off a)
    (whole n refl)

pub channels_alike : (seen : ℕ → Bool) (adds : Bool) (b : ℕ) (inputs : List (List ℤ)) (m : ℕ) (us ws : List ℕ) → ((i : ℕ) → i < m → IsWhole seen (audio_channel inputs i)) → Agree seen us ws
    → Agree seen (channels (onto_audio_channel adds b inputs) inputs m us) (channels (onto_audio_channel adds b inputs) inputs m ws)
unfolding channels
channels_alike seen adds b inputs zero us ws whole a = a
channels_alike seen adds b inputs (suc i) us ws whole a =
    channel_alike seen adds b (channels (onto_audio_channel adds b inputs) inputs i us) (channels (onto_audio_channel adds b inputs) inputs i ws) (audio_channel inputs i) (block inputs (suc i)) (whole i (omega arith))
    (channels_alike seen adds b inputs i us ws (λ k lt. whole k (omega (arith, lt))) a)

-- ---- one channel on a bus

chosen_is : (c : Bool) (m n : ℕ) → cond c (Some m) None ≡ Some n → m ≡ n
chosen_is true m n e = cc
chosen_is false m n e = absurd cc

number_is : (z : ℤ) (n : ℕ) → audio_number z ≡ Some n → z ≡ pos n
number_is (pos m) n e = ap pos (chosen_is (nat_lt m 128) m n e)
number_is (negsuc m) n e = absurd cc

-- no two channels have one bus
pub one_channel : (inputs : List (List ℤ)) (n i j : ℕ) → audio_channel inputs i ≡ Some n → audio_channel inputs j ≡ Some n → i ≡ j
one_channel inputs n i j e f =
    let first : ℤ = sample inputs 0 0 in
    let p : first +ℤ pos i ≡ pos n = number_is (first +ℤ pos i) n e in
    let q : first +ℤ pos j ≡ pos n = number_is (first +ℤ pos j) n f in
    omega (arith, ints, p, q)

abbrev in_bus : ℕ → ℕ → Bool
in_bus n x = nat_le (65 * n) x && nat_lt x (65 * n + 65)

covered : (n x : ℕ) → 65 * n ≤ x → x < 65 * n + 65 → in_bus n x ≡ true
covered n x low high = and_from (nat_le (65 * n) x) (nat_lt x (65 * n + 65)) (le-leb (65 * n) x low) (lt-ltb x (65 * n + 65) high)

-- a channel on another bus, or on none, leaves the bus
other_kept : (adds : Bool) (b : ℕ) (ws : List ℕ) (o : Option ℕ) (xs : List ℤ) (n x : ℕ) → (o ≡ Some n → ⊥) → 65 * n ≤ x → x < 65 * n + 65 → get_or (onto_audio adds b ws o xs) x 0 ≡ get_or ws x 0
other_kept adds b ws None xs n x never low high = refl
other_kept adds b ws (Some k) xs n x never low high =
    onto_apart adds b ws (65 * k) xs x
    (apart_from x (65 * k) 65 (λ from to. let same : k ≡ n = omega (arith, low, high, from, to) in never (ap Some same)))

others_kept : (adds : Bool) (b : ℕ) (inputs : List (List ℤ)) (m : ℕ) (ws : List ℕ) (n x : ℕ) → ((j : ℕ) → j < m → audio_channel inputs j ≡ Some n → ⊥) → 65 * n ≤ x → x < 65 * n + 65 → get_or (channels (onto_audio_channel adds b inputs) inputs m ws) x 0 ≡ get_or ws x 0
unfolding channels
others_kept adds b inputs zero ws n x never low high = refl
others_kept adds b inputs (suc i) ws n x never low high =
    other_kept adds b (channels (onto_audio_channel adds b inputs) inputs i ws) (audio_channel inputs i) (block inputs (suc i)) n x (never i (omega arith)) low high
    ∙ others_kept adds b inputs i ws n x (λ j lt. never j (omega (arith, lt))) low high

-- the words of a bus agree with those of others on it
agrees_on : (us ws : List ℕ) (n : ℕ) → length us ≡ length ws → ((x : ℕ) → 65 * n ≤ x → x < 65 * n + 65 → get_or us x 0 ≡ get_or ws x 0) → Agree (in_bus n) us ws
agrees_on us ws n long same = record {
  long = long;
  same = λ x t. let p = and_parts (nat_le (65 * n) x) (nat_lt x (65 * n + 65)) t in same x (leb-true (65 * n) x p.0) (ltb-true x (65 * n + 65) p.1);
}

channel_long : (adds : Bool) (b : ℕ) (ws : List ℕ) (o : Option ℕ) (xs : List ℤ) → length (onto_audio adds b ws o xs) ≡ length ws
channel_long adds b ws None xs = refl
channel_long adds b ws (Some n) xs = onto_long adds b ws (65 * n) xs

pub channels_long : (adds : Bool) (b : ℕ) (inputs : List (List ℤ)) (m : ℕ) (ws : List ℕ) → length (channels (onto_audio_channel adds b inputs) inputs m ws) ≡ length ws
unfolding channels
channels_long adds b inputs zero ws = refl
channels_long adds b inputs (suc i) ws = channel_long adds b (channels (onto_audio_channel adds b inputs) inputs i ws) (audio_channel inputs i) (block inputs (suc i)) ∙ channels_long adds b inputs i ws

-- onto the bus of a channel its signal is put, and nothing else
pub one_put : (adds : Bool) (b : ℕ) (inputs : List (List ℤ)) (m i n : ℕ) (ws : List ℕ) → audio_channel inputs i ≡ Some n → i < m → (x : ℕ) → 65 * n ≤ x → x < 65 * n + 65
    → get_or (channels (onto_audio_channel adds b inputs) inputs m ws) x 0 ≡ get_or (onto_block adds b ws (65 * n) (block inputs (suc i))) x 0
unfolding channels
one_put adds b inputs zero i n ws e lt x low high = absurd (omega arith)
one_put adds b inputs (suc j) i n ws e lt x low high =
    let before : List ℕ = channels (onto_audio_channel adds b inputs) inputs j ws in
    let xs : List ℤ = block inputs (suc j) in
    ⊎_elim
    (λ (same : j ≡ i).
    let here : audio_channel inputs j ≡ Some n = ap (audio_channel inputs) same ∙ e in
    let kept : Agree (in_bus n) before ws =
    agrees_on before ws n (channels_long adds b inputs j ws)
    (λ y l h. others_kept adds b inputs j ws n y (λ k less f. let equal = one_channel inputs n k i f e in absurd (omega (arith, equal, less, same))) l h) in
    ap (λ (o : Option ℕ). get_or (onto_audio adds b before o xs) x 0) here
    ∙ (block_agrees (in_bus n) adds b before ws (65 * n) xs (λ y l h. covered n y l h) kept).same x (covered n x low high)
    ∙ ap (λ k. get_or (onto_block adds b ws (65 * n) (block inputs (suc k))) x 0) same)
    (λ (other : j ≢ i).
    other_kept adds b before (audio_channel inputs j) xs n x (λ f. other (one_channel inputs n j i f e)) low high
    ∙ one_put adds b inputs j i n ws e (omega (arith, lt, other)) x low high)
    (cases_eq j i)
