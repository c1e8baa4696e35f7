-- One more frame of a ring, and its block.
use Rattle.std.proofs.Common.{◌≡◌, ◌≤◌, ◌<◌, ◌⊎◌, ℕ, zero, suc, ◌+◌, ◌-◌, ◌%◌, List, [], ◌∷◌, ℤ, length, get_or, set, take, refl, ap, sym, ◌∙◌, ⊎_elim, inl, inr, arith, length-set, get_or-set_other, subst, true}
use Rattle.std.proofs.Math.Seq.{take-length}
use Rattle.std.proofs.lemmas.Bool.{cases_lt}
use Rattle.std.proofs.lemmas.Bool.Decides.{nat_tests}
use Rattle.std.proofs.lemmas.List.{ext_get_or}
use Rattle.sn_mem.specs.declared.extents.Foot.{Foot}
use Rattle.sn_mem.specs.Words.{MayWrite, touches}
use Rattle.sn_mem.specs.Blocks.{window, put, scan, sample_in, word_for}
use Rattle.sn_mem.proofs.Feet.{may_touch}
use Rattle.sn_mem.proofs.Steps.{length-window, length-put, scan_step}
use Rattle.sn_mem.proofs.Windows.{window_at, window_put, apart_put}
use Rattle.sn_mem.proofs.Puts.{in_put}
use Rattle.sn_filt.specs.Rings.{before, after, ring_step, ringed}

-- ---- places

pub before_low : (places place n : ℕ) → place < places → n < places → before places place n < places
before_low places place n low few = grind (arith, nat_tests)

-- ---- one frame

pub window_set : (ws : List ℕ) (at len p x : ℕ) → p < len → at + len ≤ length ws → window (set ws (at + p) x) at len ≡ set (window ws at len) p x
unfolding put
window_set ws at len p x low inside = window_put ws at len p (x ∷ []) (omega arith) inside

one : (reach : List (List ℤ) → ℕ → ℕ) (step : ℤ → List (List ℤ) → ℕ → ℤ × ℤ) (at len place k : ℕ) (ws us : List ℕ) (ins : List (List ℤ)) (y : ℤ) → place < len - 1 → reach ins k < len - 1 → at + len ≤ length ws
    → us ≡ set ws (at + 1 + place) (word_for (step (sample_in (get_or ws (at + 1 + before (len - 1) place (reach ins k)) 0)) ins k).0)
    → y ≡ (step (sample_in (get_or ws (at + 1 + before (len - 1) place (reach ins k)) 0)) ins k).1
    → ◌≡◌ {A = (ℕ × List ℕ) × ℤ} ((after (len - 1) place, window us at len), y) (ring_step reach step (len - 1) (place, window ws at len) ins k)
unfolding ring_step
one reach step at len place k ws us ins y low few inside u v =
    let i : ℕ = before (len - 1) place (reach ins k) in
    let short : i < len - 1 = before_low (len - 1) place (reach ins k) low few in
    let there : get_or ws (at + 1 + i) 0 ≡ get_or (window ws at len) (1 + i) 0 = ap (λ m. get_or ws m 0) (omega arith) ∙ sym (window_at ws at len (1 + i) (omega (arith, short))) in
    let F : ℕ → ℤ × ℤ = λ w. step (sample_in w) ins k in
    let put_now : window us at len ≡ set (window ws at len) (1 + place) (word_for (F (get_or ws (at + 1 + i) 0)).0) =
    ap (λ (us : List ℕ). window us at len) (u ∙ ap (λ m. set ws m (word_for (F (get_or ws (at + 1 + i) 0)).0)) (omega arith))
    ∙ window_set ws at len (1 + place) (word_for (F (get_or ws (at + 1 + i) 0)).0) (omega arith) inside in
    let G : ℕ → (ℕ × List ℕ) × ℤ = λ w. ((after (len - 1) place, set (window ws at len) (1 + place) (word_for (F w).0)), (F w).1) in
    let a : ◌≡◌ {A = (ℕ × List ℕ) × ℤ} ((after (len - 1) place, window us at len), y) ((after (len - 1) place, set (window ws at len) (1 + place) (word_for (F (get_or ws (at + 1 + i) 0)).0)), y) = ap (λ (xs : List ℕ). ((after (len - 1) place, xs), y)) put_now in
    let b : ◌≡◌ {A = (ℕ × List ℕ) × ℤ} ((after (len - 1) place, set (window ws at len) (1 + place) (word_for (F (get_or ws (at + 1 + i) 0)).0)), y) (G (get_or ws (at + 1 + i) 0)) = ap (λ (y : ℤ). ((after (len - 1) place, set (window ws at len) (1 + place) (word_for (F (get_or ws (at + 1 + i) 0)).0)), y)) v in
    a ∙ (b ∙ ap G there)

-- ---- what lies apart from the state

pub record Apart (at len : ℕ) (ws us : List ℕ) : Type 0 where
  pub long : length us ≡ length ws
  pub others : (j : ℕ) → (j < at) ⊎ (at + len ≤ j) → get_or us j 0 ≡ get_or ws j 0

pub apart_none : (at len : ℕ) (ws us : List ℕ) → us ≡ ws → Apart at len ws us
apart_none at len ws us e = record { long = ap (λ (us : List ℕ). length us) e; others = λ j apart. ap (λ (us : List ℕ). get_or us j 0) e }

pub apart_more : (at len p x : ℕ) (ws us vs : List ℕ) → at ≤ p → p < at + len → Apart at len ws us → vs ≡ set us p x → Apart at len ws vs
apart_more at len p x ws us vs low high a e = record {
  long = ap (λ (us : List ℕ). length us) e ∙ (length-set us p x ∙ a.long);
  others = λ j apart. ap (λ (us : List ℕ). get_or us j 0) e ∙ (get_or-set_other us p j x 0 (⊎_elim (λ (l : j < at). omega (arith, l)) (λ (r : at + len ≤ j). omega (arith, r)) apart) ∙ a.others j apart);
}

-- the words are those before, with the state put there
pub put_there : (at len : ℕ) (ws us : List ℕ) → at + len ≤ length ws → Apart at len ws us → us ≡ put ws at (window us at len)
put_there at len ws us inside a =
    let wide : length (window us at len) ≡ len = length-window us at len in
    ext_get_or 0 us (put ws at (window us at len)) (a.long ∙ sym (length-put ws at (window us at len)))
    (λ j lt. ⊎_elim
    (λ (l : j < at). a.others j (inl l) ∙ sym (apart_put ws at j (window us at len) (inl l)))
    (λ (r : at ≤ j). ⊎_elim
    (λ (m : j < at + len). ap (λ n. get_or us n 0) (omega arith) ∙ (sym (window_at us at len (j - at) (omega arith)) ∙ (sym (in_put ws at (j - at) (window us at len) (omega (arith, wide)) (omega (arith, wide, inside))) ∙ ap (λ n. get_or (put ws at (window us at len)) n 0) (omega arith))))
    (λ (h : at + len ≤ j). a.others j (inr h) ∙ sym (apart_put ws at j (window us at len) (inr (omega (arith, wide, h)))))
    (cases_lt j (at + len)))
    (cases_lt j at))

-- ---- a block

pub ring_more : (reach : List (List ℤ) → ℕ → ℕ) (step : ℤ → List (List ℤ) → ℕ → ℤ × ℤ) (at len k place place' places : ℕ) (s : ℕ × List ℕ) (ws us : List ℕ) (ins : List (List ℤ)) (y : ℤ) (ys : List ℤ)
    → k < length ys → places ≡ len - 1 → place < places → reach ins k < places → at + len ≤ length ws
    → ◌≡◌ {A = (ℕ × List ℕ) × List ℤ} ((place, window ws at len), take k ys) (scan (ring_step reach step places) s ins k)
    → us ≡ set ws (at + 1 + place) (word_for (step (sample_in (get_or ws (at + 1 + before (len - 1) place (reach ins k)) 0)) ins k).0)
    → y ≡ (step (sample_in (get_or ws (at + 1 + before (len - 1) place (reach ins k)) 0)) ins k).1
    → place' ≡ after places place
    → ◌≡◌ {A = (ℕ × List ℕ) × List ℤ} ((place', window us at len), take (k + 1) (set ys k y)) (scan (ring_step reach step places) s ins (k + 1))
ring_more reach step at len k place place' places s ws us ins y ys lt size low few inside i u v p =
    let F : ℕ → Type 0 = λ places. ◌≡◌ {A = (ℕ × List ℕ) × ℤ} ((after places place, window us at len), y) (ring_step reach step places (place, window ws at len) ins k) in
    let now : F places = subst F (sym size) (one reach step at len place k ws us ins y (omega arith) (omega arith) inside u v) in
    scan_step (ring_step reach step places) s (place, window ws at len) (place', window us at len) y ins k ys lt i (ap (λ n. ((n, window us at len), y)) p ∙ now)

-- after the last frame the next place is stored
pub ring_done : (reach : List (List ℤ) → ℕ → ℕ) (step : ℤ → List (List ℤ) → ℕ → ℤ × ℤ) (at len k place first places : ℕ) (ws us vs : List ℕ) (ins : List (List ℤ)) (ys : List ℤ)
    → k ≡ 64 → length ys ≡ 64 → places ≡ len - 1 → 0 < len → at + len ≤ length ws → first ≡ get_or ws at 0 % places
    → ◌≡◌ {A = (ℕ × List ℕ) × List ℤ} ((place, window us at len), take k ys) (scan (ring_step reach step places) (first, window ws at len) ins k)
    → Apart at len ws us → vs ≡ set us at place
    → (vs ≡ put ws at (ringed reach step (window ws at len) ins).0) × (ys ≡ (ringed reach step (window ws at len) ins).1)
ring_done reach step at len k place first places ws us vs ins ys last long size some inside begin i a e =
    let wide : length (window ws at len) ≡ len = length-window ws at len in
    let as_size : places ≡ length (window ws at len) - 1 = omega (arith, size, wide) in
    let S : Type 0 = (ℕ × List ℕ) × List ℤ in
    let R : ℕ → ℕ → S = λ places w. scan (ring_step reach step places) (w % places, window ws at len) ins 64 in
    let first_word : get_or ws at 0 ≡ get_or (window ws at len) 0 0 = ap (λ n. get_or ws n 0) (omega arith) ∙ sym (window_at ws at len 0 some) in
    let whole : take k ys ≡ ys = ap (λ n. take n ys) (last ∙ sym long) ∙ take-length ys in
    let b : ◌≡◌ {A = S} ((place, window us at len), ys) ((place, window us at len), take k ys) = ap (λ (ys : List ℤ). ((place, window us at len), ys)) (sym whole) in
    let d : ◌≡◌ {A = S} (scan (ring_step reach step places) (first, window ws at len) ins k) (R places (get_or ws at 0)) = ap (λ n. scan (ring_step reach step places) (first, window ws at len) ins n) last ∙ ap (λ n. scan (ring_step reach step places) (n, window ws at len) ins 64) begin in
    let h : ◌≡◌ {A = S} ((place, window us at len), ys) (R (length (window ws at len) - 1) (get_or (window ws at len) 0 0)) =
    b ∙ (i ∙ (d ∙ (ap (λ n. R n (get_or ws at 0)) as_size ∙ ap (R (length (window ws at len) - 1)) first_word))) in
    let state : window vs at len ≡ set (window us at len) 0 place = ap (λ (vs : List ℕ). window vs at len) (e ∙ ap (λ n. set us n place) (omega arith)) ∙ window_set us at len 0 place some (omega (arith, a.long, inside)) in
    let after_it : set (window us at len) 0 place ≡ (ringed reach step (window ws at len) ins).0 = ap (λ (r : S). set r.0.1 0 r.0.0) h in (
      put_there at len ws vs inside (apart_more at len at place ws us vs (omega arith) (omega arith) a e) ∙ ap (put ws at) (state ∙ after_it),
      ap (λ (r : S). r.1) h,
    )

-- the words of a state are there
pub there_are : (f : Foot) (at len words : ℕ) → MayWrite f at len → 0 < len → ((x : ℕ) → touches f x ≡ true → x < words) → at + len ≤ words
there_are f at len words may some inside = let last : at + (len - 1) < words = inside (at + (len - 1)) (may_touch f f at len (at + (len - 1)) may refl (omega arith) (omega arith)) in omega (arith, last)

-- the words of a state stay as many
length-scanned : (reach : List (List ℤ) → ℕ → ℕ) (step : ℤ → List (List ℤ) → ℕ → ℤ × ℤ) (places : ℕ) (s : ℕ × List ℕ) (ins : List (List ℤ)) (k : ℕ) → length (scan (ring_step reach step places) s ins k).0.1 ≡ length s.1
unfolding scan ring_step
length-scanned reach step places s ins zero = refl
length-scanned reach step places s ins (suc k) =
    let r : (ℕ × List ℕ) × List ℤ = scan (ring_step reach step places) s ins k in
    let q : ℤ × ℤ = step (sample_in (get_or r.0.1 (1 + before places r.0.0 (reach ins k)) 0)) ins k in
    length-set r.0.1 (1 + r.0.0) (word_for q.0) ∙ length-scanned reach step places s ins k

pub length-ringed : (reach : List (List ℤ) → ℕ → ℕ) (step : ℤ → List (List ℤ) → ℕ → ℤ × ℤ) (state : List ℕ) (ins : List (List ℤ)) → length (ringed reach step state ins).0 ≡ length state
length-ringed reach step state ins =
    let places : ℕ = length state - 1 in
    let r : (ℕ × List ℕ) × List ℤ = scan (ring_step reach step places) (get_or state 0 0 % places, state) ins 64 in
    length-set r.0.1 0 r.0.0 ∙ length-scanned reach step places (get_or state 0 0 % places, state) ins 64
