-- Rings after some first words of a state: what a frame reads and writes, and a block.
use Rattle.std.proofs.Common.{◌≡◌, ◌≤◌, ◌<◌, ℕ, zero, suc, ◌+◌, ◌-◌, ◌%◌, List, ℤ, length, get_or, set, take, refl, ap, sym, ◌∙◌, arith, length-set}
use Rattle.std.proofs.Math.Seq.{take-length}
use Rattle.sn_mem.specs.Blocks.{window, put, scan, sample, sample_in, word_for}
use Rattle.sn_mem.proofs.Steps.{length-window, scan_step}
use Rattle.sn_mem.proofs.Windows.{window_at}
use Rattle.sn_filt.specs.Rings.{before, after}
use Rattle.sn_filt.specs.Lines.{past, echo, line_reach, delay_l_step, delay_ring, comb_in, comb_l_frame, comb_after, comb_l_step, comb_ring}
use Rattle.sn_filt.specs.declared.lines.Comb.{Comb}
use Rattle.sn_filt.specs.declared.lines.CombFrame.{CombFrame}
use Rattle.sn_filt.proofs.RingLaws.{Apart, apart_more, put_there, window_set}

-- ---- readings

pub past_there : (head place n at len p w : ℕ) (ws : List ℕ) (y : ℤ) → p ≡ before (len - head) place n → p < len - head → w ≡ get_or ws (at + head + p) 0 → y ≡ sample_in w → y ≡ past head (len - head) place (window ws at len) n
past_there head place n at len p w ws y is low e f =
    f ∙ (ap sample_in (e ∙ (ap (λ m. get_or ws m 0) (omega arith) ∙ sym (window_at ws at len (head + p) (omega arith)))) ∙ ap (λ p. sample_in (get_or (window ws at len) (head + p) 0)) is)

word_there : (at len i w : ℕ) (ws : List ℕ) → i < len → w ≡ get_or ws (at + i) 0 → w ≡ get_or (window ws at len) i 0
word_there at len i w ws low e = e ∙ sym (window_at ws at len i low)

pub first_there : (at len places n w r : ℕ) (ws : List ℕ) → 0 < len → n ≡ places → w ≡ get_or ws at 0 → r ≡ w % n → r ≡ get_or (window ws at len) 0 0 % places
first_there at len places n w r ws some size e f =
    f ∙ (ap (λ n. w % n) size ∙ ap (λ w. w % places) (word_there at len 0 w ws some (e ∙ ap (λ n. get_or ws n 0) (omega arith))))

pub comb_there : (at len place w : ℕ) (last : ℤ) (ws : List ℕ) → 1 < len → place ≡ get_or (window ws at len) 0 0 % (len - 2) → w ≡ get_or ws (at + 1) 0 → last ≡ sample_in w
    → ◌≡◌ {A = Comb} (record { place = place; last = last }) (comb_in (len - 2) (window ws at len))
comb_there at len place w last ws some p e f =
    let a : ◌≡◌ {A = Comb} (record { place = place; last = last }) (record { place = get_or (window ws at len) 0 0 % (len - 2); last = last }) = ap (λ n. record { place = n; last = last }) p in
    a ∙ ap (λ (x : ℤ). record { place = get_or (window ws at len) 0 0 % (len - 2); last = x }) (f ∙ ap sample_in (word_there at len 1 w ws some e))

-- ---- frames

-- the words of the state after a word of them was put
pub kept_there : (at len p j x : ℕ) (ws us : List ℕ) → p < len → at + len ≤ length ws → j ≡ at + p → us ≡ set ws j x → window us at len ≡ set (window ws at len) p x
kept_there at len p j x ws us low inside is e = ap (λ (us : List ℕ). window us at len) (e ∙ ap (λ j. set ws j x) is) ∙ window_set ws at len p x low inside

delay_now : (rate most at len k place place' : ℕ) (ws us : List ℕ) (ins : List (List ℤ)) (y : ℤ) → place < len - 1 → at + len ≤ length ws
    → us ≡ set ws (at + 1 + place) (word_for (sample ins 0 k)) → y ≡ echo 1 (len - 1) place (window us at len) (line_reach rate most ins k) → place' ≡ after (len - 1) place
    → ◌≡◌ {A = (ℕ × List ℕ) × ℤ} ((place', window us at len), y) (delay_l_step rate most (len - 1) (place, window ws at len) ins k)
unfolding delay_l_step
delay_now rate most at len k place place' ws us ins y low inside u v p =
    let S : Type 0 = (ℕ × List ℕ) × ℤ in
    let now : window us at len ≡ set (window ws at len) (1 + place) (word_for (sample ins 0 k)) = kept_there at len (1 + place) (at + 1 + place) (word_for (sample ins 0 k)) ws us (omega arith) inside (omega arith) u in
    let G : List ℕ → S = λ xs. ((after (len - 1) place, xs), echo 1 (len - 1) place xs (line_reach rate most ins k)) in
    let a : ◌≡◌ {A = S} ((place', window us at len), y) ((after (len - 1) place, window us at len), y) = ap (λ n. ((n, window us at len), y)) p in
    let b : ◌≡◌ {A = S} ((after (len - 1) place, window us at len), y) (G (window us at len)) = ap (λ (y : ℤ). ((after (len - 1) place, window us at len), y)) v in
    a ∙ (b ∙ ap G now)

pub delay_more : (rate most at len k place place' : ℕ) (s : ℕ × List ℕ) (ws us : List ℕ) (ins : List (List ℤ)) (y : ℤ) (ys : List ℤ) → k < length ys → place < len - 1 → at + len ≤ length ws
    → ◌≡◌ {A = (ℕ × List ℕ) × List ℤ} ((place, window ws at len), take k ys) (scan (delay_l_step rate most (len - 1)) s ins k)
    → us ≡ set ws (at + 1 + place) (word_for (sample ins 0 k)) → y ≡ echo 1 (len - 1) place (window us at len) (line_reach rate most ins k) → place' ≡ after (len - 1) place
    → ◌≡◌ {A = (ℕ × List ℕ) × List ℤ} ((place', window us at len), take (k + 1) (set ys k y)) (scan (delay_l_step rate most (len - 1)) s ins (k + 1))
delay_more rate most at len k place place' s ws us ins y ys lt low inside i u v p =
    scan_step (delay_l_step rate most (len - 1)) s (place, window ws at len) (place', window us at len) y ins k ys lt i (delay_now rate most at len k place place' ws us ins y low inside u v p)

comb_now : (output : CombFrame → ℤ) (rate most at len k : ℕ) (c c' : Comb) (r : CombFrame) (ws us : List ℕ) (ins : List (List ℤ)) (y : ℤ) → c.place < len - 2 → at + len ≤ length ws
    → r ≡ comb_l_frame rate most (len - 2) (c, window ws at len) ins k → us ≡ set ws (at + 2 + c.place) (word_for r.kept) → y ≡ output r → c' ≡ comb_after (len - 2) c r
    → ◌≡◌ {A = (Comb × List ℕ) × ℤ} ((c', window us at len), y) (comb_l_step output rate most (len - 2) (c, window ws at len) ins k)
unfolding comb_l_step
comb_now output rate most at len k c c' r ws us ins y low inside e u v p =
    let S : Type 0 = (Comb × List ℕ) × ℤ in
    let now : window us at len ≡ set (window ws at len) (2 + c.place) (word_for r.kept) = kept_there at len (2 + c.place) (at + 2 + c.place) (word_for r.kept) ws us (omega arith) inside (omega arith) u in
    let G : CombFrame → S = λ r. ((comb_after (len - 2) c r, set (window ws at len) (2 + c.place) (word_for r.kept)), output r) in
    let a : ◌≡◌ {A = S} ((c', window us at len), y) ((comb_after (len - 2) c r, window us at len), y) = ap (λ (c : Comb). ((c, window us at len), y)) p in
    let b : ◌≡◌ {A = S} ((comb_after (len - 2) c r, window us at len), y) ((comb_after (len - 2) c r, window us at len), output r) = ap (λ (y : ℤ). ((comb_after (len - 2) c r, window us at len), y)) v in
    let d : ◌≡◌ {A = S} ((comb_after (len - 2) c r, window us at len), output r) (G r) = ap (λ (xs : List ℕ). ((comb_after (len - 2) c r, xs), output r)) now in
    a ∙ (b ∙ (d ∙ ap G e))

pub comb_more : (output : CombFrame → ℤ) (rate most at len k : ℕ) (s : Comb × List ℕ) (c c' : Comb) (r : CombFrame) (ws us : List ℕ) (ins : List (List ℤ)) (y : ℤ) (ys : List ℤ) → k < length ys → c.place < len - 2 → at + len ≤ length ws
    → ◌≡◌ {A = (Comb × List ℕ) × List ℤ} ((c, window ws at len), take k ys) (scan (comb_l_step output rate most (len - 2)) s ins k)
    → r ≡ comb_l_frame rate most (len - 2) (c, window ws at len) ins k → us ≡ set ws (at + 2 + c.place) (word_for r.kept) → y ≡ output r → c' ≡ comb_after (len - 2) c r
    → ◌≡◌ {A = (Comb × List ℕ) × List ℤ} ((c', window us at len), take (k + 1) (set ys k y)) (scan (comb_l_step output rate most (len - 2)) s ins (k + 1))
comb_more output rate most at len k s c c' r ws us ins y ys lt low inside i e u v p =
    scan_step (comb_l_step output rate most (len - 2)) s (c, window ws at len) (c', window us at len) y ins k ys lt i (comb_now output rate most at len k c c' r ws us ins y low inside e u v p)

-- ---- blocks

-- after the last frame the next place is stored
pub delay_done : (rate most at len k place first : ℕ) (ws us vs : List ℕ) (ins : List (List ℤ)) (ys : List ℤ)
    → k ≡ 64 → length ys ≡ 64 → 0 < len → at + len ≤ length ws → first ≡ get_or (window ws at len) 0 0 % (len - 1)
    → ◌≡◌ {A = (ℕ × List ℕ) × List ℤ} ((place, window us at len), take k ys) (scan (delay_l_step rate most (len - 1)) (first, window ws at len) ins k)
    → Apart at len ws us → vs ≡ set us at place
    → (vs ≡ put ws at (delay_ring rate most (window ws at len) ins).0) × (ys ≡ (delay_ring rate most (window ws at len) ins).1)
delay_done rate most at len k place first ws us vs ins ys last long some inside begin i a e =
    let S : Type 0 = (ℕ × List ℕ) × List ℤ in
    let size : len - 1 ≡ length (window ws at len) - 1 = omega (arith, length-window ws at len) in
    let R : ℕ → ℕ → S = λ places n. scan (delay_l_step rate most places) (n, window ws at len) ins 64 in
    let whole : take k ys ≡ ys = ap (λ n. take n ys) (last ∙ sym long) ∙ take-length ys in
    let b : ◌≡◌ {A = S} ((place, window us at len), ys) ((place, window us at len), take k ys) = ap (λ (ys : List ℤ). ((place, window us at len), ys)) (sym whole) in
    let d : ◌≡◌ {A = S} (scan (delay_l_step rate most (len - 1)) (first, window ws at len) ins k) (R (len - 1) (get_or (window ws at len) 0 0 % (len - 1))) = ap (λ n. scan (delay_l_step rate most (len - 1)) (first, window ws at len) ins n) last ∙ ap (R (len - 1)) begin in
    let h : ◌≡◌ {A = S} ((place, window us at len), ys) (R (length (window ws at len) - 1) (get_or (window ws at len) 0 0 % (length (window ws at len) - 1))) = b ∙ (i ∙ (d ∙ ap (λ n. R n (get_or (window ws at len) 0 0 % n)) size)) in
    let state : window vs at len ≡ set (window us at len) 0 place = kept_there at len 0 at place us vs some (omega (arith, a.long, inside)) (omega arith) e in
    let after_it : set (window us at len) 0 place ≡ (delay_ring rate most (window ws at len) ins).0 = ap (λ (r : S). set r.0.1 0 r.0.0) h in (
      put_there at len ws vs inside (apart_more at len at place ws us vs (omega arith) (omega arith) a e) ∙ ap (put ws at) (state ∙ after_it),
      ap (λ (r : S). r.1) h,
    )

-- after the last frame the next place and the last damped sample are stored
pub comb_done : (output : CombFrame → ℤ) (rate most at len k : ℕ) (c first : Comb) (ws us vs : List ℕ) (ins : List (List ℤ)) (ys : List ℤ)
    → k ≡ 64 → length ys ≡ 64 → 1 < len → at + len ≤ length ws → first ≡ comb_in (len - 2) (window ws at len)
    → ◌≡◌ {A = (Comb × List ℕ) × List ℤ} ((c, window us at len), take k ys) (scan (comb_l_step output rate most (len - 2)) (first, window ws at len) ins k)
    → Apart at len ws us → vs ≡ set (set us at c.place) (at + 1) (word_for c.last)
    → (vs ≡ put ws at (comb_ring output rate most (window ws at len) ins).0) × (ys ≡ (comb_ring output rate most (window ws at len) ins).1)
comb_done output rate most at len k c first ws us vs ins ys last long some inside begin i a e =
    let S : Type 0 = (Comb × List ℕ) × List ℤ in
    let size : len - 2 ≡ length (window ws at len) - 2 = omega (arith, length-window ws at len) in
    let R : ℕ → Comb → S = λ places c. scan (comb_l_step output rate most places) (c, window ws at len) ins 64 in
    let whole : take k ys ≡ ys = ap (λ n. take n ys) (last ∙ sym long) ∙ take-length ys in
    let b : ◌≡◌ {A = S} ((c, window us at len), ys) ((c, window us at len), take k ys) = ap (λ (ys : List ℤ). ((c, window us at len), ys)) (sym whole) in
    let d : ◌≡◌ {A = S} (scan (comb_l_step output rate most (len - 2)) (first, window ws at len) ins k) (R (len - 2) (comb_in (len - 2) (window ws at len))) = ap (λ n. scan (comb_l_step output rate most (len - 2)) (first, window ws at len) ins n) last ∙ ap (R (len - 2)) begin in
    let h : ◌≡◌ {A = S} ((c, window us at len), ys) (R (length (window ws at len) - 2) (comb_in (length (window ws at len) - 2) (window ws at len))) = b ∙ (i ∙ (d ∙ ap (λ n. R n (comb_in n (window ws at len))) size)) in
    let ts : List ℕ = set us at c.place in
    let first_word : window ts at len ≡ set (window us at len) 0 c.place = kept_there at len 0 at c.place us ts (omega arith) (omega (arith, a.long, inside)) (omega arith) refl in
    let before : Apart at len ws ts = apart_more at len at c.place ws us ts (omega arith) (omega arith) a refl in
    let second_word : window vs at len ≡ set (window ts at len) 1 (word_for c.last) = kept_there at len 1 (at + 1) (word_for c.last) ts vs some (omega (arith, before.long, inside)) refl e in
    let state : window vs at len ≡ set (set (window us at len) 0 c.place) 1 (word_for c.last) = second_word ∙ ap (λ (xs : List ℕ). set xs 1 (word_for c.last)) first_word in
    let after_it : set (set (window us at len) 0 c.place) 1 (word_for c.last) ≡ (comb_ring output rate most (window ws at len) ins).0 = ap (λ (r : S). set (set r.0.1 0 r.0.0.place) 1 (word_for r.0.0.last)) h in (
      put_there at len ws vs inside (apart_more at len (at + 1) (word_for c.last) ws ts vs (omega arith) (omega arith) before e) ∙ ap (put ws at) (state ∙ after_it),
      ap (λ (r : S). r.1) h,
    )

-- ---- lengths

-- the words of a state stay as many
length-delayed : (rate most places : ℕ) (s : ℕ × List ℕ) (ins : List (List ℤ)) (k : ℕ) → length (scan (delay_l_step rate most places) s ins k).0.1 ≡ length s.1
unfolding scan delay_l_step
length-delayed rate most places s ins zero = refl
length-delayed rate most places s ins (suc k) =
    let r : (ℕ × List ℕ) × List ℤ = scan (delay_l_step rate most places) s ins k in
    length-set r.0.1 (1 + r.0.0) (word_for (sample ins 0 k)) ∙ length-delayed rate most places s ins k

pub length-delay_ring : (rate most : ℕ) (state : List ℕ) (ins : List (List ℤ)) → length (delay_ring rate most state ins).0 ≡ length state
length-delay_ring rate most state ins =
    let places : ℕ = length state - 1 in
    let r : (ℕ × List ℕ) × List ℤ = scan (delay_l_step rate most places) (get_or state 0 0 % places, state) ins 64 in
    length-set r.0.1 0 r.0.0 ∙ length-delayed rate most places (get_or state 0 0 % places, state) ins 64

length-combed : (output : CombFrame → ℤ) (rate most places : ℕ) (s : Comb × List ℕ) (ins : List (List ℤ)) (k : ℕ) → length (scan (comb_l_step output rate most places) s ins k).0.1 ≡ length s.1
unfolding scan comb_l_step
length-combed output rate most places s ins zero = refl
length-combed output rate most places s ins (suc k) =
    let r : (Comb × List ℕ) × List ℤ = scan (comb_l_step output rate most places) s ins k in
    length-set r.0.1 (2 + r.0.0.place) (word_for (comb_l_frame rate most places r.0 ins k).kept) ∙ length-combed output rate most places s ins k

pub length-comb_ring : (output : CombFrame → ℤ) (rate most : ℕ) (state : List ℕ) (ins : List (List ℤ)) → length (comb_ring output rate most state ins).0 ≡ length state
length-comb_ring output rate most state ins =
    let places : ℕ = length state - 2 in
    let r : (Comb × List ℕ) × List ℤ = scan (comb_l_step output rate most places) (comb_in places state, state) ins 64 in
    length-set (set r.0.1 0 r.0.0.place) 1 (word_for r.0.0.last) ∙ (length-set r.0.1 0 r.0.0.place ∙ length-combed output rate most places (comb_in places state, state) ins 64)
