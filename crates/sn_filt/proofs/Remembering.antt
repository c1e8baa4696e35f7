-- A ring holds what was kept: at the place n before the next one stands what was kept n frames ago.
use Rattle.std.proofs.Common.{◌≡◌, ◌≢◌, ◌≤◌, ◌<◌, ℕ, zero, suc, ◌+◌, ◌-◌, ◌%◌, List, [], ◌∷◌, ℤ, pos, length, get_or, set, replicate, refl, ap, sym, ◌∙◌, ⊎_elim, arith, length-set, length-append, get_or-set_same, get_or-set_other, subst, FitsSigned}
use Rattle.std.specs.Int.{w32}
use Rattle.std.proofs.Math.Nat.{mod-eq_of_lt}
use Rattle.std.proofs.lemmas.Bool.{cases_eq}
use Rattle.std.proofs.lemmas.Bool.Decides.{nat_tests}
use Rattle.std.proofs.lemmas.List.{get_or_append_left, get_or_push, get_or-replicate, length-replicate}
use Rattle.sn_mem.specs.Blocks.{scan, sample_in, word_for}
use Rattle.sn_mem.proofs.BusLaws.{sample_in-word_for}
use Rattle.sn_filt.specs.Rings.{before, after, ring_step, ringed}
use Rattle.sn_filt.specs.Histories.{ago}

-- ---- places

before_first : (places place : ℕ) → place < places → before places (after places place) 1 ≡ place
before_first places place low = grind (arith, nat_tests)

before_later : (places place n : ℕ) → place < places → 0 < n → n < places → before places (after places place) (n + 1) ≡ before places place n
before_later places place n low some few = grind (arith, nat_tests)

before_apart : (places place n : ℕ) → place < places → 0 < n → n < places → before places place n ≢ place
before_apart places place n low some few = grind (arith, nat_tests)

before_low : (places place n : ℕ) → place < places → 0 < n → n ≤ places → before places place n < places
before_low places place n low some few = grind (arith, nat_tests)

after_low : (places place : ℕ) → place < places → after places place < places
after_low places place low = grind (arith, nat_tests)

-- ---- signals

ago_first : (f : ℕ → ℤ) (t : ℕ) → ago f 1 (t + 1) ≡ f t
ago_first f t = grind (arith, nat_tests)

pub ago_later : (f : ℕ → ℤ) (n t : ℕ) → ago f (n + 1) (t + 1) ≡ ago f n t
ago_later f n t = grind (arith, nat_tests)

pub ago_none : (f : ℕ → ℤ) (t : ℕ) → ago f 0 t ≡ f t
ago_none f t = grind (arith, nat_tests)

ago_start : (f : ℕ → ℤ) (n : ℕ) → 0 < n → ago f n 0 ≡ pos 0
ago_start f n some = grind (arith, nat_tests)

-- ---- what a ring holds

pub record Holds (places : ℕ) (f : ℕ → ℤ) (t place : ℕ) (ws : List ℕ) : Type 0 where
  pub long : length ws ≡ places + 1
  pub low : place < places
  pub past : (n : ℕ) → 0 < n → n ≤ places → sample_in (get_or ws (1 + before places place n) 0) ≡ ago f n t

pub holds_at_first : (places : ℕ) (f : ℕ → ℤ) (ws : List ℕ) → 0 < places → ws ≡ replicate (places + 1) 0 → Holds places f 0 (get_or ws 0 0 % places) ws
holds_at_first places f ws some e =
    let first : get_or ws 0 0 ≡ 0 = ap (λ (ws : List ℕ). get_or ws 0 0) e ∙ get_or-replicate (places + 1) 0 0 0 (omega arith) in
    let none : get_or ws 0 0 % places ≡ 0 = ap (λ n. n % places) first ∙ mod-eq_of_lt some in
    record {
      long = ap (λ (ws : List ℕ). length ws) e ∙ length-replicate (places + 1) 0;
      low = omega (arith, none);
      past = λ n some few.
          let low : before places (get_or ws 0 0 % places) n < places = before_low places (get_or ws 0 0 % places) n (omega (arith, none)) some few in
          ap (λ (ws' : List ℕ). sample_in (get_or ws' (1 + before places (get_or ws 0 0 % places) n) 0)) e
          ∙ (ap sample_in (get_or-replicate (places + 1) (1 + before places (get_or ws 0 0 % places) n) 0 0 (omega (arith, low))) ∙ sym (ago_start f n some));
    }

pub past_more : (places : ℕ) (f : ℕ → ℤ) (t place : ℕ) (ws : List ℕ) (v : ℤ) → Holds places f t place ws → FitsSigned w32 v → v ≡ f t
    → (n : ℕ) → 0 < n → n ≤ places → sample_in (get_or (set ws (1 + place) (word_for v)) (1 + before places (after places place) n) 0) ≡ ago f n (t + 1)
past_more places f t place ws v h fits e n some few = ⊎_elim
    (λ (one : n ≡ 1).
    let there : 1 + before places (after places place) n ≡ 1 + place = ap (λ n. 1 + before places (after places place) n) one ∙ ap (λ n. 1 + n) (before_first places place h.low) in
    ap (λ i. sample_in (get_or (set ws (1 + place) (word_for v)) i 0)) there
    ∙ (ap sample_in (get_or-set_same ws (1 + place) (word_for v) 0 (omega (arith, h.long, h.low)))
    ∙ (sample_in-word_for v fits ∙ (e ∙ (sym (ago_first f t) ∙ ap (λ n. ago f n (t + 1)) (sym one))))))
    (λ (more : n ≢ 1).
    let m : ℕ = n - 1 in
    let is : n ≡ m + 1 = omega (arith, more, some) in
    let pos_m : 0 < m = omega (arith, more, some) in
    let few_m : m < places = omega (arith, few, some) in
    let there : 1 + before places (after places place) n ≡ 1 + before places place m = ap (λ n. 1 + before places (after places place) n) is ∙ ap (λ n. 1 + n) (before_later places place m h.low pos_m few_m) in
    let apart : before places place m ≢ place = before_apart places place m h.low pos_m few_m in
    ap (λ i. sample_in (get_or (set ws (1 + place) (word_for v)) i 0)) there
    ∙ (ap sample_in (get_or-set_other ws (1 + place) (1 + before places place m) (word_for v) 0 (omega (arith, apart)))
    ∙ (h.past m pos_m (omega (arith, few_m)) ∙ (sym (ago_later f m t) ∙ ap (λ n. ago f n (t + 1)) (sym is)))))
    (cases_eq n 1)

pub holds_more : (places : ℕ) (f : ℕ → ℤ) (t place : ℕ) (ws : List ℕ) (v : ℤ) → Holds places f t place ws → FitsSigned w32 v → v ≡ f t → Holds places f (t + 1) (after places place) (set ws (1 + place) (word_for v))
holds_more places f t place ws v h fits e = record {
  long = length-set ws (1 + place) (word_for v) ∙ h.long;
  low = after_low places place h.low;
  past = past_more places f t place ws v h fits e;
}

-- ---- a block

-- what is read at a frame
abbrev pub old_at : (List (List ℤ) → ℕ → ℕ) → (ℤ → List (List ℤ) → ℕ → ℤ × ℤ) → ℕ → ℕ × List ℕ → List (List ℤ) → ℕ → ℤ
old_at reach step places s ins k = let r = (scan (ring_step reach step places) s ins k).0 in sample_in (get_or r.1 (1 + before places r.0 (reach ins k)) 0)

pub holds_on : (reach : List (List ℤ) → ℕ → ℕ) (step : ℤ → List (List ℤ) → ℕ → ℤ × ℤ) (places : ℕ) (f : ℕ → ℤ) (t : ℕ) (s : ℕ × List ℕ) (ins : List (List ℤ)) (k : ℕ)
    → Holds places f t s.0 s.1 → ((j : ℕ) → j < k → FitsSigned w32 (f (t + j))) → ((j : ℕ) → j < k → (step (old_at reach step places s ins j) ins j).0 ≡ f (t + j))
    → Holds places f (t + k) (scan (ring_step reach step places) s ins k).0.0 (scan (ring_step reach step places) s ins k).0.1
unfolding scan ring_step
holds_on reach step places f t s ins zero h fits kept = let P : ℕ → Type 0 = λ t. Holds places f t s.0 s.1 in subst P (omega arith) h
holds_on reach step places f t s ins (suc k) h fits kept =
    let r : (ℕ × List ℕ) × List ℤ = scan (ring_step reach step places) s ins k in
    let v : ℤ = (step (sample_in (get_or r.0.1 (1 + before places r.0.0 (reach ins k)) 0)) ins k).0 in
    let e : v ≡ f (t + k) = kept k (omega arith) in
    let now : Holds places f (t + k) r.0.0 r.0.1 = holds_on reach step places f t s ins k h (λ j lt. fits j (omega (arith, lt))) (λ j lt. kept j (omega (arith, lt))) in
    let F : ℤ → Type 0 = λ v. FitsSigned w32 v in
    let P : ℕ → Type 0 = λ t. Holds places f t (after places r.0.0) (set r.0.1 (1 + r.0.0) (word_for v)) in
    subst P (omega arith) (holds_more places f (t + k) r.0.0 r.0.1 v now (subst F (sym e) (fits k (omega arith))) e)

length-samples : {S : Type 0} (next : S → List (List ℤ) → ℕ → S × ℤ) (s : S) (ins : List (List ℤ)) (n : ℕ) → length (scan next s ins n).1 ≡ n
unfolding scan
length-samples next s ins zero = refl
length-samples next s ins (suc n) = grind (arith, length-append, length-samples next s ins n)

-- the sample of a frame
pub scan_at : {S : Type 0} (next : S → List (List ℤ) → ℕ → S × ℤ) (s : S) (ins : List (List ℤ)) (n k : ℕ) → k < n → get_or (scan next s ins n).1 k (pos 0) ≡ (next (scan next s ins k).0 ins k).1
unfolding scan
scan_at next s ins zero k lt = absurd (omega arith)
scan_at next s ins (suc n) k lt = ⊎_elim
    (λ (e : k ≡ n). get_or_push (scan next s ins n).1 (next (scan next s ins n).0 ins n).1 (pos 0) k (length-samples next s ins n ∙ sym e) ∙ ap (λ m. (next (scan next s ins m).0 ins m).1) (sym e))
    (λ (ne : k ≢ n). get_or_append_left (scan next s ins n).1 ((next (scan next s ins n).0 ins n).1 ∷ []) (pos 0) k (omega (arith, length-samples next s ins n, ne)) ∙ scan_at next s ins n k (omega (arith, ne)))
    (cases_eq k n)

-- the next place is stored
pub stored_place : (places : ℕ) (f : ℕ → ℤ) (t place : ℕ) (ws : List ℕ) → Holds places f t place ws → Holds places f t (get_or (set ws 0 place) 0 0 % places) (set ws 0 place)
stored_place places f t place ws h =
    let first : get_or (set ws 0 place) 0 0 % places ≡ place = ap (λ n. n % places) (get_or-set_same ws 0 place 0 (omega (arith, h.long))) ∙ mod-eq_of_lt h.low in
    let P : ℕ → Type 0 = λ p. Holds places f t p (set ws 0 place) in
    subst P (sym first) (record {
      long = length-set ws 0 place ∙ h.long;
      low = h.low;
      past = λ n some few. ap sample_in (get_or-set_other ws 0 (1 + before places place n) place 0 (omega arith)) ∙ h.past n some few;
    })

-- a block's begin, and what it reads at a frame
abbrev pub begun : ℕ → List ℕ → ℕ × List ℕ
begun places ws = (get_or ws 0 0 % places, ws)

pub state_on : (reach : List (List ℤ) → ℕ → ℕ) (step : ℤ → List (List ℤ) → ℕ → ℤ × ℤ) (places : ℕ) (f : ℕ → ℤ) (t : ℕ) (ws vs : List ℕ) (ins : List (List ℤ))
    → Holds places f t (get_or ws 0 0 % places) ws → ((j : ℕ) → FitsSigned w32 (f (t + j))) → ((j : ℕ) → j < 64 → (step (old_at reach step places (begun places ws) ins j) ins j).0 ≡ f (t + j))
    → vs ≡ (ringed reach step ws ins).0 → Holds places f (t + 64) (get_or vs 0 0 % places) vs
state_on reach step places f t ws vs ins h fits kept e =
    let size : length ws - 1 ≡ places = omega (arith, h.long) in
    let R : ℕ → (ℕ × List ℕ) × List ℤ = λ places. scan (ring_step reach step places) (begun places ws) ins 64 in
    let is : vs ≡ set (R places).0.1 0 (R places).0.0 = e ∙ ap (λ n. set (R n).0.1 0 (R n).0.0) size in
    let P : List ℕ → Type 0 = λ vs. Holds places f (t + 64) (get_or vs 0 0 % places) vs in
    subst P (sym is) (stored_place places f (t + 64) (R places).0.0 (R places).0.1 (holds_on reach step places f t (begun places ws) ins 64 h (λ j lt. fits j) kept))

-- what is read at a frame is what was kept then
pub reads_ago : (reach : List (List ℤ) → ℕ → ℕ) (step : ℤ → List (List ℤ) → ℕ → ℤ × ℤ) (places : ℕ) (f : ℕ → ℤ) (t : ℕ) (ws : List ℕ) (ins : List (List ℤ)) (k : ℕ)
    → Holds places f t (get_or ws 0 0 % places) ws → ((j : ℕ) → FitsSigned w32 (f (t + j))) → ((j : ℕ) → j < 64 → (step (old_at reach step places (begun places ws) ins j) ins j).0 ≡ f (t + j))
    → k < 64 → 0 < reach ins k → reach ins k ≤ places → old_at reach step places (begun places ws) ins k ≡ ago f (reach ins k) (t + k)
reads_ago reach step places f t ws ins k h fits kept lt some few =
    (holds_on reach step places f t (begun places ws) ins k h (λ j lt. fits j) (λ j low. kept j (omega (arith, lt, low)))).past (reach ins k) some few

-- and the block's output there is the step's
pub output_at : (reach : List (List ℤ) → ℕ → ℕ) (step : ℤ → List (List ℤ) → ℕ → ℤ × ℤ) (places : ℕ) (ws : List ℕ) (ins : List (List ℤ)) (k : ℕ)
    → k < 64 → length ws ≡ places + 1 → get_or (ringed reach step ws ins).1 k (pos 0) ≡ (step (old_at reach step places (begun places ws) ins k) ins k).1
unfolding ring_step
output_at reach step places ws ins k lt long =
    let size : length ws - 1 ≡ places = omega (arith, long) in
    ap (λ n. get_or (scan (ring_step reach step n) (begun n ws) ins 64).1 k (pos 0)) size ∙ scan_at (ring_step reach step places) (begun places ws) ins 64 k lt
