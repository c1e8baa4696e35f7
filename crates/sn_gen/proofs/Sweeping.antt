-- Line over whole runs: its state before each frame.
use Rattle.std.proofs.Common.{◌≡◌, ◌≤◌, ◌<◌, ℕ, zero, suc, ◌+◌, ◌*◌, ◌/◌, ◌%◌, min, max, Bool, true, false, List, ◌∷◌, [], ◌++◌, ℤ, pos, negsuc, cond, get_or, refl, ap, sym, ◌∙◌, ⊎_elim, arith, ltb, FitsSigned}
use Rattle.std.specs.Int.{w32}
use Rattle.std.proofs.Math.Nat.{mod-eq_of_lt}
use Rattle.std.proofs.lemmas.Nat.{mod_below}
use Rattle.std.proofs.lemmas.Bool.{cases_lt, lt-ltb, le-ltb, ne_eqb}
use Rattle.sn_fixed.specs.Fixed.{frames_of}
use Rattle.sn_fixed.specs.Lines.{line_at}
use Rattle.sn_def.specs.Histories.{heard, words_before}
use Rattle.sn_def.proofs.Frames.{at_frame, heard_at}
use Rattle.sn_mem.specs.Blocks.{sample, scan, table, sample_in, word_for}
use Rattle.sn_mem.specs.Done.{ended}
use Rattle.sn_mem.proofs.BusLaws.{sample_in-word_for}
use Rattle.sn_mem.proofs.Windows.{table_at}
use Rattle.sn_gen.specs.declared.line.Sweep.{Sweep}
use Rattle.sn_gen.specs.Line.{sweep_in, sweep_words, begun, swept, line}
use Rattle.sn_gen.specs.LineHistories.{line_unit, span, line_sample, BeginsWithSamples, IsStraight}

-- ---- recurrences

-- states and samples that follow each other by the step are those of the recurrence
pub follows : {S : Type 0} (step : S → List (List ℤ) → ℕ → S × ℤ) (state : ℕ → S) (y : ℕ → ℤ) (ins : List (List ℤ)) (n : ℕ)
    → ((k : ℕ) → k < n → ◌≡◌ {A = S × ℤ} (step (state k) ins k) (state (suc k), y k)) → ◌≡◌ {A = S × List ℤ} (scan step (state 0) ins n) (state n, table y n)
unfolding scan table
follows step state y ins zero h = refl
follows {S} step state y ins (suc n) h =
    let before : ◌≡◌ {A = S × List ℤ} (scan step (state 0) ins n) (state n, table y n) = follows step state y ins n (λ k lt. h k (omega (arith, lt))) in
    let a : ◌≡◌ {A = S × List ℤ} (scan step (state 0) ins (suc n)) ((step (state n) ins n).0, table y n ++ (step (state n) ins n).1 ∷ []) = ap (λ (r : S × List ℤ). ((step r.0 ins n).0, r.1 ++ (step r.0 ins n).1 ∷ [])) before in
    let b : ◌≡◌ {A = S × List ℤ} ((step (state n) ins n).0, table y n ++ (step (state n) ins n).1 ∷ []) (state (suc n), table y n ++ y n ∷ []) = ap (λ (q : S × ℤ). (q.0, table y n ++ q.1 ∷ [])) (h n (omega arith)) in
    a ∙ b

-- ---- one frame

abbrev pub sweep : ℕ → ℕ → ℤ → ℤ → ℕ → Sweep
sweep done frame start end frames = record { done = done; frame = frame; start = start; end = end; frames = frames }

same_pair : (d d' f f' : ℕ) (a e : ℤ) (n : ℕ) (y y' : ℤ) → d ≡ d' → f ≡ f' → y ≡ y' → ◌≡◌ {A = Sweep × ℤ} (sweep d f a e n, y) (sweep d' f' a e n, y')
same_pair d d' f f' a e n y y' p q r = cc

pub swept_on : (d f n : ℕ) (a e : ℤ) → f < n → ◌≡◌ {A = Sweep × ℤ} (swept (sweep d f a e n)) (sweep d (f + 1) a e n, line_at a e f n)
swept_on d f n a e lt =
    let on : Sweep × ℤ = (sweep d (f + 1) a e n, line_at a e f n) in
    let off : Sweep × ℤ = (sweep (ended d) (max f 1) a e n, e) in
    ap (λ c. cond c on off) (lt-ltb f n lt)

pub swept_off : (d f n : ℕ) (a e : ℤ) → n ≤ f → ◌≡◌ {A = Sweep × ℤ} (swept (sweep d f a e n)) (sweep (ended d) (max f 1) a e n, e)
swept_off d f n a e le =
    let on : Sweep × ℤ = (sweep d (f + 1) a e n, line_at a e f n) in
    let off : Sweep × ℤ = (sweep (ended d) (max f 1) a e n, e) in
    ap (λ c. cond c on off) (le-ltb f n le)

ended_once : (b : Bool) → ended (cond b 1 0) ≡ 1
ended_once true = refl
ended_once false = refl

-- 1 if m is past n, by the test
past : (n m : ℕ) → n < m → ◌≡◌ {A = ℕ} (cond (ltb n m) 1 0) 1
past n m lt = ap (λ c. let x : ℕ = cond c 1 0 in x) (lt-ltb n m lt)

not_past : (n m : ℕ) → m ≤ n → ◌≡◌ {A = ℕ} (cond (ltb n m) 1 0) 0
not_past n m le = ap (λ c. let x : ℕ = cond c 1 0 in x) (le-ltb n m le)

on_line : (a e : ℤ) (n t : ℕ) → t < n → line_sample a e n t ≡ line_at a e t n
on_line a e n t lt = ap (λ c. cond c (line_at a e t n) e) (lt-ltb t n lt)

at_end : (a e : ℤ) (n t : ℕ) → n ≤ t → line_sample a e n t ≡ e
at_end a e n t le = ap (λ c. cond c (line_at a e t n) e) (le-ltb t n le)

-- ---- the state before a frame of the run

abbrev reached : ℕ → ℤ → ℤ → ℕ → Sweep
reached n a e zero = sweep 0 0 (pos 0) (pos 0) 0
reached n a e (suc t) = sweep (cond (ltb n (suc t)) 1 0) (max 1 (min (suc t) n)) a e n

first : (n : ℕ) (a e : ℤ) → ◌≡◌ {A = Sweep × ℤ} (swept (sweep 0 0 a e n)) (reached n a e 1, line_sample a e n 0)
first n a e = ⊎_elim
    (λ (lt : 0 < n). swept_on 0 0 n a e lt ∙ same_pair 0 (cond (ltb n 1) 1 0) (0 + 1) (max 1 (min 1 n)) a e n (line_at a e 0 n) (line_sample a e n 0) (sym (not_past n 1 (omega (arith, lt)))) (omega (arith, lt)) (sym (on_line a e n 0 lt)))
    (λ (le : n ≤ 0). swept_off 0 0 n a e le ∙ same_pair (ended 0) (cond (ltb n 1) 1 0) (max 0 1) (max 1 (min 1 n)) a e n e (line_sample a e n 0) (sym (past n 1 (omega (arith, le)))) (omega (arith, le)) (sym (at_end a e n 0 le)))
    (cases_lt 0 n)

begins : (rate : ℕ) (ins : List (List ℤ)) (k n : ℕ) (a e : ℤ) → sample ins 0 k ≡ a → sample ins 1 k ≡ e → frames_of (sample ins 2 k) rate ≡ n
    → ◌≡◌ {A = Sweep × ℤ} (line rate (reached n a e 0) ins k) (reached n a e 1, line_sample a e n 0)
begins rate ins k n a e p q r =
    ap (λ a. swept (sweep 0 0 a (sample ins 1 k) (frames_of (sample ins 2 k) rate))) p
    ∙ (ap (λ e. swept (sweep 0 0 a e (frames_of (sample ins 2 k) rate))) q ∙ (ap (λ n. swept (sweep 0 0 a e n)) r ∙ first n a e))

goes_on : (n t : ℕ) (a e : ℤ) → ◌≡◌ {A = Sweep × ℤ} (swept (reached n a e (suc t))) (reached n a e (suc (suc t)), line_sample a e n (suc t))
goes_on n t a e =
    let d : ℕ = cond (ltb n (suc t)) 1 0 in
    let d' : ℕ = cond (ltb n (suc (suc t))) 1 0 in
    let f : ℕ = max 1 (min (suc t) n) in
    let f' : ℕ = max 1 (min (suc (suc t)) n) in ⊎_elim
    (λ (lt : suc t < n).
    let is : f ≡ suc t = omega (arith, lt) in
    swept_on d f n a e (omega (arith, lt)) ∙ same_pair d d' (f + 1) f' a e n (line_at a e f n) (line_sample a e n (suc t))
    (not_past n (suc t) (omega (arith, lt)) ∙ sym (not_past n (suc (suc t)) (omega (arith, lt)))) (omega (arith, lt)) (ap (λ k. line_at a e k n) is ∙ sym (on_line a e n (suc t) lt)))
    (λ (le : n ≤ suc t).
    swept_off d f n a e (omega (arith, le)) ∙ same_pair (ended d) d' (max f 1) f' a e n e (line_sample a e n (suc t))
    (ended_once (ltb n (suc t)) ∙ sym (past n (suc (suc t)) (omega (arith, le)))) (omega (arith, le)) (sym (at_end a e n (suc t) le)))
    (cases_lt (suc t) n)

stays : (rate : ℕ) (ins : List (List ℤ)) (k n t : ℕ) (a e : ℤ) → ◌≡◌ {A = Sweep × ℤ} (line rate (reached n a e (suc t)) ins k) (reached n a e (suc (suc t)), line_sample a e n (suc t))
stays rate ins k n t a e =
    let anew : Sweep = sweep (cond (ltb n (suc t)) 1 0) 0 (sample ins 0 k) (sample ins 1 k) (frames_of (sample ins 2 k) rate) in
    let begun_before : begun rate (reached n a e (suc t)) ins k ≡ reached n a e (suc t) = ap (λ c. cond c anew (reached n a e (suc t))) (ne_eqb (max 1 (min (suc t) n)) 0 (omega arith)) in
    ap swept begun_before ∙ goes_on n t a e

-- ---- the words that hold it

same_sweep : (d f f' : ℕ) (a a' e e' : ℤ) (n n' : ℕ) → f ≡ f' → a ≡ a' → e ≡ e' → n ≡ n' → sweep d f a e n ≡ sweep d f' a' e' n'
same_sweep d f f' a a' e e' n n' p q r s = cc

stored : (n t : ℕ) (a e : ℤ) → n < 4294967296 → FitsSigned w32 a → FitsSigned w32 e → sweep_in (sweep_words (reached n a e (suc t))) ≡ reached n a e (suc t)
stored n t a e few fits fits' =
    let f : ℕ = max 1 (min (suc t) n) in
    let low : f < 4294967296 = omega (arith, few) in
    same_sweep (cond (ltb n (suc t)) 1 0) (f % 4294967296) f (sample_in (word_for a)) a (sample_in (word_for e)) e (n % 4294967296) n (mod-eq_of_lt low) (sample_in-word_for a fits) (sample_in-word_for e fits') (mod-eq_of_lt few)

at_most : (n : ℕ) → min 2147483647 n < 4294967296
at_most n = omega arith

few_frames : (ms : ℤ) (rate : ℕ) → frames_of ms rate < 4294967296
unfolding frames_of
few_frames (pos ms) rate = at_most (ms * rate / 1000)
few_frames (negsuc ms) rate = omega arith

-- ---- a run

abbrev state_at : ℕ → (ℕ → List (List ℤ)) → ℕ → Sweep
state_at rate run t = reached (span rate run) (heard run 0 0) (heard run 1 0) t

abbrev output_at : ℕ → (ℕ → List (List ℤ)) → ℕ → ℤ
output_at rate run t = line_sample (heard run 0 0) (heard run 1 0) (span rate run) t

step_at : (rate : ℕ) (run : ℕ → List (List ℤ)) (t b j : ℕ) → t ≡ b * 64 + j → j < 64 → ◌≡◌ {A = Sweep × ℤ} (line rate (state_at rate run t) (run b) j) (state_at rate run (suc t), output_at rate run t)
step_at rate run zero b j is lt =
    let there : (i : ℕ) → sample (run b) i j ≡ heard run i 0 = λ i. sym (heard_at run i b j lt) ∙ ap (heard run i) (sym is) in
    begins rate (run b) j (span rate run) (heard run 0 0) (heard run 1 0) (there 0) (there 1) (ap (λ ms. frames_of ms rate) (there 2))
step_at rate run (suc t) b j is lt = stays rate (run b) j (span rate run) t (heard run 0 0) (heard run 1 0)

step_on : (rate : ℕ) (run : ℕ → List (List ℤ)) (b j : ℕ) → j < 64 → ◌≡◌ {A = Sweep × ℤ} (line rate (state_at rate run (b * 64 + j)) (run b) j) (state_at rate run (b * 64 + suc j), output_at rate run (b * 64 + j))
step_on rate run b j lt =
    let next : suc (b * 64 + j) ≡ b * 64 + suc j = omega arith in
    step_at rate run (b * 64 + j) b j refl lt ∙ ap (λ (t : ℕ). let r : Sweep × ℤ = (state_at rate run t, output_at rate run (b * 64 + j)) in r) next

on_block : (rate : ℕ) (run : ℕ → List (List ℤ)) (b : ℕ) → ◌≡◌ {A = Sweep × List ℤ} (scan (line rate) (state_at rate run (b * 64)) (run b) 64) (state_at rate run (b * 64 + 64), table (λ j. output_at rate run (b * 64 + j)) 64)
on_block rate run b =
    let here : b * 64 ≡ b * 64 + 0 = omega arith in
    ap (λ (t : ℕ). scan (line rate) (state_at rate run t) (run b) 64) here
    ∙ follows (line rate) (λ j. state_at rate run (b * 64 + j)) (λ j. output_at rate run (b * 64 + j)) (run b) 64 (λ j lt. step_on rate run b j lt)

loads : (rate : ℕ) (run : ℕ → List (List ℤ)) → BeginsWithSamples run → (b : ℕ) → sweep_in (words_before (line_unit rate) 5 run b) ≡ state_at rate run (b * 64)
unfolding words_before
loads rate run begins zero = refl
loads rate run begins (suc b) =
    let n : ℕ = span rate run in
    let more : b * 64 + 64 ≡ suc (b * 64 + 63) = omega arith in
    let next : suc (b * 64 + 63) ≡ suc b * 64 = omega arith in
    ap (λ s. sweep_in (sweep_words (scan (line rate) s (run b) 64).0)) (loads rate run begins b)
    ∙ (ap (λ (r : Sweep × List ℤ). sweep_in (sweep_words r.0)) (on_block rate run b)
    ∙ (ap (λ t. sweep_in (sweep_words (state_at rate run t))) more
    ∙ (stored n (b * 64 + 63) (heard run 0 0) (heard run 1 0) (few_frames (heard run 2 0) rate) begins.start begins.end
    ∙ ap (state_at rate run) next)))

done_at : (n : ℕ) (a e : ℤ) (t : ℕ) → (reached n a e t).done ≡ cond (ltb n t) 1 0
done_at n a e zero = sym (not_past n 0 (omega arith))
done_at n a e (suc t) = refl

pub straight : (rate : ℕ) (run : ℕ → List (List ℤ)) → BeginsWithSamples run → IsStraight rate run
straight rate run begins = record {
  gives = λ t.
      let b : ℕ = t / 64 in
      let k : ℕ = t % 64 in
      ap (λ s. get_or (scan (line rate) s (run b) 64).1 k (pos 0)) (loads rate run begins b)
      ∙ (ap (λ (r : Sweep × List ℤ). get_or r.1 k (pos 0)) (on_block rate run b)
      ∙ (table_at (λ j. output_at rate run (b * 64 + j)) 64 k (pos 0) (mod_below t 64 (omega arith)) ∙ ap (output_at rate run) (at_frame t)));
  ends = λ b. ap (λ (s : Sweep). s.done) (loads rate run begins b) ∙ done_at (span rate run) (heard run 0 0) (heard run 1 0) (b * 64);
}
