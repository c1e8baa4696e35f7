-- DelayL over whole runs.
use Rattle.std.proofs.Common.{◌≡◌, ◌≤◌, ◌<◌, ◌⊎◌, inl, inr, ℕ, zero, suc, ◌+◌, ◌-◌, ◌*◌, ◌/◌, ◌%◌, List, ℤ, pos, ◌+ℤ◌, ◌-ℤ◌, ◌*ℤ◌, length, get_or, set, replicate, refl, ap, sym, ◌∙◌, ⊎_elim, arith, subst, FitsSigned}
use Rattle.std.specs.Int.{w32}
use Rattle.std.proofs.lemmas.Int.{ints}
use Rattle.std.proofs.lemmas.Nat.{mod_below}
use Rattle.std.proofs.lemmas.Bool.{cases_lt}
use Rattle.std.proofs.lemmas.Bool.Decides.{nat_tests}
use Rattle.sn_fixed.specs.Fixed.{floor}
use Rattle.sn_fixed.specs.Lines.{line_at}
use Rattle.sn_mem.specs.Blocks.{scan, sample, sample_in, word_for}
use Rattle.sn_def.specs.Histories.{heard, words_before}
use Rattle.sn_def.proofs.Frames.{at_frame, heard_at}
use Rattle.sn_filt.specs.Rings.{before, after}
use Rattle.sn_filt.specs.Seconds.{whole_frames, frame_part}
use Rattle.sn_filt.specs.Lines.{past, between, echo, line_reach, delay_l_step, delay_ring, delay_l}
use Rattle.sn_filt.specs.Histories.{ago, HasMost, HasSamples, IsInputBetween}
use Rattle.sn_filt.proofs.Remembering.{Holds, holds_at_first, past_more, holds_more, ago_later, scan_at, stored_place, begun}

-- ---- reaches

-- the same place of a ring, before its next place is taken and after that
before_taken : (places place n : ℕ) → place < places → n < places → before places place n ≡ before places (after places place) (n + 1)
before_taken places place n low few = grind (arith, nat_tests)

whole_low : (p most : ℕ) → p ≤ most * 16777216 → whole_frames p ≤ most
whole_low p most le = omega (arith, le)

part_low : (p most : ℕ) → p ≤ most * 16777216 → (frame_part p ≡ 0) ⊎ (whole_frames p + 1 ≤ most)
part_low p most le = ⊎_elim
    (λ (few : p + 65536 - whole_frames p * 16777216 < 131072). inl (grind (arith, nat_tests, few)))
    (λ (more : 131072 ≤ p + 65536 - whole_frames p * 16777216). inr (omega (arith, le, more)))
    (cases_lt (p + 65536 - whole_frames p * 16777216) 131072)

times_none : (z : ℤ) → z *ℤ pos 0 ≡ pos 0
times_none z = omega (arith, ints)

plus_none : (z : ℤ) → z +ℤ pos 0 ≡ z
plus_none z = omega (arith, ints)

-- with no part of a frame the earlier sample has no weight
no_part : (a b : ℤ) → between a b 0 ≡ a
unfolding line_at
no_part a b =
    let none : floor (pos 0) 16777216 ≡ pos 0 = refl in
    ap (λ (z : ℤ). a +ℤ floor z 16777216) (times_none (b -ℤ a)) ∙ (ap (λ (z : ℤ). a +ℤ z) none ∙ plus_none a)

between_same : (a b c : ℤ) (part : ℕ) → (part ≡ 0) ⊎ (b ≡ c) → between a b part ≡ between a c part
between_same a b c part h = ⊎_elim
    (λ (e : part ≡ 0). ap (between a b) e ∙ (no_part a b ∙ (sym (no_part a c) ∙ ap (between a c) (sym e))))
    (λ (e : b ≡ c). ap (λ (b : ℤ). between a b part) e)
    h

-- ---- frames

past_ago : (places : ℕ) (f : ℕ → ℤ) (t place n : ℕ) (ws : List ℕ) (v : ℤ) → Holds places f t place ws → FitsSigned w32 v → v ≡ f t → n < places → past 1 places place (set ws (1 + place) (word_for v)) n ≡ ago f n t
past_ago places f t place n ws v h fits e few =
    ap (λ i. sample_in (get_or (set ws (1 + place) (word_for v)) (1 + i) 0)) (before_taken places place n h.low few)
    ∙ (past_more places f t place ws v h fits e (n + 1) (omega arith) (omega (arith, few)) ∙ ago_later f n t)

echo_ago : (most : ℕ) (f : ℕ → ℤ) (t place reach : ℕ) (ws : List ℕ) (v : ℤ) → Holds (most + 1) f t place ws → FitsSigned w32 v → v ≡ f t → reach ≤ most * 16777216
    → echo 1 (most + 1) place (set ws (1 + place) (word_for v)) reach ≡ between (ago f (whole_frames reach) t) (ago f (whole_frames reach + 1) t) (frame_part reach)
unfolding echo
echo_ago most f t place reach ws v h fits e le =
    let n : ℕ = whole_frames reach in
    let us : List ℕ = set ws (1 + place) (word_for v) in
    let low : n ≤ most = whole_low reach most le in
    let b : ℤ = past 1 (most + 1) place us (n + 1) in
    ap (λ (a : ℤ). between a b (frame_part reach)) (past_ago (most + 1) f t place n ws v h fits e (omega (arith, low)))
    ∙ between_same (ago f n t) b (ago f (n + 1) t) (frame_part reach) (⊎_elim
    (λ (none : frame_part reach ≡ 0). inl none)
    (λ (some : n + 1 ≤ most). inr (past_ago (most + 1) f t place (n + 1) ws v h fits e (omega (arith, some))))
    (part_low reach most le))

holds_on : (rate most : ℕ) (f : ℕ → ℤ) (t : ℕ) (s : ℕ × List ℕ) (ins : List (List ℤ)) (k : ℕ) → Holds (most + 1) f t s.0 s.1 → ((j : ℕ) → FitsSigned w32 (f (t + j))) → ((j : ℕ) → j < k → sample ins 0 j ≡ f (t + j))
    → (let r = scan (delay_l_step rate most (most + 1)) s ins k in Holds (most + 1) f (t + k) r.0.0 r.0.1)
unfolding scan delay_l_step
holds_on rate most f t s ins zero h fits kept = let P : ℕ → Type 0 = λ t. Holds (most + 1) f t s.0 s.1 in subst P (omega arith) h
holds_on rate most f t s ins (suc k) h fits kept =
    let r : (ℕ × List ℕ) × List ℤ = scan (delay_l_step rate most (most + 1)) s ins k in
    let v : ℤ = sample ins 0 k in
    let e : v ≡ f (t + k) = kept k (omega arith) in
    let F : ℤ → Type 0 = λ v. FitsSigned w32 v in
    let P : ℕ → Type 0 = λ t. Holds (most + 1) f t (after (most + 1) r.0.0) (set r.0.1 (1 + r.0.0) (word_for v)) in
    subst P (omega arith) (holds_more (most + 1) f (t + k) r.0.0 r.0.1 v (holds_on rate most f t s ins k h fits (λ j lt. kept j (omega (arith, lt)))) (subst F (sym e) (fits k)) e)

step_output : (rate most : ℕ) (s : ℕ × List ℕ) (ins : List (List ℤ)) (k : ℕ) → (delay_l_step rate most (most + 1) s ins k).1 ≡ echo 1 (most + 1) s.0 (set s.1 (1 + s.0) (word_for (sample ins 0 k))) (line_reach rate most ins k)
unfolding delay_l_step
step_output rate most s ins k = refl

-- ---- blocks

state_on : (rate most : ℕ) (f : ℕ → ℤ) (t : ℕ) (ws vs : List ℕ) (ins : List (List ℤ)) → Holds (most + 1) f t (get_or ws 0 0 % (most + 1)) ws → ((j : ℕ) → FitsSigned w32 (f (t + j))) → ((j : ℕ) → j < 64 → sample ins 0 j ≡ f (t + j))
    → vs ≡ (delay_ring rate most ws ins).0 → Holds (most + 1) f (t + 64) (get_or vs 0 0 % (most + 1)) vs
state_on rate most f t ws vs ins h fits kept e =
    let size : length ws - 1 ≡ most + 1 = omega (arith, h.long) in
    let R : ℕ → (ℕ × List ℕ) × List ℤ = λ places. scan (delay_l_step rate most places) (begun places ws) ins 64 in
    let is : vs ≡ set (R (most + 1)).0.1 0 (R (most + 1)).0.0 = e ∙ ap (λ n. set (R n).0.1 0 (R n).0.0) size in
    let P : List ℕ → Type 0 = λ vs. Holds (most + 1) f (t + 64) (get_or vs 0 0 % (most + 1)) vs in
    subst P (sym is) (stored_place (most + 1) f (t + 64) (R (most + 1)).0.0 (R (most + 1)).0.1 (holds_on rate most f t (begun (most + 1) ws) ins 64 h fits kept))

output_at : (rate most : ℕ) (f : ℕ → ℤ) (t : ℕ) (ws : List ℕ) (ins : List (List ℤ)) (k : ℕ) → k < 64 → Holds (most + 1) f t (get_or ws 0 0 % (most + 1)) ws → ((j : ℕ) → FitsSigned w32 (f (t + j))) → ((j : ℕ) → j < 64 → sample ins 0 j ≡ f (t + j))
    → (let reach = line_reach rate most ins k in get_or (delay_ring rate most ws ins).1 k (pos 0) ≡ between (ago f (whole_frames reach) (t + k)) (ago f (whole_frames reach + 1) (t + k)) (frame_part reach))
output_at rate most f t ws ins k lt h fits kept =
    let size : length ws - 1 ≡ most + 1 = omega (arith, h.long) in
    let r : (ℕ × List ℕ) × List ℤ = scan (delay_l_step rate most (most + 1)) (begun (most + 1) ws) ins k in
    let now : Holds (most + 1) f (t + k) r.0.0 r.0.1 = holds_on rate most f t (begun (most + 1) ws) ins k h fits (λ j low. kept j (omega (arith, low, lt))) in
    let e : sample ins 0 k ≡ f (t + k) = kept k lt in
    let F : ℤ → Type 0 = λ v. FitsSigned w32 v in
    ap (λ n. get_or (scan (delay_l_step rate most n) (begun n ws) ins 64).1 k (pos 0)) size
    ∙ (scan_at (delay_l_step rate most (most + 1)) (begun (most + 1) ws) ins 64 k lt
    ∙ (step_output rate most r.0 ins k ∙ echo_ago most f (t + k) r.0.0 (line_reach rate most ins k) r.0.1 (sample ins 0 k) now (subst F (sym e) (fits k)) e (omega arith)))

-- ---- runs

ring_of_delay : (rate most : ℕ) (run : ℕ → List (List ℤ)) → HasMost rate most run → (b : ℕ) (ws : List ℕ) → delay_l rate ws (run b) ≡ delay_ring rate most ws (run b)
ring_of_delay rate most run same b ws = ap (λ most. delay_ring rate most ws (run b)) (same b)

holds_inputs : (rate most : ℕ) (run : ℕ → List (List ℤ)) → HasMost rate most run → HasSamples run → (b : ℕ)
    → (let ws = words_before (delay_l rate) (most + 2) run b in Holds (most + 1) (heard run 0) (b * 64) (get_or ws 0 0 % (most + 1)) ws)
unfolding words_before
holds_inputs rate most run same fits zero =
    let size : most + 2 ≡ most + 1 + 1 = omega arith in
    holds_at_first (most + 1) (heard run 0) (replicate (most + 2) 0) (omega arith) (ap (λ n. replicate n 0) size)
holds_inputs rate most run same fits (suc b) =
    let ws : List ℕ = words_before (delay_l rate) (most + 2) run b in
    let vs : List ℕ = (delay_l rate ws (run b)).0 in
    let P : ℕ → Type 0 = λ t. Holds (most + 1) (heard run 0) t (get_or vs 0 0 % (most + 1)) vs in
    subst P (omega arith) (state_on rate most (heard run 0) (b * 64) ws vs (run b)
    (holds_inputs rate most run same fits b) (λ j. fits (b * 64 + j)) (λ j lt. sym (heard_at run 0 b j lt)) (ap (λ (r : List ℕ × List ℤ). r.0) (ring_of_delay rate most run same b ws)))

pub input_between : (rate most : ℕ) (run : ℕ → List (List ℤ)) → HasMost rate most run → HasSamples run → IsInputBetween rate most run
input_between rate most run same fits t =
    let b : ℕ = t / 64 in
    let k : ℕ = t % 64 in
    let ws : List ℕ = words_before (delay_l rate) (most + 2) run b in
    let reach : ℕ = line_reach rate most (run b) k in
    let lt : k < 64 = mod_below t 64 (omega arith) in
    let f : ℕ → ℤ = heard run 0 in
    ap (λ (r : List ℕ × List ℤ). get_or r.1 k (pos 0)) (ring_of_delay rate most run same b ws)
    ∙ (output_at rate most f (b * 64) ws (run b) k lt (holds_inputs rate most run same fits b) (λ j. fits (b * 64 + j)) (λ j low. sym (heard_at run 0 b j low))
    ∙ ap (λ t. between (ago f (whole_frames reach) t) (ago f (whole_frames reach + 1) t) (frame_part reach)) (at_frame t))
