-- Delay lines over whole runs.
use Rattle.std.proofs.Common.{◌≡◌, ◌≢◌, ◌<◌, ℕ, zero, suc, ◌+◌, ◌*◌, ◌/◌, ◌%◌, ◌==◌, max, List, ℤ, pos, negsuc, ◌+ℤ◌, ◌*ℤ◌, ◌≤ℤ◌, cond, length, get_or, replicate, ap, sym, ◌∙◌, ⊎_elim, arith, subst, FitsSigned}
use Rattle.std.specs.Int.{w32}
use Rattle.std.proofs.lemmas.Int.{ints, clamps}
use Rattle.std.proofs.lemmas.Nat.{mod_below}
use Rattle.std.proofs.lemmas.Bool.{cases_eq, eq-eqb, ne_eqb}
use Rattle.sn_fixed.specs.Fixed.{floor, sat}
use Rattle.sn_mem.specs.Blocks.{sample}
use Rattle.sn_filt.specs.Rings.{ringed, delay_reach, delay_step, delay_n, comb_reach, comb_step, comb_n}
use Rattle.sn_def.specs.Histories.{heard, words_before, given}
use Rattle.sn_def.proofs.Frames.{block_of, frame_of, at_frame, heard_at}
use Rattle.sn_filt.specs.Histories.{ago, HasMost, HasSamples, IsInputAgo, fed_back, IsKeptAgo}
use Rattle.sn_filt.proofs.Remembering.{Holds, holds_at_first, old_at, begun, state_on, reads_ago, output_at, ago_none}

-- ---- DelayN

ring_of_delay : (rate most : ℕ) (run : ℕ → List (List ℤ)) → HasMost rate most run → (b : ℕ) (ws : List ℕ) → delay_n rate ws (run b) ≡ ringed (delay_reach rate most) (delay_step rate most) ws (run b)
ring_of_delay rate most run same b ws = ap (λ most. ringed (delay_reach rate most) (delay_step rate most) ws (run b)) (same b)

holds_inputs : (rate most : ℕ) (run : ℕ → List (List ℤ)) → HasMost rate most run → HasSamples run → (b : ℕ)
    → (let ws = words_before (delay_n rate) (most + 2) run b in Holds (most + 1) (heard run 0) (b * 64) (get_or ws 0 0 % (most + 1)) ws)
unfolding words_before
holds_inputs rate most run same fits zero =
    let size : most + 2 ≡ most + 1 + 1 = omega arith in
    holds_at_first (most + 1) (heard run 0) (replicate (most + 2) 0) (omega arith) (ap (λ n. replicate n 0) size)
holds_inputs rate most run same fits (suc b) =
    let ws : List ℕ = words_before (delay_n rate) (most + 2) run b in
    let vs : List ℕ = (delay_n rate ws (run b)).0 in
    let P : ℕ → Type 0 = λ t. Holds (most + 1) (heard run 0) t (get_or vs 0 0 % (most + 1)) vs in
    subst P (omega arith) (state_on (delay_reach rate most) (delay_step rate most) (most + 1) (heard run 0) (b * 64) ws vs (run b)
    (holds_inputs rate most run same fits b) (λ j. fits (b * 64 + j)) (λ j lt. sym (heard_at run 0 b j lt)) (ap (λ (r : List ℕ × List ℤ). r.0) (ring_of_delay rate most run same b ws)))

pub input_ago : (rate most : ℕ) (run : ℕ → List (List ℤ)) → HasMost rate most run → HasSamples run → IsInputAgo rate most run
input_ago rate most run same fits t =
    let b : ℕ = t / 64 in
    let k : ℕ = t % 64 in
    let ws : List ℕ = words_before (delay_n rate) (most + 2) run b in
    let reach : List (List ℤ) → ℕ → ℕ = delay_reach rate most in
    let step : ℤ → List (List ℤ) → ℕ → ℤ × ℤ = delay_step rate most in
    let n : ℕ = reach (run b) k in
    let lt : k < 64 = mod_below t 64 (omega arith) in
    let h : Holds (most + 1) (heard run 0) (b * 64) (get_or ws 0 0 % (most + 1)) ws = holds_inputs rate most run same fits b in
    let old : ℤ = old_at reach step (most + 1) (begun (most + 1) ws) (run b) k in
    let out : given (delay_n rate) (most + 2) run t ≡ cond (n == 0) (sample (run b) 0 k) old =
    ap (λ (r : List ℕ × List ℤ). get_or r.1 k (pos 0)) (ring_of_delay rate most run same b ws) ∙ output_at reach step (most + 1) ws (run b) k lt h.long in
    let is : cond (n == 0) (sample (run b) 0 k) old ≡ ago (heard run 0) n (b * 64 + k) = ⊎_elim
    (λ (e : n ≡ 0). ap (λ c. cond c (sample (run b) 0 k) old) (eq-eqb n 0 e) ∙ (sym (heard_at run 0 b k lt) ∙ (sym (ago_none (heard run 0) (b * 64 + k)) ∙ ap (λ n. ago (heard run 0) n (b * 64 + k)) (sym e))))
    (λ (ne : n ≢ 0). ap (λ c. cond c (sample (run b) 0 k) old) (ne_eqb n 0 ne)
    ∙ reads_ago reach step (most + 1) (heard run 0) (b * 64) ws (run b) k h (λ j. fits (b * 64 + j)) (λ j low. sym (heard_at run 0 b j low)) lt (omega (arith, ne)) (omega arith))
    (cases_eq n 0) in
    out ∙ (is ∙ ap (ago (heard run 0) n) (at_frame t))

-- ---- CombN

between : (y : ℤ) → y ≤ℤ pos 2147483647 → negsuc 2147483647 ≤ℤ y → FitsSigned w32 y
between (pos n) high low = record { sfits = omega (arith, ints) }
between (negsuc n) high low = record { sfits = omega (arith, ints) }

sat_fits : (z : ℤ) → FitsSigned w32 (sat z)
unfolding sat
sat_fits z = between (sat z) (omega (arith, ints, clamps)) (omega (arith, ints, clamps))

either_way : (x y : ℤ) → y +ℤ x ≡ x +ℤ y
either_way x y = omega (arith, ints)

abbrev comb_room : ℕ → ℕ
comb_room most = max 1 most + 1

ring_of_comb : (rate most : ℕ) (run : ℕ → List (List ℤ)) → HasMost rate most run → (b : ℕ) (ws : List ℕ) → comb_n rate ws (run b) ≡ ringed (comb_reach rate (max 1 most)) comb_step ws (run b)
ring_of_comb rate most run same b ws = ap (λ most. ringed (comb_reach rate (max 1 most)) comb_step ws (run b)) (same b)

abbrev comb_out : ℕ → ℕ → (ℕ → List (List ℤ)) → ℕ → ℤ
comb_out rate most run = given (comb_n rate) (max 1 most + 2) run

-- the output at a frame is what is read there
comb_reads : (rate most : ℕ) (run : ℕ → List (List ℤ)) → HasMost rate most run → (b j : ℕ) → j < 64
    → (let ws = words_before (comb_n rate) (max 1 most + 2) run b in length ws ≡ comb_room most + 1
    → comb_out rate most run (b * 64 + j) ≡ old_at (comb_reach rate (max 1 most)) comb_step (comb_room most) (begun (comb_room most) ws) (run b) j)
comb_reads rate most run same b j lt long =
    let W : ℕ → List ℕ = words_before (comb_n rate) (max 1 most + 2) run in
    ap (λ n. get_or (comb_n rate (W n) (run n)).1 ((b * 64 + j) % 64) (pos 0)) (block_of b j lt)
    ∙ (ap (λ n. get_or (comb_n rate (W b) (run b)).1 n (pos 0)) (frame_of b j lt)
    ∙ (ap (λ (r : List ℕ × List ℤ). get_or r.1 j (pos 0)) (ring_of_comb rate most run same b (W b))
    ∙ output_at (comb_reach rate (max 1 most)) comb_step (comb_room most) (W b) (run b) j lt long))

comb_keeps : (rate most : ℕ) (run : ℕ → List (List ℤ)) → HasMost rate most run → (b j : ℕ) → j < 64
    → (let ws = words_before (comb_n rate) (max 1 most + 2) run b in length ws ≡ comb_room most + 1
    → (comb_step (old_at (comb_reach rate (max 1 most)) comb_step (comb_room most) (begun (comb_room most) ws) (run b) j) (run b) j).0 ≡ fed_back run (comb_out rate most run) (b * 64 + j))
comb_keeps rate most run same b j lt long =
    let ws : List ℕ = words_before (comb_n rate) (max 1 most + 2) run b in
    let old : ℤ = old_at (comb_reach rate (max 1 most)) comb_step (comb_room most) (begun (comb_room most) ws) (run b) j in
    ap sat (either_way (sample (run b) 0 j) (floor (sample (run b) 3 j *ℤ old) 16777216))
    ∙ (ap (λ (x : ℤ). sat (x +ℤ floor (sample (run b) 3 j *ℤ old) 16777216)) (sym (heard_at run 0 b j lt))
    ∙ (ap (λ (c : ℤ). sat (heard run 0 (b * 64 + j) +ℤ floor (c *ℤ old) 16777216)) (sym (heard_at run 3 b j lt))
    ∙ ap (λ (y : ℤ). sat (heard run 0 (b * 64 + j) +ℤ floor (heard run 3 (b * 64 + j) *ℤ y) 16777216)) (sym (comb_reads rate most run same b j lt long))))

holds_kept : (rate most : ℕ) (run : ℕ → List (List ℤ)) → HasMost rate most run → (b : ℕ)
    → (let ws = words_before (comb_n rate) (max 1 most + 2) run b in Holds (comb_room most) (fed_back run (comb_out rate most run)) (b * 64) (get_or ws 0 0 % comb_room most) ws)
unfolding words_before
holds_kept rate most run same zero =
    let size : max 1 most + 2 ≡ comb_room most + 1 = omega arith in
    holds_at_first (comb_room most) (fed_back run (comb_out rate most run)) (replicate (max 1 most + 2) 0) (omega arith) (ap (λ n. replicate n 0) size)
holds_kept rate most run same (suc b) =
    let ws : List ℕ = words_before (comb_n rate) (max 1 most + 2) run b in
    let vs : List ℕ = (comb_n rate ws (run b)).0 in
    let f : ℕ → ℤ = fed_back run (comb_out rate most run) in
    let h : Holds (comb_room most) f (b * 64) (get_or ws 0 0 % comb_room most) ws = holds_kept rate most run same b in
    let P : ℕ → Type 0 = λ t. Holds (comb_room most) f t (get_or vs 0 0 % comb_room most) vs in
    subst P (omega arith) (state_on (comb_reach rate (max 1 most)) comb_step (comb_room most) f (b * 64) ws vs (run b)
    h (λ j. sat_fits (heard run 0 (b * 64 + j) +ℤ floor (heard run 3 (b * 64 + j) *ℤ comb_out rate most run (b * 64 + j)) 16777216)) (λ j lt. comb_keeps rate most run same b j lt h.long)
    (ap (λ (r : List ℕ × List ℤ). r.0) (ring_of_comb rate most run same b ws)))

pub kept_ago : (rate most : ℕ) (run : ℕ → List (List ℤ)) → HasMost rate most run → IsKeptAgo rate most run
kept_ago rate most run same t =
    let b : ℕ = t / 64 in
    let k : ℕ = t % 64 in
    let ws : List ℕ = words_before (comb_n rate) (max 1 most + 2) run b in
    let reach : List (List ℤ) → ℕ → ℕ = comb_reach rate (max 1 most) in
    let f : ℕ → ℤ = fed_back run (comb_out rate most run) in
    let n : ℕ = reach (run b) k in
    let lt : k < 64 = mod_below t 64 (omega arith) in
    let h : Holds (comb_room most) f (b * 64) (get_or ws 0 0 % comb_room most) ws = holds_kept rate most run same b in
    let out : comb_out rate most run t ≡ old_at reach comb_step (comb_room most) (begun (comb_room most) ws) (run b) k =
    ap (λ (r : List ℕ × List ℤ). get_or r.1 k (pos 0)) (ring_of_comb rate most run same b ws) ∙ output_at reach comb_step (comb_room most) ws (run b) k lt h.long in
    let is : old_at reach comb_step (comb_room most) (begun (comb_room most) ws) (run b) k ≡ ago f n (b * 64 + k) =
    reads_ago reach comb_step (comb_room most) f (b * 64) ws (run b) k h (λ j. sat_fits (heard run 0 (b * 64 + j) +ℤ floor (heard run 3 (b * 64 + j) *ℤ comb_out rate most run (b * 64 + j)) 16777216))
    (λ j low. comb_keeps rate most run same b j low h.long) lt (omega arith) (omega arith) in
    out ∙ (is ∙ ap (ago f n) (at_frame t))
