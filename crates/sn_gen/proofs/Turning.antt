-- Oscillators whose inputs are steady through a block.
use Rattle.std.proofs.Common.{◌≡◌, ◌<◌, ℕ, zero, suc, ◌+◌, ◌%◌, List, ◌∷◌, [], ◌++◌, ℤ, pos, replicate, get_or, refl, ap, sym, ◌∙◌, arith}
use Rattle.std.proofs.lemmas.List.{get_or-replicate}
use Rattle.sn_fixed.specs.Fixed.{step_of}
use Rattle.sn_mem.specs.Blocks.{block, sample, scan}
use Rattle.sn_gen.specs.Phases.{moved, grown}
use Rattle.sn_gen.specs.Waves.{wave, IsSteady}
use Rattle.sn_gen.specs.declared.waves.Turn.{Turn}

-- recurrences whose steps are alike at each frame are alike
pub scan_alike : {S : Type 0} (f g : S → List (List ℤ) → ℕ → S × ℤ) (s : S) (ins ins' : List (List ℤ)) (n : ℕ)
    → ((t : S) (k : ℕ) → k < n → ◌≡◌ {A = S × ℤ} (f t ins k) (g t ins' k)) → ◌≡◌ {A = S × List ℤ} (scan f s ins n) (scan g s ins' n)
unfolding scan
scan_alike f g s ins ins' zero h = refl
scan_alike {S} f g s ins ins' (suc n) h =
    let before : ◌≡◌ {A = S × List ℤ} (scan f s ins n) (scan g s ins' n) = scan_alike f g s ins ins' n (λ t k lt. h t k (omega (arith, lt))) in
    let r : S × List ℤ = scan g s ins' n in
    ap (λ (r : S × List ℤ). ((f r.0 ins n).0, r.1 ++ (f r.0 ins n).1 ∷ [])) before
    ∙ ap (λ (q : S × ℤ). (q.0, r.1 ++ q.1 ∷ [])) (h r.0 n (omega arith))

-- a frame of an oscillator by its step and its offset
abbrev pub turned : (ℕ → ℤ) → Turn → ℕ → List (List ℤ) → ℕ → ℕ × ℤ
turned shape turn p inputs k = ((p + turn.step) % 4294967296, shape (moved p turn.offset))

pub turned_wave : (shape : ℕ → ℤ) (turn : Turn) (rate begin : ℕ) (inputs : List (List ℤ)) → IsSteady rate turn inputs
    → ◌≡◌ {A = ℕ × List ℤ} (scan (turned shape turn) begin [] 64) (scan (wave shape rate) begin inputs 64)
turned_wave shape turn rate begin inputs steady = scan_alike (turned shape turn) (wave shape rate) begin [] inputs 64 step
  where
    step : (p k : ℕ) → k < 64 → ◌≡◌ {A = ℕ × ℤ} (turned shape turn p [] k) (wave shape rate p inputs k)
    step p k lt =
        ap (λ (s : ℕ). let r : ℕ × ℤ = ((p + s) % 4294967296, shape (moved p turn.offset)) in r) (sym (steady.step k lt))
        ∙ ap (λ (x : ℤ). let r : ℕ × ℤ = (grown rate p (sample inputs 0 k), shape (moved p x)) in r) (sym (steady.offset k lt))

pub equal_at : (inputs : List (List ℤ)) (i k : ℕ) (x : ℤ) → block inputs i ≡ replicate 64 x → k < 64 → sample inputs i k ≡ x
equal_at inputs i k x e lt = ap (λ (xs : List ℤ). get_or xs k (pos 0)) e ∙ get_or-replicate 64 k x (pos 0) lt

pub steady_of : (rate : ℕ) (inputs : List (List ℤ)) (freq offset : ℤ) (turn : Turn) → block inputs 0 ≡ replicate 64 freq → block inputs 1 ≡ replicate 64 offset
    → turn.step ≡ step_of freq rate → turn.offset ≡ offset → IsSteady rate turn inputs
steady_of rate inputs freq offset turn same same' s o = record {
  step = λ k lt. ap (λ x. step_of x rate) (equal_at inputs 0 k freq same lt) ∙ sym s;
  offset = λ k lt. equal_at inputs 1 k offset same' lt ∙ sym o;
}
