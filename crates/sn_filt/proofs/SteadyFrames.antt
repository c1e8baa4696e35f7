-- Blocks whose frames are all as the first one.
use Rattle.std.proofs.Common.{◌≡◌, ◌<◌, ◌≤◌, ℕ, zero, suc, ◌+◌, List, [], ◌∷◌, ◌++◌, ℤ, pos, length, get_or, replicate, refl, sym, ap, ◌∙◌, arith, ⊎_elim}
use Rattle.std.proofs.lemmas.Bool.{cases_lt}
use Rattle.std.proofs.lemmas.List.{get_or_past, replicate_more}
use Rattle.std.proofs.lemmas.List.Elements.{All-get_or}
use Rattle.sn_mem.specs.Blocks.{block, table, IsSteady, AreSteady}
use Rattle.sn_filt.specs.Frames.{AreAsFirst}
use Rattle.sn_filt.specs.Powers.{logarithm_of, log2}
use Rattle.sn_filt.proofs.SteadyPoles.{weight_at}

pub as_first : (inputs : List (List ℤ)) (k : ℕ) → k < 64 → AreSteady inputs → AreAsFirst inputs k
as_first inputs k lt steady i = ⊎_elim
    (λ (inside : i < length inputs). All-get_or IsSteady inputs i [] inside steady k lt)
    (λ (past : length inputs ≤ i). none k past ∙ sym (none 0 past))
    (cases_lt i (length inputs))
  where
    none : (k : ℕ) → length inputs ≤ i → get_or (get_or inputs i []) k (pos 0) ≡ pos 0
    none k past = ap (λ (xs : List ℤ). get_or xs k (pos 0)) (get_or_past inputs i [] past) ∙ get_or_past [] k (pos 0) (omega arith)

pub steady_table : (f : ℕ → ℤ) (y : ℤ) (n : ℕ) → ((k : ℕ) → k < n → f k ≡ y) → table f n ≡ replicate n y
unfolding table
steady_table f y zero h = refl
steady_table f y (suc n) h =
    let next : n + 1 ≡ suc n = omega arith in
    ap (λ (ys : List ℤ). ys ++ f n ∷ []) (steady_table f y n (λ k lt. h k (omega (arith, lt))))
    ∙ (ap (λ (x : ℤ). replicate n y ++ x ∷ []) (h n (omega arith)) ∙ (replicate_more n y ∙ ap (λ m. replicate m y) next))

pub equal_logarithms : (inputs : List (List ℤ)) (x y : ℤ) → block inputs 0 ≡ replicate 64 x → y ≡ logarithm_of x → table (log2 inputs) 64 ≡ replicate 64 y
equal_logarithms inputs x y same is = steady_table (log2 inputs) y 64 (λ k lt. ap logarithm_of (weight_at x inputs 0 k lt same) ∙ sym is)
