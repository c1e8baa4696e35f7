-- Functions of the inputs' samples at a frame.
use Rattle.std.specs.Prelude.{◌≡◌, ℕ, List, ℤ}
use Rattle.std.proofs.Common.{ap, ◌∙◌}
use Rattle.sn_mem.specs.Blocks.{sample}

-- at a frame each input is as at the first one
abbrev pub AreAsFirst : List (List ℤ) → ℕ → Type 0
AreAsFirst inputs k = (i : ℕ) → sample inputs i k ≡ sample inputs i 0

-- what is made of them is as there, then
pub of_one : (f : ℤ → ℤ) (inputs : List (List ℤ)) (k : ℕ) → AreAsFirst inputs k → f (sample inputs 0 k) ≡ f (sample inputs 0 0)
of_one f inputs k h = ap f (h 0)

pub of_two : (f : ℤ → ℤ → ℤ) (inputs : List (List ℤ)) (k : ℕ) → AreAsFirst inputs k → f (sample inputs 0 k) (sample inputs 1 k) ≡ f (sample inputs 0 0) (sample inputs 1 0)
of_two f inputs k h = ap (λ (x : ℤ). f x (sample inputs 1 k)) (h 0) ∙ ap (λ (y : ℤ). f (sample inputs 0 0) y) (h 1)

pub of_three : (f : ℤ → ℤ → ℤ → ℤ) (inputs : List (List ℤ)) (k : ℕ) → AreAsFirst inputs k → f (sample inputs 0 k) (sample inputs 1 k) (sample inputs 2 k) ≡ f (sample inputs 0 0) (sample inputs 1 0) (sample inputs 2 0)
of_three f inputs k h = of_two (λ x y. f x y (sample inputs 2 k)) inputs k h ∙ ap (λ (z : ℤ). f (sample inputs 0 0) (sample inputs 1 0) z) (h 2)
