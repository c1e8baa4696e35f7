-- The words of a unit that ends, after its block was settled.
use Rattle.std.specs.Prelude.{◌≡◌, ℕ, ◌==◌, cond, List, [], ◌∷◌}

-- its done word, which is 1 from the end until then
abbrev pub settled_word : ℕ → ℕ
settled_word done = cond (done == 1) 2 done

-- its words, of which the done word is the first
abbrev pub settled_first : List ℕ → List ℕ
settled_first [] = []
settled_first (done ∷ words) = settled_word done ∷ words

-- A block does not see a settling before it: what it gives is the same, and so are the words that it leaves, after they
-- are settled.
pub record IsUnseen {A : Type 0} (run : List ℕ → List ℕ × A) : Type 0 where
  pub words : (ws : List ℕ) → settled_first (run (settled_first ws)).0 ≡ settled_first (run ws).0
  pub given : (ws : List ℕ) → (run (settled_first ws)).1 ≡ (run ws).1
