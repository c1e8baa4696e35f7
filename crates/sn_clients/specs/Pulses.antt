-- What a pulse gives of the numbers that it has left.
use Rattle.std.specs.Prelude.{◌≡◌, ◌⊎◌, ℕ, List, [], ◌∷◌, ◌++◌, Option}
use Rattle.std.specs.Io.KnownBytes.{Consumes, IsAtEnd, Keeps}

-- the first of the numbers, or 0 if none is left
abbrev pub Gives : Option (List ℕ) → Option (List ℕ) → ℕ → Type 0
Gives old new n = Consumes old new (n ∷ []) ⊎ ((n ≡ 0) × Keeps old new × IsAtEnd new)

-- these numbers, and then a 0 of its own or because it has no more
abbrev pub GivesToZero : Option (List ℕ) → Option (List ℕ) → List ℕ → Type 0
GivesToZero old new numbers = Consumes old new (numbers ++ 0 ∷ []) ⊎ (Consumes old new numbers × IsAtEnd new)

-- a pulse that plays a list: the numbers that are left, and how often it gave 0
pub record Pulsed : Type 0 where
  pub left : List ℕ
  pub zeros : ℕ
