-- The first fault of a text that is no score.
use Rattle.std.specs.Prelude.{◌≡◌, ◌+◌, ◌⊎◌, ◌==◌, ℕ, not, List, [], ◌∷◌, ◌++◌, length, flat_map, IsTrue}
use Rattle.std.specs.List.{list_all, AllByRecursion}
use Rattle.sn_osc.specs.Shape.{Shape}
use Rattle.sn_score.specs.Lines.{line}
use Rattle.sn_score.specs.Score.{Score}

abbrev pub IsScore : List ℕ → Type 0
IsScore text = (packets : List Shape) × Score text packets

-- no line feed
abbrev pub IsLine : List ℕ → Type 0
IsLine bytes = IsTrue (list_all (λ b. not (b == 10)) bytes)

abbrev pub AreLines : List (List ℕ) → Type 0
AreLines lines = AllByRecursion IsLine lines

-- whole lines
abbrev pub lines_text : List (List ℕ) → List ℕ
lines_text lines = flat_map line lines

-- lines with which some score begins
abbrev pub Begin : List (List ℕ) → Type 0
Begin lines = (more : List ℕ) × IsScore (lines_text lines ++ more)

-- With one more whole line they begin none; or no whole line follows them, and the text ends inside a line or inside a
-- bundle.
abbrev pub NextFault : List (List ℕ) → List ℕ → Type 0
NextFault earlier rest =
    ((next : List ℕ) × (later : List ℕ) × IsLine next × (rest ≡ line next ++ later) × (Begin (earlier ++ next ∷ []) → ⊥))
    ⊎ (IsLine rest × (IsScore (lines_text earlier ++ rest) → ⊥))

-- The lines before this number begin some score, and with the line of this number they begin none.
pub record ScoreFault (text : List ℕ) (number : ℕ) : Type 0 where
  pub earlier : List (List ℕ)
  pub rest : List ℕ
  pub parts : text ≡ lines_text earlier ++ rest
  pub whole : AreLines earlier
  pub number_is : number ≡ length earlier + 1
  pub begin : Begin earlier
  pub why : NextFault earlier rest
