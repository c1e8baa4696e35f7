-- The two definitions that a drill plays, as texts.
use Rattle.std.specs.Prelude.{ℕ, List, [], ◌∷◌, ◌++◌, codes}

-- lines, each ended by a line feed
abbrev pub text : List (List ℕ) → List ℕ
text [] = []
text (line ∷ lines) = line ++ 10 ∷ text lines

-- a short note
abbrev pub voice : List ℕ
voice = text (
    codes "snova 1" ∷ codes "def voice" ∷ codes "control freq 440000" ∷ codes "control out 16" ∷ codes "a = SinOsc freq 0"
    ∷ codes "e = Line 0.25 0 500 2" ∷ codes "m = Mul a e" ∷ codes "Out.ar out m" ∷ codes "end" ∷ [])

-- the sum of eight buses
abbrev pub mix8 : List ℕ
mix8 = text (
    codes "snova 1" ∷ codes "def mix8" ∷ codes "a b c d e f g h = In.ar 16" ∷ codes "i = Add a b" ∷ codes "j = Add c d" ∷ codes "k = Add e f"
    ∷ codes "l = Add g h" ∷ codes "m = Add i j" ∷ codes "n = Add k l" ∷ codes "o = Add m n" ∷ codes "Out.ar 0 o o" ∷ codes "end" ∷ [])
