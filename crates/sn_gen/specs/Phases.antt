-- Phases, of which 2^32 is a turn.
use Rattle.std.specs.Prelude.{ℕ, ◌+◌, ◌%◌, List, [], ◌∷◌, slice_index, ℤ, pos, ◌+ℤ◌, unsigned_abs}
use Rattle.std.specs.Int.{int_rem_euclid}
use Rattle.sn_fixed.specs.Fixed.{step_of}

-- a whole number modulo 2^32
abbrev pub modulo : ℤ → ℕ
modulo z = unsigned_abs (int_rem_euclid z (pos 4294967296))

-- a phase, moved by a sample
abbrev pub moved : ℕ → ℤ → ℕ
moved p x = modulo (pos p +ℤ x)

-- a phase after a frame
abbrev pub grown : ℕ → ℕ → ℤ → ℕ
grown rate p freq = (p + step_of freq rate) % 4294967296

-- the phase in the first of some words, and the word that holds a phase
abbrev pub phase_in : List ℕ → ℕ
phase_in ws = slice_index ws 0 % 4294967296

abbrev pub phase_words : ℕ → List ℕ
phase_words p = p ∷ []
