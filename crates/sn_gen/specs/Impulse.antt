-- Impulse.
use Rattle.std.specs.Prelude.{ℕ, ◌+◌, ◌%◌, ◌==◌, nat_le, List, [], ◌∷◌, slice_index, ℤ, pos, cond}
use Rattle.sn_fixed.specs.Fixed.{step_of}
use Rattle.sn_mem.specs.Blocks.{sample}
use Rattle.sn_gen.specs.declared.impulse.Beat.{Beat}

-- the phase, and 0 if an impulse is due, as it is at first
abbrev pub beat_in : List ℕ → Beat
beat_in ws = record { phase = slice_index ws 0 % 4294967296; due = slice_index ws 1 == 0 }

abbrev pub beat_words : Beat → List ℕ
beat_words b = b.phase ∷ cond b.due 0 1 ∷ []

-- the phase before it wraps
abbrev pub growth : ℕ → ℕ → ℤ → ℕ
growth rate p freq = p + step_of freq rate

-- Impulse freq: at the first frame, and if the last growth of the phase reached 2^32
abbrev pub impulse : ℕ → Beat → List (List ℤ) → ℕ → Beat × ℤ
impulse rate b inputs k =
    let p = growth rate b.phase (sample inputs 0 k) in
    (record { phase = p % 4294967296; due = nat_le 4294967296 p }, cond b.due (pos 16777216) (pos 0))
