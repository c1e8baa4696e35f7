-- WhiteNoise: a linear congruential generator.
use Rattle.std.specs.Prelude.{ℕ, ◌+◌, ◌*◌, ◌%◌, ◌==◌, cond, List, [], ◌∷◌, slice_index, Option, Some, None, ℤ, pos, ◌+ℤ◌, ◌*ℤ◌}
use Rattle.sn_def.specs.declared.control.Now.{Now}
use Rattle.sn_gen.specs.Phases.{modulo}
use Rattle.sn_gen.specs.Oscillators.{saw}
use Rattle.sn_gen.specs.declared.noise.Draws.{Draws}

-- a word is 0 before the first number, and then the last number and 2^32
abbrev pub draws_in : List ℕ → Draws
draws_in ws = record { last = cond (slice_index ws 0 == 0) None (Some (slice_index ws 0 % 4294967296)) }

abbrev pub word_after : Option ℕ → ℕ
word_after (Some r) = 4294967296 + r
word_after None = 0

abbrev pub draws_words : Draws → List ℕ
draws_words d = word_after d.last ∷ []

-- each unit of each node has its own row of numbers
abbrev pub seed : Now → ℕ
seed now = modulo (now.node *ℤ pos 2654435761 +ℤ pos now.unit)

abbrev pub last_or : ℕ → Option ℕ → ℕ
last_or first (Some r) = r
last_or first None = first

abbrev pub drawn : ℕ → ℕ
drawn r = (r * 1664525 + 1013904223) % 4294967296

-- WhiteNoise
abbrev pub white_noise : ℕ → Draws → List (List ℤ) → ℕ → Draws × ℤ
white_noise first d inputs k = let r = drawn (last_or first d.last) in (record { last = Some r }, saw r)
