-- PinkNoise: the sum of sixteen dice, of which each is thrown half as often as the one before it.
use Rattle.std.specs.Prelude.{ℕ, ◌+◌, ◌%◌, min, List, ◌∷◌, slice_index, slice_index_or, slice_set, ℤ, pos, ◌+ℤ◌, ◌-ℤ◌, Some}
use Rattle.std.specs.Int.{w16, w32, cast_signed, trailing_zeros}
use Rattle.sn_fixed.specs.Fixed.{floor, sat}
use Rattle.sn_mem.specs.Blocks.{sample_in, word_for, table}
use Rattle.sn_gen.specs.Noise.{draws_in, word_after, last_or, drawn}
use Rattle.sn_gen.specs.declared.pink.Dice.{Dice}

-- the last number that was drawn, the count of the frames, the sum of the dice, and what each of them shows
abbrev pub faces_in : List ℕ → List ℤ
faces_in ws = table (λ j. sample_in (slice_index ws (3 + j))) 16

abbrev pub dice_in : List ℕ → Dice
dice_in ws = record { draws = draws_in ws; count = slice_index ws 1 % 65536; total = sample_in (slice_index ws 2); faces = faces_in ws }

abbrev pub face_words : List ℤ → List ℕ
face_words faces = table (λ j. word_for (slice_index_or faces j (pos 0))) 16

abbrev pub dice_words : Dice → List ℕ
dice_words s = word_after s.draws.last ∷ s.count ∷ word_for s.total ∷ face_words s.faces

-- what a die shows for a number that was drawn
abbrev pub face : ℕ → ℤ
face r = floor (cast_signed w32 r) 2048

-- the die that is thrown at a count: its number is how many factors 2 the count has, and the last die is thrown at 0
abbrev pub die_at : ℕ → ℕ
die_at count = min (trailing_zeros w16 count) 15

-- the sum of the dice, and the dice, after a throw of die j that shows x
abbrev pub total_with : Dice → ℕ → ℤ → ℤ
total_with s j x = sat (s.total +ℤ x -ℤ slice_index_or s.faces j (pos 0))

abbrev pub with_throw : Dice → ℕ → ℤ → Dice
with_throw s j x = record s { total = total_with s j x; faces = slice_set s.faces j x }

-- A frame: one die is thrown. To the sum comes a throw of a die that counts for this frame alone.
abbrev pub rolled : ℕ → Dice → Dice × ℤ
rolled first s =
    let count = (s.count + 1) % 65536 in
    let r = drawn (last_or first s.draws.last) in
    let last = drawn r in
    let after = with_throw s (die_at count) (face r) in
    (record after { draws = record { last = Some last }; count = count }, sat (after.total +ℤ face last))

-- PinkNoise
abbrev pub pink_noise : ℕ → Dice → List (List ℤ) → ℕ → Dice × ℤ
pink_noise first s inputs k = rolled first s
