-- SOS: a second order section.
use Rattle.std.specs.Prelude.{ℕ, List, [], ◌∷◌, slice_index, ℤ, ◌+ℤ◌, ◌*ℤ◌}
use Rattle.sn_fixed.specs.Fixed.{floor, sat}
use Rattle.sn_mem.specs.Blocks.{sample, sample_in, word_for}
use Rattle.sn_filt.specs.declared.sections.Section.{Section}

-- the last two inputs and the last two outputs
abbrev pub section_in : List ℕ → Section
section_in ws = record { x1 = sample_in (slice_index ws 0); x2 = sample_in (slice_index ws 1); y1 = sample_in (slice_index ws 2); y2 = sample_in (slice_index ws 3) }

abbrev pub section_words : Section → List ℕ
section_words s = word_for s.x1 ∷ word_for s.x2 ∷ word_for s.y1 ∷ word_for s.y2 ∷ []

-- a0 x + a1 x1 + a2 x2 + b1 y1 + b2 y2, exact
abbrev pub weighted : Section → List (List ℤ) → ℕ → ℤ
weighted s inputs k =
    (sample inputs 1 k *ℤ sample inputs 0 k +ℤ sample inputs 2 k *ℤ s.x1)
    +ℤ (sample inputs 3 k *ℤ s.x2 +ℤ sample inputs 4 k *ℤ s.y1)
    +ℤ sample inputs 5 k *ℤ s.y2

-- SOS x a0 a1 a2 b1 b2
abbrev pub sos : Section → List (List ℤ) → ℕ → Section × ℤ
sos s inputs k =
    let y = sat (floor (weighted s inputs k) 16777216) in
    (record { x1 = sample inputs 0 k; x2 = s.x1; y1 = y; y2 = s.y1 }, y)
