-- Line.
use Rattle.std.specs.Prelude.{ℕ, ◌+◌, ◌%◌, ◌==◌, max, nat_lt, List, [], ◌∷◌, slice_index, ℤ, cond}
use Rattle.sn_fixed.specs.Fixed.{frames_of}
use Rattle.sn_fixed.specs.Lines.{line_at}
use Rattle.sn_mem.specs.Blocks.{sample, sample_in, word_for}
use Rattle.sn_mem.specs.Done.{ended}
use Rattle.sn_gen.specs.declared.line.Sweep.{Sweep}

-- the done word, the next frame, which is 0 only before the first frame, start and end, and the number of frames
abbrev pub sweep_in : List ℕ → Sweep
sweep_in ws = record { done = slice_index ws 0; frame = slice_index ws 1 % 4294967296; start = sample_in (slice_index ws 2); end = sample_in (slice_index ws 3); frames = slice_index ws 4 % 4294967296 }

abbrev pub sweep_words : Sweep → List ℕ
sweep_words s = s.done ∷ s.frame ∷ word_for s.start ∷ word_for s.end ∷ s.frames ∷ []

-- the inputs are read at the first frame
abbrev pub begun : ℕ → Sweep → List (List ℤ) → ℕ → Sweep
begun rate s inputs k =
    cond (s.frame == 0)
    (record { done = s.done; frame = 0; start = sample inputs 0 k; end = sample inputs 1 k; frames = frames_of (sample inputs 2 k) rate })
    s

-- the line before its last frame, and the end from there on
abbrev pub swept : Sweep → Sweep × ℤ
swept s =
    cond (nat_lt s.frame s.frames)
    (record s { frame = s.frame + 1 }, line_at s.start s.end s.frame s.frames)
    (record s { done = ended s.done; frame = max s.frame 1 }, s.end)

-- Line start end dur done!
abbrev pub line : ℕ → Sweep → List (List ℤ) → ℕ → Sweep × ℤ
line rate s inputs k = swept (begun rate s inputs k)
