-- Line over whole runs: a straight line from the first frame on, and then its end.
use Rattle.std.specs.Prelude.{◌≡◌, ◌*◌, ℕ, nat_lt, List, slice_index, ℤ, cond, FitsSigned}
use Rattle.std.specs.Int.{w32}
use Rattle.sn_ports.specs.Limits.{block_frames}
use Rattle.sn_fixed.specs.Fixed.{frames_of}
use Rattle.sn_fixed.specs.Lines.{line_at}
use Rattle.sn_def.specs.Histories.{heard, words_before, given}
use Rattle.sn_mem.specs.Blocks.{recurrence}
use Rattle.sn_gen.specs.Line.{sweep_in, sweep_words, line}

-- what Line makes of its five state words and of its inputs' blocks
abbrev pub line_unit : ℕ → List ℕ → List (List ℤ) → List ℕ × List ℤ
line_unit rate = recurrence sweep_in sweep_words (line rate)

-- how many frames the line has, by the time at the first frame
abbrev pub span : ℕ → (ℕ → List (List ℤ)) → ℕ
span rate run = frames_of (heard run 2 0) rate

-- frame t of the line from start to end, which has n frames, or the end after them
abbrev pub line_sample : ℤ → ℤ → ℕ → ℕ → ℤ
line_sample start end n t = cond (nat_lt t n) (line_at start end t n) end

-- the start and the end that Line takes at the first frame are samples of 32 bits
pub record BeginsWithSamples (run : ℕ → List (List ℤ)) : Type 0 where
  pub start : FitsSigned w32 (heard run 0 0)
  pub end : FitsSigned w32 (heard run 1 0)

-- Frame t of the output is frame t of the line, and frame n is the one at which it ends: the done word is 1 after that
-- frame.
pub record IsStraight (rate : ℕ) (run : ℕ → List (List ℤ)) : Type 0 where
  pub gives : (t : ℕ) → given (line_unit rate) 5 run t ≡ line_sample (heard run 0 0) (heard run 1 0) (span rate run) t
  pub ends : (b : ℕ) → slice_index (words_before (line_unit rate) 5 run b) 0 ≡ cond (nat_lt (span rate run) (b * block_frames)) 1 0
