-- A unit's blocks. It makes of its state words and of its inputs' blocks the state words after the block, and what it
-- gives.
use Rattle.std.specs.Prelude.{◌/◌, ◌%◌, ℕ, zero, suc, List, [], ◌∷◌, replicate, slice_index_or, ℤ, pos}
use Rattle.sn_ports.specs.Limits.{block_frames}

-- one output among blocks
abbrev pub one_output : List ℕ × List ℤ → List ℕ × List (List ℤ)
one_output r = (r.0, r.1 ∷ [])

-- A run gives each block's inputs, by the block's number. Its frame t is frame t % block_frames of block t /
-- block_frames. An input's sample at a frame of the run:
abbrev pub heard : (ℕ → List (List ℤ)) → ℕ → ℕ → ℤ
heard run i t = slice_index_or (slice_index_or (run (t / block_frames)) i []) (t % block_frames) (pos 0)

-- a unit's words before a block, of which all are 0 before the first
unfoldable pub words_before : (List ℕ → List (List ℤ) → List ℕ × List ℤ) → ℕ → (ℕ → List (List ℤ)) → ℕ → List ℕ
words_before unit size run zero = replicate size 0
words_before unit size run (suc b) = (unit (words_before unit size run b) (run b)).0

-- its output at a frame
abbrev pub given : (List ℕ → List (List ℤ) → List ℕ × List ℤ) → ℕ → (ℕ → List (List ℤ)) → ℕ → ℤ
given unit size run t = slice_index_or (unit (words_before unit size run (t / block_frames)) (run (t / block_frames))).1 (t % block_frames) (pos 0)
