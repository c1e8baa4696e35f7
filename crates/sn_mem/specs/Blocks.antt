-- Blocks of samples, and runs of words.
use Rattle.std.specs.Prelude.{◌≡◌, ◌<◌, ℕ, zero, suc, ◌+◌, ◌%◌, List, [], ◌∷◌, ◌++◌, ℤ, pos, Bool, true, false, replicate, slice_index, slice_index_or, slice_set}
use Rattle.std.specs.List.{All}
use Rattle.std.specs.Int.{w32, cast_signed, cast_unsigned}
use Rattle.sn_ports.specs.Limits.{block_frames}

-- a block by its number, and one of its samples
abbrev pub block : List (List ℤ) → ℕ → List ℤ
block bs i = slice_index_or bs i []

abbrev pub sample : List (List ℤ) → ℕ → ℕ → ℤ
sample bs i k = slice_index_or (block bs i) k (pos 0)

-- samples of a block that are all equal, and blocks of such samples
abbrev pub IsSteady : List ℤ → Type 0
IsSteady xs = (k : ℕ) → k < block_frames → slice_index_or xs k (pos 0) ≡ slice_index_or xs 0 (pos 0)

abbrev pub AreSteady : List (List ℤ) → Type 0
AreSteady bs = All IsSteady bs

-- each block with a mark has equal samples
abbrev pub AreMarked : List Bool → List (List ℤ) → Type 0
AreMarked marks bs = (i : ℕ) → slice_index_or marks i false ≡ true → block bs i ≡ replicate block_frames (sample bs i 0)

-- a sample lies in the low 32 bits of its word
abbrev pub word_for : ℤ → ℕ
word_for x = cast_unsigned w32 x

abbrev pub sample_in : ℕ → ℤ
sample_in w = cast_signed w32 (w % 4294967296)

-- the n words from a place on
unfoldable pub window : List ℕ → ℕ → ℕ → List ℕ
window ws at zero = []
window ws at (suc n) = window ws at n ++ slice_index ws (at + n) ∷ []

-- the words with a run of them replaced
unfoldable pub put : List ℕ → ℕ → List ℕ → List ℕ
put ws at [] = ws
put ws at (x ∷ xs) = put (slice_set ws at x) (at + 1) xs

-- the values of f at the numbers below n
unfoldable pub table : {A : Type 0} → (ℕ → A) → ℕ → List A
table f zero = []
table f (suc k) = table f k ++ f k ∷ []

-- a recurrence over the first n frames: the state after them, and the samples
unfoldable pub scan : {S : Type 0} → (S → List (List ℤ) → ℕ → S × ℤ) → S → List (List ℤ) → ℕ → S × List ℤ
scan step s inputs zero = (s, [])
scan step s inputs (suc k) = let r = scan step s inputs k in let t = step r.0 inputs k in (t.0, r.1 ++ t.1 ∷ [])

-- a recurrence over a block, from the words that hold its state: the words that hold it after the block, and the
-- samples
abbrev pub recurrence : {S : Type 0} → (List ℕ → S) → (S → List ℕ) → (S → List (List ℤ) → ℕ → S × ℤ) → List ℕ → List (List ℤ) → List ℕ × List ℤ
recurrence loaded stored step state inputs = let r = scan step (loaded state) inputs block_frames in (stored r.0, r.1)

-- the same with its state in `size` words from a place on: all words after it, and the samples
abbrev pub recurred : {S : Type 0} → ℕ → (List ℕ → S) → (S → List ℕ) → (S → List (List ℤ) → ℕ → S × ℤ) → List ℕ → ℕ → List (List ℤ) → List ℕ × List ℤ
recurred size loaded stored step ws at inputs = let r = recurrence loaded stored step (window ws at size) inputs in (put ws at r.0, r.1)

-- the samples of a block in words
abbrev pub samples_at : List ℕ → ℕ → List ℤ
samples_at ws at = table (λ k. sample_in (slice_index ws (at + k))) block_frames

-- the words that hold the samples of a block
abbrev pub sample_words : List ℤ → List ℕ
sample_words xs = table (λ k. word_for (slice_index_or xs k (pos 0))) block_frames

-- the words of a block after each was changed by its frame's sample
abbrev pub changed : (ℕ → ℤ → ℕ) → List ℕ → ℕ → List ℤ → List ℕ
changed f ws at xs = put ws at (table (λ k. f (slice_index ws (at + k)) (slice_index_or xs k (pos 0))) block_frames)
