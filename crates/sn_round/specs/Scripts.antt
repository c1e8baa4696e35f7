-- Scripts: what the words are before and after each job of a round, in order.
use Rattle.std.specs.Prelude.{◌≡◌, ℕ, zero, suc, ◌+◌, ◌<◌, ◌≤◌, false, List, [], ◌∷◌, length, slice_index, slice_index_or}
use Rattle.sn_mem.specs.Words.{writes}
use Rattle.sn_round.specs.declared.jobs.Job.{Job}
use Rattle.sn_round.specs.Jobs.{foot_at}

-- the list i of a script
abbrev pub list_at : List (List ℕ) → ℕ → List ℕ
list_at script i = slice_index_or script i []

abbrev pub word_at : List (List ℕ) → ℕ → ℕ → ℕ
word_at script i x = slice_index (list_at script i) x

-- A script of n jobs is n + 1 lists of words of one length, each of which is as the one before outside what that job
-- writes.
pub record IsScript (jobs : List Job) (size : ℕ) (script : List (List ℕ)) : Type 0 where
  pub whole : length script ≡ length jobs + 1
  pub wide : (i : ℕ) → i ≤ length jobs → length (list_at script i) ≡ size
  pub still : (i x : ℕ) → i < length jobs → writes (foot_at jobs i) x ≡ false → word_at script (i + 1) x ≡ word_at script i x

-- some words, and then those after each of n jobs from the k-th on
abbrev pub sequential_from : (ℕ → List ℕ → List ℕ) → ℕ → ℕ → List ℕ → List (List ℕ)
sequential_from outcome k zero words = words ∷ []
sequential_from outcome k (suc n) words = words ∷ sequential_from outcome (suc k) n (outcome k words)

-- The script that begins with some words, and whose next list is what the next job makes of the one before.
abbrev pub sequential : (ℕ → List ℕ → List ℕ) → ℕ → List ℕ → List (List ℕ)
sequential outcome n words = sequential_from outcome 0 n words
