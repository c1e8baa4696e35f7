-- Lists of jobs, to which jobs are added one by one.
use Rattle.std.specs.Prelude.{ℕ, List, [], ◌∷◌, ◌++◌, slice_index_or, slice_set}

-- a job is put at the end of each of the lists with these numbers
unfoldable pub put_in_each : ℕ → List ℕ → List (List ℕ) → List (List ℕ)
put_in_each job [] lists = lists
put_in_each job (p ∷ ps) lists = put_in_each job ps (slice_set lists p (slice_index_or lists p [] ++ job ∷ []))
