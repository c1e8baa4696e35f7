-- The jobs of several blocks of a plan, in one round.
use Rattle.std.specs.Prelude.{◌≡◌, ℕ, zero, suc, ◌+◌, ◌*◌, ◌/◌, ◌%◌, ◌==◌, ◌<◌, true, false, if◌then◌else◌, List, [], ◌∷◌, ◌++◌, length, map, filter}
use Rattle.sn_ports.specs.Limits.{block_samples}
use Rattle.sn_mem.specs.declared.extents.Extent.{Extent}
use Rattle.sn_mem.specs.declared.extents.Foot.{Foot}
use Rattle.sn_mem.specs.Blocks.{table}
use Rattle.sn_mem.specs.Words.{covers, has, touches}
use Rattle.sn_round.specs.declared.jobs.Job.{Job}
use Rattle.sn_round.specs.Jobs.{foot_at, job_at, lanes_at, predecessors, successors}

-- the number of the first job of block k, if a block has n jobs and its capture
abbrev pub start : ℕ → ℕ → ℕ
start n k = k * (n + 1)

-- what belongs to number j: to job i of block k, or to the capture of block k, which is the last of its block
abbrev pub by_block : {A : Type 0} → (ℕ → ℕ → A) → (ℕ → A) → ℕ → ℕ → A
by_block job capture n j = if (j % (n + 1)) == n then capture (j / (n + 1)) else job (j / (n + 1)) (j % (n + 1))

-- the capture of the block before, if there is one
unfoldable pub entry : ℕ → ℕ → List ℕ
entry n zero = []
entry n (suc k) = (start n k + n) ∷ []

-- the predecessors in block k of what has these in the plan: the same jobs of this block, or the entry of the block if
-- there are none
unfoldable pub predecessors_in : ℕ → ℕ → List ℕ → List ℕ
predecessors_in n k [] = entry n k
predecessors_in n k (p ∷ ps) = map (λ q. start n k + q) (p ∷ ps)

-- job i of block k
abbrev pub job_in : List Job → ℕ → ℕ → Job
job_in jobs k i = record { synths = (job_at jobs i).synths; moves = (job_at jobs i).moves; lanes = lanes_at jobs i; foot = foot_at jobs i; before = predecessors_in (length jobs) k (predecessors jobs i) }

-- the jobs that have no successors
unfoldable pub last_jobs : List Job → List ℕ
last_jobs jobs = filter (λ i. length (successors jobs i) == 0) (table (λ i. i) (length jobs))

-- the jobs that have no predecessors
unfoldable pub entries : List Job → List ℕ
entries jobs = filter (λ i. length (predecessors jobs i) == 0) (table (λ i. i) (length jobs))

-- the words of a block's outputs among the copies
abbrev pub copy_at : ℕ → ℕ → Extent
copy_at at k = record { at = at + block_samples * k; len = block_samples }

-- a capture reads the outputs, and writes their copy
abbrev pub capture_foot : List Extent → ℕ → ℕ → Foot
capture_foot outputs at k = record { reads = outputs; writes = copy_at at k ∷ [] }

-- the capture of block k, after the last jobs of the block
abbrev pub capture_of : List Job → List Extent → ℕ → ℕ → Job
capture_of jobs outputs at k = record { synths = []; moves = []; lanes = []; foot = capture_foot outputs at k; before = predecessors_in (length jobs) k (last_jobs jobs) }

-- the jobs of block k, and then its capture
abbrev pub block_of : List Job → List Extent → ℕ → ℕ → List Job
block_of jobs outputs at k = table (job_in jobs k) (length jobs) ++ capture_of jobs outputs at k ∷ []

-- The jobs of so many blocks, with a capture in each.
unfoldable pub unrolled : List Job → List Extent → ℕ → ℕ → List Job
unrolled jobs outputs at blocks = table (by_block (job_in jobs) (capture_of jobs outputs at) (length jobs)) (start (length jobs) blocks)

-- Neither the outputs nor any job has a word of the copies.
pub record AreApart (jobs : List Job) (outputs : List Extent) (copies : Extent) : Type 0 where
  pub of_outputs : (x : ℕ) → covers copies x ≡ true → has outputs x ≡ false
  pub of_jobs : (j x : ℕ) → j < length jobs → covers copies x ≡ true → touches (foot_at jobs j) x ≡ false
