-- What stands before what in a plan: a row of jobs and splits, and its numbered jobs.
use Rattle.std.specs.Prelude.{ℕ, ◌+◌, List, [], ◌∷◌, ◌++◌}
use Rattle.sn_round.specs.declared.jobs.Job.{Job}
use Rattle.sn_mem.specs.declared.moves.Moved.{Moved}
use Rattle.sn_graph.specs.declared.nodes.Voice.{Voice}
use Rattle.sn_graph.specs.Voices.{ids_of, foot_of}

-- what is rendered in order: jobs, and splits whose members are not ordered among themselves, with the lanes that are
-- added after them
mutual
  pub data Row : Type 0 where
    done : Row
    job : List Voice → Row → Row
    split : List Moved → Members → Row → Row

  pub data Members : Type 0 where
    one : Row → Members
    more : Row → Members → Members

-- how many jobs, joints among them
abbrev mutual
  pub size : Row → ℕ
  size done = 0
  size (job vs rest) = 1 + size rest
  size (split lanes ms rest) = size_all ms + (1 + size rest)

  pub size_all : Members → ℕ
  size_all (one r) = size r
  size_all (more r ms) = size r + size_all ms

-- the last job of a row whose first job has the number n, or its entry if it has none
abbrev pub last : ℕ → List ℕ → Row → List ℕ
last n e done = e
last n e (job vs rest) = last (n + 1) (n ∷ []) rest
last n e (split lanes ms rest) = last (n + size_all ms + 1) ((n + size_all ms) ∷ []) rest

-- the last jobs of the members
abbrev pub lasts : ℕ → List ℕ → Members → List ℕ
lasts n e (one r) = last n e r
lasts n e (more r ms) = last n e r ++ lasts (n + size r) e ms

-- the buses that each synth moves
abbrev pub moves_of : List Voice → List (List Moved)
moves_of [] = []
moves_of (v ∷ vs) = v.moves ∷ moves_of vs

-- the job of synths, and of lanes that are added after them; without synths it is a joint
abbrev pub job_of : List Voice → List Moved → List ℕ → Job
job_of vs lanes before = record { synths = ids_of vs; moves = moves_of vs; lanes = lanes; foot = foot_of vs lanes; before = before }

-- The jobs of a row, of which the first has the number n and the entry e. A split is followed by its joint, whose
-- predecessors are the last jobs of its members.
abbrev mutual
  pub jobs : ℕ → List ℕ → Row → List Job
  jobs n e done = []
  jobs n e (job vs rest) = job_of vs [] e ∷ jobs (n + 1) (n ∷ []) rest
  jobs n e (split lanes ms rest) = jobs_all n e ms ++ job_of [] lanes (lasts n e ms) ∷ jobs (n + size_all ms + 1) ((n + size_all ms) ∷ []) rest

  pub jobs_all : ℕ → List ℕ → Members → List Job
  jobs_all n e (one r) = jobs n e r
  jobs_all n e (more r ms) = jobs n e r ++ jobs_all (n + size r) e ms
