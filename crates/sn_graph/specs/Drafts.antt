-- What the planner has put so far.
use Rattle.std.specs.Prelude.{◌≡◌, ℕ, List, [], ◌∷◌, ◌++◌, length, Option, Some, None}
use Rattle.sn_mem.specs.declared.moves.Moved.{Moved}
use Rattle.sn_round.specs.declared.jobs.Job.{Job}
use Rattle.sn_graph.specs.Rows.{Row, jobs, last, job_of}

abbrev pub listed : Option ℕ → List ℕ
listed None = []
listed (Some n) = n ∷ []

-- the jobs of a row were put after those that were there, and which one is then the last
pub record Puts (before after : List Job) (e f : Option ℕ) (r : Row) : Type 0 where
  pub jobs_put : after ≡ before ++ jobs (length before) (listed e) r
  pub last_is : listed f ≡ last (length before) (listed e) r

-- with two members or more a joint with these lanes was put after them
abbrev pub IsJoint : List Moved → List Job → List Job → List ℕ → Option ℕ → Option ℕ → Type 0
IsJoint lanes before after [] e f = (after ≡ before) × (f ≡ e)
IsJoint lanes before after (x ∷ []) e f = (after ≡ before) × (f ≡ Some x)
IsJoint lanes before after (x ∷ y ∷ ms) e f = (after ≡ before ++ job_of [] lanes (x ∷ y ∷ ms) ∷ []) × (f ≡ Some (length before))
