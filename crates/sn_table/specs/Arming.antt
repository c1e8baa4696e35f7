-- The job words that a plan is armed with.
use Rattle.std.specs.Prelude.{ℕ, List, [], ◌∷◌, length}
use Rattle.sn_round.specs.declared.jobs.Job.{Job}
use Rattle.sn_machine.specs.declared.views.View.{View}
use Rattle.sn_machine.specs.declared.views.Phase.TheVariants.{Idle}
use Rattle.sn_machine.specs.States.{memory_in, counts_in}

-- each job's number of predecessors in its place, and the words past those of the jobs unchanged
abbrev pub armed : List Job → List ℕ → List ℕ
armed [] counts = counts
armed (job ∷ jobs) [] = []
armed (job ∷ jobs) (c ∷ counts) = length job.before ∷ armed jobs counts

abbrev pub armed_view : View → List Job → View
armed_view v jobs = record v { main = record v.main { phase = Idle (memory_in v.main.phase) (armed jobs (counts_in v.main.phase)) } }
