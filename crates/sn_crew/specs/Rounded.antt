-- What a round makes of main's view.
use Rattle.std.specs.Prelude.{◌≡◌, ℕ, List, [], ◌∷◌, ◌++◌}
use Rattle.sn_round.specs.declared.jobs.Job.{Job}
use Rattle.sn_machine.specs.declared.views.View.{View}
use Rattle.sn_machine.specs.States.{IsIdle, memory_in}

-- w is main's view after v and one round of these jobs with this crew. The memory is this, one more round was rested,
-- and nothing was stored in between.
pub record Rounded (v : View) (jobs : List Job) (crew : ℕ) (memory : List ℕ) (w : View) : Type 0 where
  pub idle : IsIdle w
  pub memory_is : memory_in w.main.phase ≡ memory
  pub rested : w.main.rested ≡ v.main.rested ++ record { jobs = jobs; crew = crew } ∷ []
  pub stores : w.main.stores ≡ v.main.stores
