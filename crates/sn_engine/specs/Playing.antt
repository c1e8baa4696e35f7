-- What an engine plays, and what its rounds were.
use Rattle.std.specs.Prelude.{◌≡◌, ℕ, List, []}
use Rattle.sn_round.specs.declared.jobs.Job.{Job}
use Rattle.sn_machine.specs.declared.views.Rested.{Rested}
use Rattle.sn_engine.specs.Running.{Running}

-- the plan of the last boundary; the rounds that were rested; how often a word of the memory was stored to while no
-- round ran; and how many workers each round has
pub record Past : Type 0 where
  pub jobs : List Job
  pub rounds : List Rested
  pub stores : ℕ
  pub crew : ℕ

pub record Playing : Type 0 where
  pub running : Running
  pub past : Past

-- before anything happened, with so many workers
abbrev pub no_past : ℕ → Past
no_past crew = record { jobs = []; rounds = []; stores = 0; crew = crew }

-- no round was rested, and the plan is the same
abbrev pub KeepsRounds : Past → Past → Type 0
KeepsRounds old new = new ≡ record old { stores = new.stores }

-- no round was rested
abbrev pub KeepsRested : Past → Past → Type 0
KeepsRested old new = new ≡ record old { jobs = new.jobs; stores = new.stores }
