-- Seats in a round: main's, and a worker's before and after its work.
use Rattle.std.specs.Prelude.{◌≡◌, ℕ, List}
use Rattle.sn_mem.specs.declared.extents.Foot.{Foot}
use Rattle.sn_round.specs.declared.jobs.Job.{Job}
use Rattle.sn_machine.specs.declared.views.View.{View}
use Rattle.sn_machine.specs.declared.views.Phase.TheVariants.{Round}
use Rattle.sn_machine.specs.States.{jobs_in, script_in, counts_in}
use Rattle.sn_table.specs.declared.seats.Shared.{Shared}
use Rattle.sn_table.specs.declared.seats.WorkerSeat.{WorkerSeat}
use Rattle.sn_table.specs.Answers.{view, IsSeatOf}
use Rattle.sn_table.specs.Sweeps.{Serves, WorksWell}

-- the seat is idle, and the work is that of its round
pub record IsReady (shared : Shared) (number : ℕ) (feet : ℕ → Foot) (outcome : ℕ → List ℕ → List ℕ) (jobs : List Job) (seat : WorkerSeat) : Type 0 where
  pub seat_of : IsSeatOf shared seat
  pub plan : jobs ≡ (view seat).worker.jobs
  pub serves : Serves number feet outcome (view seat)
  pub well : WorksWell (view seat)

-- the seat is idle
pub record IsBack (shared : Shared) (seat : WorkerSeat) : Type 0 where
  pub seat_of : IsSeatOf shared seat
  pub well : WorksWell (view seat)

-- w is main's view v some steps later in the same round, with this crew and so many live seats
pub record Stands (v : View) (crew live : ℕ) (w : View) : Type 0 where
  pub phase : w.main.phase ≡ Round (jobs_in v.main.phase) (script_in v.main.phase) crew (counts_in v.main.phase)
  pub live_are : w.main.live ≡ live
  pub rested : w.main.rested ≡ v.main.rested
  pub stores : w.main.stores ≡ v.main.stores
