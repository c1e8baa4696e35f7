-- What a worker knows before and after a job.
use Rattle.std.specs.Prelude.{◌≡◌, ℕ, ◌+◌, ◌<◌, true, List, [], ◌∷◌, ◌++◌, length, Contains, None}
use Rattle.sn_mem.specs.declared.extents.Foot.{Foot}
use Rattle.sn_machine.specs.declared.views.View.{View}
use Rattle.sn_round.specs.Jobs.{foot_at}
use Rattle.sn_round.specs.Scripts.{list_at}

-- the same except for readings and debts
pub record Steady (v w : View) : Type 0 where
  pub live : w.worker.live ≡ v.worker.live
  pub sweeps : w.worker.sweeps ≡ v.worker.sweeps
  pub jobs : w.worker.jobs ≡ v.worker.jobs
  pub script : w.worker.script ≡ v.worker.script
  pub runs : w.worker.runs ≡ v.worker.runs
  pub ended : w.worker.ended ≡ v.worker.ended

abbrev pub Paid : View → View → Type 0
Paid v w = Steady v w × (w.worker.debts ≡ [])

-- the job was run and ended, and its debts are paid
pub record Ran (v : View) (job : ℕ) (w : View) : Type 0 where
  pub live : w.worker.live ≡ v.worker.live
  pub sweeps : w.worker.sweeps ≡ v.worker.sweeps
  pub jobs : w.worker.jobs ≡ v.worker.jobs
  pub script : w.worker.script ≡ v.worker.script
  pub runs : w.worker.runs ≡ None
  pub debts : w.worker.debts ≡ []
  pub ended : w.worker.ended ≡ v.worker.ended ++ job ∷ []

-- each of the first n jobs has ended
abbrev pub IsDone : View → ℕ → Type 0
IsDone v n = (j : ℕ) → j < n → Contains v.worker.ended j

-- an idle seat of the sweep
pub record SweepsWell (v : View) : Type 0 where
  pub live : v.worker.live ≡ true
  pub sweeps : v.worker.sweeps ≡ true
  pub runs : v.worker.runs ≡ None
  pub debts : v.worker.debts ≡ []

-- the work's jobs are the view's, with their feet, and the script is what they make
pub record Serves (jobs : ℕ) (foot : ℕ → Foot) (outcome : ℕ → List ℕ → List ℕ) (v : View) : Type 0 where
  pub number : jobs ≡ length v.worker.jobs
  pub feet : (j : ℕ) → j < length v.worker.jobs → foot_at v.worker.jobs j ≡ foot j
  pub steps : (j : ℕ) → j < length v.worker.jobs → list_at v.worker.script (j + 1) ≡ outcome j (list_at v.worker.script j)

-- an idle worker's seat
pub record WorksWell (v : View) : Type 0 where
  pub live : v.worker.live ≡ true
  pub runs : v.worker.runs ≡ None
  pub debts : v.worker.debts ≡ []
