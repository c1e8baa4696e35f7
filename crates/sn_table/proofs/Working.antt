-- An idle worker's seat after a look.
use Rattle.std.proofs.Common.{◌≡◌, ◌∙◌, ℕ, List, sym, ap}
use Rattle.sn_mem.specs.declared.extents.Foot.{Foot}
use Rattle.sn_round.specs.declared.jobs.Job.{Job}
use Rattle.sn_machine.specs.declared.views.View.{View}
use Rattle.sn_machine.specs.Steps.{read_view}
use Rattle.sn_table.specs.declared.seats.Shared.{Shared}
use Rattle.sn_table.specs.declared.seats.WorkerSeat.{WorkerSeat}
use Rattle.sn_table.specs.Answers.{view, IsSeatOf}
use Rattle.sn_table.specs.Seats.{IsReady}
use Rattle.sn_table.proofs.Standing.{serves_as}

module _ (shared : Shared) (number : ℕ) (feet : ℕ → Foot) (outcome : ℕ → List ℕ → List ℕ) (jobs : List Job) (s t : WorkerSeat) (j : ℕ) where
  pub ready_read : (word : ℕ) → IsReady shared number feet outcome jobs s → IsSeatOf shared t → view t ≡ read_view (view s) j word → IsReady shared number feet outcome jobs t
  ready_read word r of e =
      let same_jobs : (view t).worker.jobs ≡ (view s).worker.jobs = ap (λ (x : View). x.worker.jobs) e in
      let same_script : (view t).worker.script ≡ (view s).worker.script = ap (λ (x : View). x.worker.script) e in
      record {
        seat_of = of;
        plan = r.plan ∙ sym same_jobs;
        serves = serves_as number feet outcome (view s) (view t) same_jobs same_script r.serves;
        well = record { live = ap (λ (x : View). x.worker.live) e ∙ r.well.live; runs = ap (λ (x : View). x.worker.runs) e ∙ r.well.runs; debts = ap (λ (x : View). x.worker.debts) e ∙ r.well.debts };
      }
