-- What a seat keeps at run time of what it knows.
use Rattle.std.specs.Prelude.{◌≡◌, ℕ, ◌<◌, Bool, true, false, List, [], length, drop}
use Rattle.sn_machine.specs.declared.views.View.{View}
use Rattle.sn_machine.specs.States.{RunsJob}
use Rattle.sn_machine.specs.Steps.{debts_of}
use Rattle.sn_round.specs.Jobs.{successors}

abbrev pub RunsAs : View → ℕ → Type 0
RunsAs v job = (j : ℕ) (picture : List ℕ) → RunsJob v j picture → j ≡ job

abbrev pub OwesAs : View → ℕ → ℕ → Bool → Type 0
OwesAs v job paid owing = (owing ≡ true → (job < length v.worker.jobs) × (v.worker.debts ≡ debts_of job (drop paid (successors v.worker.jobs job)))) × (owing ≡ false → v.worker.debts ≡ [])
