use Rattle.sn_machine.specs.States.{IsIdle}
use Rattle.sn_table.specs.Answers.{main_view, IsMainOf}
use Rattle.sn_workers.proofs.plans.play_crew.Given as goal

abbrev pub invariant-loop : goal.invariant-loop
invariant-loop g l = record { main : IsMainOf l.shared l.main; idle : IsIdle (main_view l.main) }
