-- The words so far are armed.
use Rattle.std.proofs.Common.{◌≡◌, take}
use Rattle.sn_table.specs.Answers.{main_view, IsMainOf}
use Rattle.sn_table.specs.Arming.{armed_view}
use Rattle.sn_table.proofs.seats.Shared.arm.Given as goal

abbrev pub invariant-loop-job : goal.invariant-loop-job
invariant-loop-job l = record {
  main : IsMainOf l.self l.main;
  armed : main_view l.main ≡ armed_view (main_view l.fn.main) (take l.job l.plan);
}
