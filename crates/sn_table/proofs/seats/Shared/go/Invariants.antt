use Rattle.std.proofs.Common.{length}
use Rattle.sn_machine.specs.States.{memory_in}
use Rattle.sn_round.specs.Scripts.{sequential}
use Rattle.sn_table.specs.Answers.{main_view}
use Rattle.sn_table.proofs.seats.Shared.go.Given as goal

abbrev pub ghosts-go_as : goal.ghosts-go_as
ghosts-go_as g a = record { jobs = a._plan.now; script = sequential (g.W.Work.outcome a._work.now) (length a._plan.now) (memory_in (main_view a.main.now).main.phase) }
