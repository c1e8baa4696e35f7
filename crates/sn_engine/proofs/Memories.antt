-- The memory, as its port and as the words of a round.
use Rattle.std.proofs.Common.{◌≡◌, length, ap, sym, ◌∙◌, arith}
use Rattle.sn_machine.specs.States.{IsIdle, memory_in, script_in}
use Rattle.sn_machine.specs.declared.views.Phase.{Phase}
use Rattle.sn_round.specs.Scripts.{list_at}
use Rattle.sn_table.specs.Answers.{main_view, IsMainOf}
use Rattle.sn_table.specs.declared.seats.MainSeat.{MainSeat}
use Rattle.sn_table.specs.declared.seats.Shared.{Shared}

-- between rounds main knows each word
pub wide : (shared : Shared) (main : MainSeat) → IsMainOf shared main → IsIdle (main_view main) → length (memory_in (main_view main).main.phase) ≡ shared.words
wide shared main of idle =
    sym (ap (λ (p : Phase). length (list_at (script_in p) 0)) idle) ∙ main.fits.script 0 (omega arith) ∙ of.1
