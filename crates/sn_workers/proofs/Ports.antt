-- Main's port may write each word of the table.
use Rattle.std.proofs.Common.{◌≡◌, ℕ, ◌+◌, false, length, arith, ◌∙◌}
use Rattle.std.proofs.lemmas.Bool.{or_left}
use Rattle.sn_mem.specs.Words.{covers, everything, MayWrite}
use Rattle.sn_mem.proofs.Meetings.{covered}
use Rattle.sn_machine.specs.States.{IsIdle, memory_in}
use Rattle.sn_machine.proofs.Fitting.{memory_wide}
use Rattle.sn_table.specs.declared.seats.MainSeat.{MainSeat}
use Rattle.sn_table.specs.declared.seats.Shared.{Shared}
use Rattle.sn_table.specs.Answers.{main_view, IsMainOf}

pub may_write : (shared : Shared) (main : MainSeat) → shared.words ≡ 200 → IsMainOf shared main → IsIdle (main_view main) → MayWrite (everything (length (memory_in (main_view main).main.phase))) 0 200
may_write shared main size of idle =
    let n : ℕ = length (memory_in (main_view main).main.phase) in
    let long : n ≡ 200 = memory_wide (main_view main) main.fits idle ∙ of.1 ∙ size in
    record { below = omega arith; each = λ i l. or_left (covers (record { at = 0; len = n }) (0 + i)) false (covered (record { at = 0; len = n }) (0 + i) (omega arith) (omega (arith, long, l))) }
