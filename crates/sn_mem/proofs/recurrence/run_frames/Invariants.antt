use Rattle.std.proofs.Common.{◌≡◌, take, length}
use Rattle.sn_mem.specs.Blocks.{scan}
use Rattle.sn_mem.proofs.recurrence.run_frames.Given as goal

abbrev pub invariant-loop-frame : goal.invariant-loop-frame
invariant-loop-frame g l =
    (length l.samples ≡ 64)
    × ((l.state, take l.frame l.samples) ≡ scan (g.U.Recurrence.step l.unit) l.fn.begin l.inputs l.frame)
    × (g.U.Recurrence.step l.running ≡ g.U.Recurrence.step l.unit)
    × (g.U.Recurrence.arity l.running ≡ g.U.Recurrence.arity l.unit)
