-- The frames taken so far are the first of the stream.
use Rattle.std.proofs.Common.{List, ℕ, length}
use Rattle.sn_osc.specs.Framed.{AreFirst}
use Rattle.sn_osc.proofs.framer.Framer.take_frames.Given as goal

abbrev pub invariant-loop-frame : goal.invariant-loop-frame
invariant-loop-frame l = (stream : List ℕ) → AreFirst stream l.initial.frames.items l.initial.self → AreFirst stream l.frames.items l.self

abbrev pub decreases-loop-frame : goal.decreases-loop-frame
decreases-loop-frame l = length l.self.kept
