use Rattle.std.proofs.Common.{◌≡◌, take, length}
use Rattle.sn_io.specs.Positions.{walk}
use Rattle.sn_io.proofs.positions.walk_frames.Given as goal

abbrev pub invariant-loop-frame : goal.invariant-loop-frame
invariant-loop-frame g l = (length l.frames ≡ 64) × ((l.state, take l.frame l.frames) ≡ walk (g.U.FrameStep.step l.unit) l.initial.state l.inputs l.frame)
