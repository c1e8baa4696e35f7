use Rattle.std.proofs.Common.{◌≡◌, take, length}
use Rattle.sn_io.specs.Positions.{walk}
use Rattle.sn_io.specs.Between.{play_buf_l}
use Rattle.sn_io.proofs.placing.play_points.Given as goal

abbrev pub invariant-loop-frame : goal.invariant-loop-frame
invariant-loop-frame g l = (length l.points ≡ 64) × ((l.state, take l.frame l.points) ≡ walk (play_buf_l l.frames) l.initial.state l.inputs l.frame)
