use Rattle.std.proofs.Common.{◌≡◌, take, length, []}
use Rattle.sn_mem.specs.Blocks.{scan}
use Rattle.sn_gen.proofs.Turning.{turned}
use Rattle.sn_gen.proofs.waves.Turn.run.Given as goal

abbrev pub invariant-loop-frame : goal.invariant-loop-frame
invariant-loop-frame g l =
    (length l.samples ≡ 64)
    × ((l.phase, take l.frame l.samples) ≡ scan (turned (g.W.Wave.shape l.shape) l.fn.self) l.fn.begin [] l.frame)
