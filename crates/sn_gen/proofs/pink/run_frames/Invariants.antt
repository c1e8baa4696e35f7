use Rattle.std.proofs.Common.{◌≡◌, ℤ, List, take, length}
use Rattle.sn_mem.specs.Blocks.{scan}
use Rattle.sn_gen.specs.Pink.{pink_noise}
use Rattle.sn_gen.proofs.pink.run_frames.Given as goal

abbrev pub invariant-loop-frame : goal.invariant-loop-frame
invariant-loop-frame l = (length l.samples ≡ 64) × ((inputs : List (List ℤ)) → (l.state, take l.frame l.samples) ≡ scan (pink_noise l.first) l.fn.begin inputs l.frame)
