use Rattle.std.proofs.Common.{◌≡◌, take, length, get_or, pos, ◌+ℤ◌}
use Rattle.sn_fixed.specs.Fixed.{sat}
use Rattle.sn_mem.specs.Blocks.{table}
use Rattle.sn_io.proofs.outputs.sums.Given as goal

abbrev pub invariant-loop-frame : goal.invariant-loop-frame
invariant-loop-frame l = record {
  long : length l.samples ≡ 64;
  made : take l.frame l.samples ≡ table (λ k. sat (get_or l.a k (pos 0) +ℤ sat (get_or l.b k (pos 0)))) l.frame;
}
