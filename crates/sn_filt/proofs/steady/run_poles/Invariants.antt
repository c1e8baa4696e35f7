use Rattle.std.proofs.Common.{◌≡◌, List, ℤ, take, length, replicate}
use Rattle.sn_mem.specs.Blocks.{block, scan}
use Rattle.sn_filt.specs.Arithmetic.{clipped}
use Rattle.sn_filt.specs.Poles.{one_pole}
use Rattle.sn_filt.proofs.steady.run_poles.Given as goal

abbrev pub invariant-loop-frame : goal.invariant-loop-frame
invariant-loop-frame l =
    record {
      long : length l.samples ≡ 64;
      made : (weight : ℤ) (inputs : List (List ℤ)) → l.fn.c ≡ clipped weight → block inputs 0 ≡ l.x → block inputs 1 ≡ replicate 64 weight → ◌≡◌ {A = ℤ × List ℤ} (l.last, take l.frame l.samples) (scan one_pole l.fn.begin inputs l.frame);
    }
