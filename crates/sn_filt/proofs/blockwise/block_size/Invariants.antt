use Rattle.std.proofs.Common.{◌<◌, ◌≤◌, ℕ, get_or, pos, unsigned_abs}
use Rattle.sn_filt.proofs.blockwise.block_size.Given as goal

abbrev pub invariant-loop-frame : goal.invariant-loop-frame
invariant-loop-frame l = record { sizes : (k : ℕ) → k < l.frame → unsigned_abs (get_or l.samples k (pos 0)) ≤ l.size }
