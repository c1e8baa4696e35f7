use Rattle.std.proofs.Common.{◌≡◌, take, length}
use Rattle.sn_mem.specs.Blocks.{table}
use Rattle.sn_filt.specs.Arithmetic.{mul as product}
use Rattle.sn_filt.proofs.blockwise.push_small_products.Given as goal

abbrev pub invariant-loop-frame : goal.invariant-loop-frame
invariant-loop-frame l = record { long : length l.samples ≡ 64; made : take l.frame l.samples ≡ table (product l.inputs) l.frame }
