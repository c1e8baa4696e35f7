-- Blocks in which Linen neither begins nor releases.
use Rattle.std.specs.Prelude.{◌≡◌, ◌<◌, ℕ, true, false, List, ℤ, pos, int_lt}
use Rattle.sn_ports.specs.Limits.{block_frames}
use Rattle.sn_mem.specs.Blocks.{sample}
use Rattle.sn_gen.specs.declared.linen.Segment.{Segment}
use Rattle.sn_gen.specs.declared.linen.Segment.TheVariants.{Waiting, Open, Released}

-- the gate leaves a segment as it is at each frame of a block
abbrev pub Leaves : Segment → List (List ℤ) → Type 0
Leaves Waiting inputs = (k : ℕ) → k < block_frames → int_lt (pos 0) (sample inputs 0 k) ≡ false
Leaves Open inputs = (k : ℕ) → k < block_frames → int_lt (pos 0) (sample inputs 0 k) ≡ true
Leaves Released inputs = Unit {0}
