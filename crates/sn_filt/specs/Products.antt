-- Products of samples that need no limit.
use Rattle.std.specs.Prelude.{◌<◌, ◌*◌, ◌⊎◌, ℕ, List, ℤ, unsigned_abs}
use Rattle.sn_ports.specs.Limits.{block_frames}
use Rattle.sn_mem.specs.Blocks.{sample}

-- the second sample is less than 1.0, or the product is less than 128.0
abbrev pub IsSmall : ℤ → ℤ → Type 0
IsSmall a b = (unsigned_abs b < 16777216) ⊎ (unsigned_abs a * unsigned_abs b < 36028797018963968)

-- that at each frame, of the first two inputs
abbrev pub AreSmall : List (List ℤ) → Type 0
AreSmall inputs = (k : ℕ) → k < block_frames → IsSmall (sample inputs 0 k) (sample inputs 1 k)
