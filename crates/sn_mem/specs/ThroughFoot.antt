-- Words seen through a foot.
use Rattle.std.specs.Prelude.{ℕ, List, length, cond, slice_index}
use Rattle.sn_mem.specs.declared.extents.Foot.{Foot}
use Rattle.sn_mem.specs.Words.{writes, touches}
use Rattle.sn_mem.specs.Blocks.{table}

-- what the foot may touch, and 0 elsewhere
unfoldable pub masked : Foot → List ℕ → List ℕ
masked f ws = table (λ x. cond (touches f x) (slice_index ws x) 0) (length ws)

-- what the foot may not write, and 0 elsewhere
unfoldable pub outside : Foot → List ℕ → List ℕ
outside f ws = table (λ x. cond (writes f x) 0 (slice_index ws x)) (length ws)

-- what the foot may write is that of us, and the rest is that of ws
unfoldable pub overlaid : Foot → List ℕ → List ℕ → List ℕ
overlaid f us ws = table (λ x. cond (writes f x) (slice_index us x) (slice_index ws x)) (length ws)

-- a change of words, kept to a foot
abbrev pub kept_to : Foot → (List ℕ → List ℕ) → List ℕ → List ℕ
kept_to f change ws = overlaid f (change (masked f ws)) ws
