-- The flags tell of the extents before this one.
use Rattle.std.proofs.Common.{◌≡◌, ◌*◌, take}
use Rattle.sn_mem.specs.Blocks.{table}
use Rattle.sn_mem.specs.Words.{has}
use Rattle.sn_graph.proofs.mixing.buses_of.Given as goal

abbrev pub invariant-loop-extent : goal.invariant-loop-extent
invariant-loop-extent l = l.flags ≡ table (λ n. has (take l.extent-index l.voice.reach.mixes) (65 * n)) 128
