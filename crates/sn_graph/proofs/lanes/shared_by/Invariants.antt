-- The shared ones among the first buses were put.
use Rattle.std.proofs.Common.{◌≡◌, ◌&&◌, ℕ, false}
use Rattle.std.specs.Prelude.{not, slice_index_or}
use Rattle.std.specs.List.{filter}
use Rattle.sn_mem.specs.Blocks.{table}
use Rattle.sn_graph.proofs.lanes.shared_by.Given as goal

abbrev pub invariant-loop-bus : goal.invariant-loop-bus
invariant-loop-bus l = l.buses.items ≡ filter (λ n. slice_index_or l.two_mix n false && not (slice_index_or l.above n false)) (table (λ (n : ℕ). n) l.bus)
