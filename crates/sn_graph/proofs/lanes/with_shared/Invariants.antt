-- The first flags are put.
use Rattle.std.proofs.Common.{◌≡◌, ◌||◌, false, length, take}
use Rattle.std.specs.Prelude.{slice_index_or}
use Rattle.sn_mem.specs.Blocks.{table}
use Rattle.sn_graph.specs.Lanes.{is_in}
use Rattle.sn_graph.proofs.lanes.with_shared.Given as goal

abbrev pub invariant-loop-bus : goal.invariant-loop-bus
invariant-loop-bus l = record {
  size : length l.flags ≡ 128;
  first : take l.bus l.flags ≡ table (λ n. slice_index_or l.above n false || is_in n l.buses) l.bus;
}
