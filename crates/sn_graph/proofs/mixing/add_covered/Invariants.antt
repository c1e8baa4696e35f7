-- The flags from the first bus that begins in the extent up to this one are set.
use Rattle.std.proofs.Common.{◌≡◌, ◌<◌, ℕ, ◌||◌, ◌&&◌, false, length}
use Rattle.std.specs.Prelude.{nat_le, nat_lt, slice_index_or}
use Rattle.sn_graph.proofs.mixing.add_covered.Given as goal

abbrev pub invariant-loop-bus : goal.invariant-loop-bus
invariant-loop-bus l = record {
  size : length l.flags ≡ 128;
  each : (n : ℕ) → n < 128 → slice_index_or l.flags n false ≡ (slice_index_or l.fn.flags n false || (nat_le l.first n && nat_lt n l.bus));
}
