-- The samples of the first buses were put.
use Rattle.std.proofs.Common.{◌≡◌, ◌≤◌, ◌+◌, ◌*◌, ◌++◌, length}
use Rattle.std.specs.Prelude.{slice_index, vec_capacity}
use Rattle.sn_mem.specs.Blocks.{sample_in, table}
use Rattle.sn_engine.proofs.hearing.append_copied.Given as goal

abbrev pub invariant-loop-bus : goal.invariant-loop-bus
invariant-loop-bus l = record {
  samples : l.samples.items ≡ l.fn.samples.items ++ table (λ c. sample_in (slice_index l.fn.memory.words (l.at + 64 * c + l.frame))) l.bus;
  count : length l.samples.items ≡ length l.fn.samples.items + l.bus;
  room : vec_capacity l.fn.samples ≤ vec_capacity l.samples;
  same : l.memory ≡ l.fn.memory;
}
