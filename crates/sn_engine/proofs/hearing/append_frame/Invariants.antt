-- The samples of the first buses were put.
use Rattle.std.proofs.Common.{◌≡◌, ◌≤◌, ◌+◌, ◌++◌, ℕ, length}
use Rattle.std.specs.Prelude.{slice_index_or, vec_capacity}
use Rattle.sn_mem.specs.Blocks.{table}
use Rattle.sn_mem.specs.Buses.{heard, silent, audio_buses}
use Rattle.sn_engine.specs.Hearing.{AreWritten}
use Rattle.sn_engine.proofs.hearing.append_frame.Given as goal

abbrev pub invariant-loop-bus : goal.invariant-loop-bus
invariant-loop-bus l = record {
  samples : (b : ℕ) → AreWritten b l.fn.memory.words 8 l.written → l.samples.items ≡ l.fn.samples.items ++ table (λ c. heard b (slice_index_or (audio_buses l.fn.memory.words) c silent) l.frame) l.bus;
  count : length l.samples.items ≡ length l.fn.samples.items + l.bus;
  room : vec_capacity l.fn.samples ≤ vec_capacity l.samples;
  same : l.memory ≡ l.fn.memory;
}
