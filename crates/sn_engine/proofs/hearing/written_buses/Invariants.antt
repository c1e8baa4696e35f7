-- Of the first buses it is known whether they were written.
use Rattle.std.proofs.Common.{◌≡◌, length}
use Rattle.sn_engine.specs.Hearing.{AreWritten}
use Rattle.sn_engine.proofs.hearing.written_buses.Given as goal

abbrev pub invariant-loop-bus : goal.invariant-loop-bus
invariant-loop-bus l = record {
  size : length l.written ≡ 8;
  written : AreWritten l.block l.fn.memory.words l.bus l.written;
  same : l.memory ≡ l.fn.memory;
}
