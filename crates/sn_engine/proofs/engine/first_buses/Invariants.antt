-- The places of so many buses.
use Rattle.std.proofs.Common.{◌≡◌}
use Rattle.sn_mem.specs.Blocks.{table}
use Rattle.sn_mem.specs.Layout.{audio_place}
use Rattle.sn_engine.proofs.engine.first_buses.Given as goal

abbrev pub invariant-loop-bus : goal.invariant-loop-bus
invariant-loop-bus l = l.outputs ≡ table audio_place l.bus
