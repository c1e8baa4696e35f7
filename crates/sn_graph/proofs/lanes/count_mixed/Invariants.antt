-- Those that were counted, and those that are left.
use Rattle.std.proofs.Common.{◌≡◌, ◌+◌, length, drop}
use Rattle.sn_graph.specs.Lanes.{mixed_of}
use Rattle.sn_graph.proofs.lanes.count_mixed.Given as goal

abbrev pub invariant-loop-bus : goal.invariant-loop-bus
invariant-loop-bus l = l.count + length (mixed_of (drop l.bus-index l.buses) l.voice) ≡ length (mixed_of l.buses l.voice)
