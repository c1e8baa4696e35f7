-- What the synth was given, and what it is still to be given.
use Rattle.std.proofs.Common.{drop}
use Rattle.sn_graph.proofs.Laying.{Gives}
use Rattle.sn_graph.proofs.lanes.give_voice.Given as goal

abbrev pub invariant-loop-bus : goal.invariant-loop-bus
invariant-loop-bus l = Gives l.lanes.first l.buses l.next l.initial.voice l.voice l.initial.added l.added l.lane (drop l.bus-index l.buses)
