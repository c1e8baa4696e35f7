use Rattle.std.proofs.Common.{length}
use Rattle.sn_server.proofs.PacketLemmas.{IsTaking}
use Rattle.sn_server.proofs.receiving.take_packets.Given as goal

abbrev pub invariant-loop-frame : goal.invariant-loop-frame
invariant-loop-frame l = IsTaking l.initial.engine.running l.initial.framer l.engine.running l.framer

abbrev pub decreases-loop-frame : goal.decreases-loop-frame
decreases-loop-frame l = length l.framer.kept
