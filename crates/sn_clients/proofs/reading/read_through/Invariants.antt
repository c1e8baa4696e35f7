use Rattle.std.proofs.Common.{◌≡◌, ◌<◌, ◌≤◌, length}
use Rattle.sn_osc.specs.Frames.{cut, first_frame}
use Rattle.sn_clients.specs.Answers.{IsInletOf, sender_of}
use Rattle.sn_clients.specs.Reading.{IsReading}
use Rattle.sn_clients.proofs.reading.read_through.Given as goal

abbrev pub invariant-loop : goal.invariant-loop
invariant-loop g l = record {
  inlet : IsInletOf l.relay l.inlet;
  client : (sender_of l.inlet).client ≡ (sender_of l.fn.inlet).client;
  read : IsReading (g.S.Source.left l.fn.source) (g.S.Source.left l.source) (sender_of l.inlet).frames l.framer;
  whole : first_frame l.framer.kept ≡ cut;
  piece : (0 < length l.piece) × (length l.piece ≤ 65536);
  faults : g.S.Source.faults l.source ≡ g.S.Source.faults l.fn.source;
}
