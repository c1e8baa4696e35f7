-- The events that were taken so far give what was written, and each takes bytes or blocks of those that may come.
use Rattle.std.proofs.Common.{◌≡◌, ◌≤◌, ◌+◌, ◌-◌, ◌^◌, length}
use Rattle.sn_server.specs.Serving.{IsReady, IsServing}
use Rattle.sn_render.specs.Faults.{NothingFailed}
use Rattle.sn_server.proofs.serving.take_events.Given as goal

abbrev pub invariant-loop-how : goal.invariant-loop-how
invariant-loop-how g l = record {
  serving : IsServing l.fn.engine.running.settings l.fn.engine.running.waiting.base (g.L.Link.left l.fn.link) (g.L.Link.left l.link) (g.O.Sink.taken l.fn.sound) (g.O.Sink.taken l.sound) (g.L.Link.sent l.fn.link) (g.L.Link.sent l.link) l.engine.running l.framer;
  ready : IsReady l.engine.running l.framer;
  piece : length l.piece.items ≡ 65536;
  link_later : g.L.Link.faults l.fn.link ≤ g.L.Link.faults l.link;
  sound_later : g.O.Sink.faults l.fn.sound ≤ g.O.Sink.faults l.sound;
  still : NothingFailed (g.L.Link.faults l.fn.link) (g.L.Link.faults l.link) (g.O.Sink.faults l.fn.sound) (g.O.Sink.faults l.sound);
}

abbrev pub decreases-loop-how : goal.decreases-loop-how
decreases-loop-how g l = (2 ^ 62 - l.framer.fed) + (2 ^ 62 - l.engine.running.block)
