-- The ticks that are left give what all of them would.
use Rattle.std.proofs.Common.{◌≡◌, ◌≤◌, ◌+◌, ◌-◌, List, ℕ, Option}
use Rattle.sn_ports.specs.Links.{KeepsEvents}
use Rattle.sn_server.specs.PlayEvents.{Live, tick}
use Rattle.sn_server.specs.Serving.{IsLive, IsReady}
use Rattle.sn_server.proofs.ServingLemmas.{IsTicking}
use Rattle.sn_render.specs.Faults.{NothingFailed}
use Rattle.sn_server.proofs.ticking.ticks.Given as goal

abbrev pub invariant-loop-done : goal.invariant-loop-done
invariant-loop-done g l = record {
  follows : (v : Live) (sound_old sent_old : Option (List ℕ)) → IsLive sound_old (g.O.Sink.taken l.fn.sound) sent_old (g.L.Link.sent l.fn.link) v l.fn.engine.running l.framer
      → IsTicking sound_old (g.O.Sink.taken l.sound) sent_old (g.L.Link.sent l.link) v (tick l.count v) (l.count - l.done) l.engine.running l.framer;
  few : l.done ≤ l.count;
  first : l.first ≡ l.fn.engine.running.block;
  ready : IsReady l.engine.running l.framer;
  block : l.engine.running.block ≡ l.fn.engine.running.block + l.done;
  events : KeepsEvents (g.L.Link.left l.fn.link) (g.L.Link.left l.link);
  link_later : g.L.Link.faults l.fn.link ≤ g.L.Link.faults l.link;
  sound_later : g.O.Sink.faults l.fn.sound ≤ g.O.Sink.faults l.sound;
  still : NothingFailed (g.L.Link.faults l.fn.link) (g.L.Link.faults l.link) (g.O.Sink.faults l.fn.sound) (g.O.Sink.faults l.sound);
}

abbrev pub decreases-loop-done : goal.decreases-loop-done
decreases-loop-done g l = l.count - l.done
