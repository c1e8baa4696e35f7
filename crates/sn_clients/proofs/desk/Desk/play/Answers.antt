use Rattle.std.proofs.Common.{refl}
use Rattle.sn_clients.specs.Answers.{end_of}
use Rattle.sn_clients.proofs.LoopLemmas.{halted_moved, inlets_both, inlets_stay}
use Rattle.sn_clients.proofs.desk.Desk.play.Goals as goal

pub returns-in-Ok : goal.returns-in-Ok
returns-in-Ok g c =
    let e = c.in-Ok.ensures in
    record { outlet = e.outlet; plays = e.plays; steady = e.steady; few = e.few; full = e.full; zero = e.zero; counted = e.counted; inlets = e.inlets; stopped = e.stopped }

pub returns-in-Err : goal.returns-in-Err
returns-in-Err g c =
    let e = c.in-Err.ensures in
    let n = c.run.new in
    let s = c.stop in
    record {
      outlet = s.ensures.outlet;
      plays = λ first sinks_first sound_first left_first h.
          let (at_zero, counted, halted) = e.plays first sinks_first sound_first left_first h in
          (at_zero, counted, halted_moved g.R.Sink.taken g.R.Sink.faults first sinks_first n.sinks sound_first (g.O.Sink.taken n.sound) at_zero left_first (g.T.Pulse.left n.pulse) n.self _ c.in-Err.halt refl refl s.ensures.end halted);
      steady = tt;
      few = e.few;
      full = e.full;
      zero = tt;
      counted = e.counted;
      inlets = inlets_both (end_of c.args.self.now.outlet) (end_of n.self.outlet) (end_of s.new.outlet) e.inlets (inlets_stay (end_of n.self.outlet) (end_of s.new.outlet) s.ensures.end);
      stopped = tt;
    }
