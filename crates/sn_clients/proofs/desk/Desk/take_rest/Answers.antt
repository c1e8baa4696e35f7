use Rattle.std.proofs.Common.{◌∙◌, refl}
use Rattle.sn_clients.specs.Answers.{end_of}
use Rattle.sn_clients.proofs.LoopLemmas.{halted, inlets_both, same_inlets}
use Rattle.sn_clients.proofs.desk.Desk.take_rest.Goals as goal

pub loop-init : goal.loop-init
loop-init g c = record { outlet = c.requires.outlet; plays = λ first sinks_first sound_first sound left_first left at_zero h. h; steady = c.requires.steady; inlets = same_inlets (end_of c.args.self.now.outlet); stopped = refl }

pub loop-preserved : goal.loop-preserved
loop-preserved g c =
    let i = c.loop.invariant in
    let e = c.in_ok-is_more.ensures in
    record {
      outlet = e.outlet;
      plays = λ first sinks_first sound_first sound left_first left at_zero h. e.plays first sinks_first sound_first sound left_first left at_zero (i.plays first sinks_first sound_first sound left_first left at_zero h);
      steady = e.steady;
      inlets = inlets_both (end_of c.args.self.now.outlet) (end_of c.loop.self.outlet) (end_of c.take_note.new.self.outlet) i.inlets e.inlets;
      stopped = e.stopped ∙ i.stopped;
    }

pub returns-in_err-is_more-clause-plays : goal.returns-in_err-is_more-clause-plays
returns-in_err-is_more-clause-plays g c = λ first sinks_first sound_first sound left_first left at_zero h.
    let n = c.take_note.new in
    halted g.R.Sink.taken g.R.Sink.faults first sinks_first n.sinks sound_first sound at_zero left_first left n.self c.from_residual.result c.in_err-is_more.field-0.0 c.from_residual.ensures.1
    (c.in_err-is_more.ensures.plays first sinks_first sound_first sound left_first left at_zero (c.loop.invariant.plays first sinks_first sound_first sound left_first left at_zero h))

pub returns-in_err-is_more-clause-inlets : goal.returns-in_err-is_more-clause-inlets
returns-in_err-is_more-clause-inlets g c = inlets_both (end_of c.args.self.now.outlet) (end_of c.loop.self.outlet) (end_of c.take_note.new.self.outlet) c.loop.invariant.inlets c.take_note.ensures.inlets
