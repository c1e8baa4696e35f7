use Rattle.std.proofs.Common.{Result, inl, subst, sym}
use Rattle.sn_clients.specs.declared.playing.Halt.{Halt}
use Rattle.sn_clients.specs.Answers.{end_of}
use Rattle.sn_clients.specs.Looping.{Counted, RunsTo}
use Rattle.sn_clients.proofs.FaultLemmas.{counted_not}
use Rattle.sn_clients.proofs.LoopLemmas.{ends_by, same_inlets}
use Rattle.sn_clients.proofs.desk.Desk.end.Goals as goal

pub returns-in-Ok-clause-ends : goal.returns-in-Ok-clause-ends
returns-in-Ok-clause-ends g c = λ first sinks_first sound_first sound left_first left zeros_first zeros_now h.
    let n = c.finish.new in
    let began = subst (RunsTo g.R.Sink.taken g.R.Sink.faults first sinks_first c.args.sinks.now sound_first sound left_first left zeros_first zeros_now c.args.self.now) c.in-Ok.is h in
    ends_by g.R.Sink.taken g.R.Sink.faults c.finish.result first sinks_first n.sinks sound_first sound left_first left zeros_first zeros_now n.self began.0 (c.finish.ensures.closes first sinks_first sound_first sound left_first left began.1)

pub returns-in-Err-clause-ends : goal.returns-in-Err-clause-ends
returns-in-Err-clause-ends g c = λ first sinks_first sound_first sound left_first left zeros_first zeros_now h.
    inl (subst (RunsTo g.R.Sink.taken g.R.Sink.faults first sinks_first c.args.sinks.now sound_first sound left_first left zeros_first zeros_now c.args.self.now) c.in-Err.is h)

pub returns-in-Err-clause-inlets : goal.returns-in-Err-clause-inlets
returns-in-Err-clause-inlets g c = same_inlets (end_of c.args.self.now.outlet)

pub returns-in-Ok-clause-counted : goal.returns-in-Ok-clause-counted
returns-in-Ok-clause-counted g c = λ before now h.
    counted_not c.finish.result before now c.finish.ensures.only (subst (λ (r : Result (Unit {0}) Halt). Counted r before now) c.in-Ok.is h)

pub returns-in-Err-clause-counted : goal.returns-in-Err-clause-counted
returns-in-Err-clause-counted g c = λ before now h. subst (λ (r : Result (Unit {0}) Halt). Counted r before now) c.in-Err.is h
