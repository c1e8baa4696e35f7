use Rattle.std.proofs.Common.{rules, arith, ◌≡◌, ◌∙◌, ◌<◌, true, length, set, get_or, ap}
use Rattle.sn_machine.specs.States.{State}
use Rattle.sn_machine.specs.Steps.{read_view, after_look}
use Rattle.sn_machine.specs.Calls.{state_of}
use Rattle.sn_machine.proofs.Seated.{takes}
use Rattle.sn_machine.proofs.machine.Machine.look.Goals as goal

pub returns : goal.returns
returns c =
    let s : State = state_of c.args.self.now in
    let near : c.args.seat < c.args.self.now.views.len = search rules in
    let inside : c.args.seat < length s.views = omega (arith, near, c.args.self.now.views.ok.0) in
    let view : c.read.new.self ≡ read_view c.index_mut-view.result.now c.args.job (get_or s.counts c.args.job 0) = c.read.ensures ∙ ap (read_view c.index_mut-view.result.now c.args.job) c.word-word.ensures in
    takes s c.args.seat (λ v. v.worker.live ≡ true) (λ v. after_look s c.args.seat v c.args.job) c.index.result.now c.index_mut-view.result.now
    (record { memory = s.memory; counts = s.counts; views = set s.views c.args.seat c.read.new.self })
    inside c.index.ensures c.index_mut-view.ensures.value (search rules)
    (λ can i. record { memory = s.memory; counts = s.counts; views = set s.views c.args.seat (view i) })
