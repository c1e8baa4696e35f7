use Rattle.std.proofs.Common.{rules, arith, ◌<◌, length, set}
use Rattle.sn_machine.specs.States.{State}
use Rattle.sn_machine.specs.Steps.{CanGo, after_go}
use Rattle.sn_machine.specs.Calls.{state_of}
use Rattle.sn_machine.proofs.Seated.{takes}
use Rattle.sn_machine.proofs.machine.Machine.go.Goals as goal

pub returns : goal.returns
returns c =
    let s : State = state_of c.args.self.now in
    let near : 0 < c.args.self.now.views.len = search rules in
    let inside : 0 < length s.views = omega (arith, near, c.args.self.now.views.ok.0) in
    takes s 0 (λ v. CanGo v c.args.plan c.args.script) (λ v. after_go s v c.args.plan c.args.script) c.index.result.now c.index_mut-main.result.now
    (record { memory = s.memory; counts = s.counts; views = set s.views 0 c.go.new.self })
    inside c.index.ensures c.index_mut-main.ensures.value (search rules)
    (λ can i. record { memory = s.memory; counts = s.counts; views = set s.views 0 (c.in_ok-go.ensures i) })
