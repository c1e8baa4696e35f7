use Rattle.std.proofs.Common.{rules, arith, ◌<◌, length, set}
use Rattle.sn_machine.specs.States.{State, IsIdle}
use Rattle.sn_machine.specs.Steps.{after_memory}
use Rattle.sn_machine.specs.Calls.{state_of}
use Rattle.sn_machine.proofs.Seated.{takes}
use Rattle.sn_machine.proofs.machine.Machine.store_idle.Goals as goal

pub returns : goal.returns
returns c =
    let s : State = state_of c.args.self.now in
    let near : 0 < c.args.self.now.views.len = search rules in
    let inside : 0 < length s.views = omega (arith, near, c.args.self.now.views.ok.0) in
    takes s 0 (λ v. IsIdle v) (λ v. after_memory s v c.args.word c.args.value) c.index.result.now c.index_mut-main.result.now
    (record { memory = c.set.new.self; counts = s.counts; views = set s.views 0 c.store_idle.new.self })
    inside c.index.ensures c.index_mut-main.ensures.value (search rules)
    (λ can i. record { memory = c.set.ensures i; counts = s.counts; views = set s.views 0 (c.store_idle.ensures i) })
