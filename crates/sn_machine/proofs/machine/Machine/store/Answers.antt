use Rattle.std.proofs.Common.{rules, arith, ◌∙◌, ◌<◌, length, set}
use Rattle.sn_machine.specs.States.{State}
use Rattle.sn_machine.specs.Steps.{CanStore, after_store}
use Rattle.sn_machine.specs.Fits.{job_of, picture_of}
use Rattle.sn_machine.specs.Calls.{state_of}
use Rattle.sn_machine.proofs.Seated.{takes, painted_is}
use Rattle.sn_machine.proofs.machine.Machine.store.Goals as goal

pub returns : goal.returns
returns c =
    let s : State = state_of c.args.self.now in
    let near : c.args.seat < c.args.self.now.views.len = search rules in
    let inside : c.args.seat < length s.views = omega (arith, near, c.args.self.now.views.ok.0) in
    takes s c.args.seat (λ v. CanStore v (job_of v) (picture_of v) c.args.word) (λ v. after_store s c.args.seat v (job_of v) (picture_of v) c.args.word c.args.value) c.index.result.now c.index_mut-view.result.now
    (record { memory = c.set.new.self; counts = s.counts; views = set s.views c.args.seat c.paint.new.self })
    inside c.index.ensures c.index_mut-view.ensures.value (search rules)
    (λ can i. record { memory = c.set.ensures i; counts = s.counts; views = set s.views c.args.seat ((c.paint.ensures ∙ painted_is c.index_mut-view.result.now c.args.word c.args.value can.runs) i) })
