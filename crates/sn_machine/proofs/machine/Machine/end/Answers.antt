use Rattle.std.proofs.Common.{rules, arith, ◌≡◌, ◌∙◌, ◌<◌, length, set, ap, subst}
use Rattle.sn_machine.specs.States.{State, ENDED}
use Rattle.sn_machine.specs.Steps.{CanEnd, ended_view, after_end}
use Rattle.sn_machine.specs.Fits.{job_of, picture_of}
use Rattle.sn_machine.specs.Calls.{state_of}
use Rattle.sn_machine.proofs.Seated.{same_here, takes}
use Rattle.sn_machine.proofs.machine.Machine.end.Goals as goal

pub returns : goal.returns
returns c =
    let s : State = state_of c.args.self.now in
    let near : c.args.seat < c.args.self.now.views.len = search rules in
    let inside : c.args.seat < length s.views = omega (arith, near, c.args.self.now.views.ok.0) in
    let same : c.in-Some.job ≡ job_of c.index_mut-view.result.now = c.in-Some.ensures.0 ∙ ap job_of (same_here s.views c.args.seat c.index.result.now c.index_mut-view.result.now inside c.index.ensures c.index_mut-view.ensures.value) in
    takes s c.args.seat (λ v. CanEnd v (job_of v) (picture_of v)) (λ v. after_end s c.args.seat v (job_of v)) c.index.result.now c.index_mut-view.result.now
    (record { memory = s.memory; counts = c.set.new.self; views = set s.views c.args.seat c.end.new.self })
    inside c.index.ensures c.index_mut-view.ensures.value (subst (λ j. CanEnd c.index.result.now j (picture_of c.index.result.now)) c.in-Some.ensures.0 c.in-Some.ensures.1)
    (λ can i. record { memory = s.memory; counts = (c.set.ensures ∙ ap (λ j. set s.counts j ENDED) same) i; views = set s.views c.args.seat ((c.in_ok-end.ensures ∙ ap (ended_view c.index_mut-view.result.now) same) i) })
