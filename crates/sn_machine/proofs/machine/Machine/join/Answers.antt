use Rattle.std.proofs.Common.{rules, arith, ◌≡◌, ◌∙◌, ◌<◌, length, set, ap}
use Rattle.sn_machine.specs.declared.views.View.{View}
use Rattle.sn_machine.specs.States.{State}
use Rattle.sn_machine.specs.Steps.{join_view}
use Rattle.sn_machine.specs.Calls.{state_of, learned}
use Rattle.sn_machine.proofs.Seated.{here, same_here}
use Rattle.sn_machine.proofs.machine.Machine.join.Goals as goal

pub returns : goal.returns
returns c =
    let s : State = state_of c.args.self.now in
    let m : View = c.index_mut-main.result.now in
    let w : View = c.index.result.now in
    let any : 0 < c.args.self.now.views.len = search rules in
    let some : 0 < length s.views = omega (arith, any, c.args.self.now.views.ok.0) in
    let near : c.args.seat < c.args.self.now.views.len = search rules in
    let inside : c.args.seat < length s.views = omega (arith, near, c.args.self.now.views.ok.0) in
    let ended : c.as_slice.result.now ≡ w.worker.ended =
    c.as_slice.ensures ∙ (c.in_ok-ended.ensures ∙ ap (λ (v : View). v.worker.ended) (same_here s.views c.args.seat c.index-2.result.now w inside c.index-2.ensures c.index.ensures)) in
    let main : c.take_in.new.self ≡ join_view m w = c.in_ok-take_in.ensures ∙ ap (learned m) ended in (
      m,
      w,
      here s.views 0 m some c.index_mut-main.ensures.value,
      search rules,
      here s.views c.args.seat w inside c.index.ensures,
      search rules,
      (λ i. record { memory = s.memory; counts = s.counts; views = set (set s.views 0 (main i)) c.args.seat (c.in_ok-left.ensures i) }),
    )
