use Rattle.std.proofs.Common.{rules, arith, ◌≡◌, ◌∙◌, ◌-◌, ◌<◌, ◌++◌, length, set, get_or, ap}
use Rattle.sn_machine.specs.declared.views.View.{View}
use Rattle.sn_machine.specs.States.{State}
use Rattle.sn_machine.specs.Steps.{Owes, paid_view, after_release}
use Rattle.sn_machine.specs.Calls.{state_of, debt_at, front_of, back_of}
use Rattle.sn_machine.proofs.Seated.{same_here, takes, parts_are}
use Rattle.sn_machine.proofs.machine.Machine.release.Goals as goal

pub returns : goal.returns
returns c =
    let s : State = state_of c.args.self.now in
    let n = c.args.number in
    let m : View = c.index_mut-view.result.now in
    let near : c.args.seat < c.args.self.now.views.len = search rules in
    let inside : c.args.seat < length s.views = omega (arith, near, c.args.self.now.views.ok.0) in
    let same : c.in-Some.successor ≡ (debt_at m n).1 = c.in-Some.ensures.1 ∙ ap (λ (v : View). (debt_at v n).1) (same_here s.views c.args.seat c.index-2.result.now m inside c.index-2.ensures c.index_mut-view.ensures.value) in
    let counts : c.set.new.self ≡ set s.counts (debt_at m n).1 (get_or s.counts (debt_at m n).1 0 - 1) =
    c.set.ensures ∙ (ap (set s.counts c.in-Some.successor) c.less-left.ensures ∙ ap (λ q. set s.counts q (get_or s.counts q 0 - 1)) same) in
    let view : c.pay.new.self ≡ paid_view m (debt_at m n).1 (front_of m n ++ back_of m n) (get_or s.counts (debt_at m n).1 0 - 1) =
    c.pay.ensures ∙ (ap (paid_view m c.in-Some.successor (front_of m n ++ back_of m n)) c.less-left.ensures ∙ ap (λ q. paid_view m q (front_of m n ++ back_of m n) (get_or s.counts q 0 - 1)) same) in
    takes s c.args.seat (λ v. Owes v (front_of v n) (debt_at v n).0 (debt_at v n).1 (back_of v n)) (λ v. after_release s c.args.seat v (debt_at v n).1 (front_of v n ++ back_of v n)) c.index-2.result.now m
    (record { memory = s.memory; counts = c.set.new.self; views = set s.views c.args.seat c.pay.new.self })
    inside c.index-2.ensures c.index_mut-view.ensures.value (parts_are c.index-2.result.now.worker.debts n c.in-Some.ensures.0)
    (λ can i. record { memory = s.memory; counts = counts i; views = set s.views c.args.seat (view i) })
