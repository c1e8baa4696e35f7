use Rattle.std.proofs.Common.{rules, arith, ◌≡◌, ◌∙◌, ◌<◌, [], ◌∷◌, ◌++◌, length, set, ap, sym}
use Rattle.sn_machine.specs.declared.views.View.{View}
use Rattle.sn_machine.specs.States.{State}
use Rattle.sn_machine.specs.Steps.{CanSplit, split_worker, after_split}
use Rattle.sn_machine.specs.Calls.{state_of}
use Rattle.sn_machine.proofs.Seated.{same_here, takes, not_none}
use Rattle.sn_machine.proofs.machine.Machine.split.Goals as goal

pub returns : goal.returns
returns c =
    let s : State = state_of c.args.self.now in
    let m : View = c.index_mut-main.result.now in
    let any : 0 < c.args.self.now.views.len = not_none c.args.self.now.views.len (sym c.is_empty.ensures ∙ c.if-is_empty.false) in
    let some : 0 < length s.views = omega (arith, any, c.args.self.now.views.ok.0) in
    let worker : c.in_ok-worker.worker ≡ split_worker m = c.in_ok-worker.ensures ∙ ap split_worker (same_here s.views 0 c.index-2.result.now m some c.index-2.ensures c.index_mut-main.ensures.value) in
    let pushed : c.push.new.self.items ≡ set s.views 0 c.count_split.new.self ++ c.in_ok-worker.worker ∷ [] = search rules in
    takes s 0 CanSplit (λ v. after_split s v) c.index.result.now m
    (record { memory = s.memory; counts = s.counts; views = c.push.new.self.items })
    some c.index.ensures c.index_mut-main.ensures.value (search rules)
    (λ can i. record { memory = s.memory; counts = s.counts; views = (pushed ∙ (λ k. set s.views 0 (c.count_split.ensures k) ++ worker k ∷ [])) i })
