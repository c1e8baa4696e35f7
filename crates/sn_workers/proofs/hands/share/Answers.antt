use Rattle.std.proofs.Common.{◌≡◌, ◌∙◌, length, sym, ap, subst}
use Rattle.sn_machine.specs.declared.views.View.{View}
use Rattle.sn_machine.specs.Steps.{last_list, split_worker}
use Rattle.sn_round.specs.Scripts.{list_at, sequential}
use Rattle.sn_machine.specs.States.{memory_in}
use Rattle.sn_table.specs.Answers.{main_view}
use Rattle.sn_table.specs.Sweeps.{Serves}
use Rattle.sn_table.proofs.Standing.{serves_gone, serves_on}
use Rattle.sn_workers.proofs.hands.share.Goals as goal

pub seat_all-requires-clause-work : goal.seat_all-requires-clause-work
seat_all-requires-clause-work g c κs within =
    let W = g.W.Work in
    let n = W.jobs c.args.work.now in
    let feet = W.foot_of c.args.work.now in
    let f = W.outcome c.args.work.now in
    let m = main_view c.arm.new.main in
    subst (λ (v : View). Serves n feet f (split_worker v)) (sym c.go.ensures.step) (serves_gone n feet f m c.args.plan.now (memory_in m.main.phase) c.requires.work)

pub finish-requires-clause-work : goal.finish-requires-clause-work
finish-requires-clause-work g c κs within =
    let W = g.W.Work in
    let n = W.jobs c.args.work.now in
    let feet = W.foot_of c.args.work.now in
    let f = W.outcome c.args.work.now in
    let m = main_view c.arm.new.main in
    let first = subst (λ (v : View). Serves n feet f (split_worker v)) (sym c.go.ensures.step) (serves_gone n feet f m c.args.plan.now (memory_in m.main.phase) c.requires.work) in
    let a = main_view c.go.new.main in
    let b = main_view c.seat_all.new.main in
    let e = main_view c.join_all.new.main in
    serves_on n feet f b e _ _ c.join_all.ensures.stands (serves_on n feet f a b _ _ c.seat_all.ensures.stands first)

pub returns-clause-idle : goal.returns-clause-idle
returns-clause-idle g c = c.finish.ensures.round.idle

pub returns-clause-words : goal.returns-clause-words
returns-clause-words g c =
    let f = g.W.Work.outcome c.args.work.now in
    let n = length c.args.plan.now in
    let last = λ (v : View). last_list v.main.phase in
    c.finish.ensures.round.memory_is
    ∙ (ap last_list c.join_all.ensures.stands.phase
    ∙ (ap last_list c.seat_all.ensures.stands.phase
    ∙ (ap last c.go.ensures.step
    ∙ ap (λ (v : View). list_at (sequential f n (memory_in v.main.phase)) n) c.arm.ensures.step)))
