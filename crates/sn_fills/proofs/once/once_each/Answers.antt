use Rattle.std.proofs.Common.{◌<◌, ◌≤◌, ◌+◌}
use Rattle.std.specs.List.{All}
use Rattle.std.specs.Global.{Vec}
use Rattle.std.proofs.lemmas.Result.{IfOk-weaker}
use Rattle.sn_fills.specs.declared.fill.Fill.{Fill}
use Rattle.sn_fills.specs.Fills.{AreApart}
use Rattle.sn_fills.specs.Rows.{IsInOrder}
use Rattle.sn_fills.proofs.Lying.{order-apart}
use Rattle.sn_fills.proofs.Overlaying.{order-some}
use Rattle.sn_fills.proofs.Within.{same-end}
use Rattle.sn_fills.proofs.once.once_each.Goals as goal

pub returns-clause-apart : goal.returns-clause-apart
returns-clause-apart c =
    IfOk-weaker c.in_order.result
    (λ (v : Vec Fill). IsInOrder c.args.fills.now v.items)
    (λ (v : Vec Fill). AreApart v.items)
    (λ v is n. order-apart n 0 4294967295 v.items is.order)
    c.in_order.ensures

pub returns-clause-some : goal.returns-clause-some
returns-clause-some c =
    IfOk-weaker c.in_order.result
    (λ (v : Vec Fill). IsInOrder c.args.fills.now v.items)
    (λ (v : Vec Fill). All (λ (f : Fill). 0 < f.count) v.items)
    (λ v is. order-some 0 4294967295 v.items is.order)
    c.in_order.ensures

pub returns-clause-within : goal.returns-clause-within
returns-clause-within c = λ end all.
    IfOk-weaker c.in_order.result
    (λ (v : Vec Fill). IsInOrder c.args.fills.now v.items)
    (λ (v : Vec Fill). All (λ (f : Fill). f.first + f.count ≤ end) v.items)
    (λ v is. same-end end c.args.fills.now v.items is.same (order-some 0 4294967295 v.items is.order) all)
    c.in_order.ensures
