use Rattle.std.proofs.Common.{◌/◌, ℕ, List, take, drop, length, subst}
use Rattle.std.specs.Global.{Vec}
use Rattle.std.proofs.lemmas.Result.{IfOk-weaker}
use Rattle.sn_fills.specs.declared.fill.Fill.{Fill}
use Rattle.sn_fills.specs.Rows.{IsInOrder, IsOverlaid}
use Rattle.sn_fills.proofs.Overlaying.{halves-in-order}
use Rattle.sn_fills.proofs.order.+in_order.Goals as goal

pub returns : goal.returns
returns t c =
    let fs : List Fill = c.args.fills.now in
    let m : ℕ = length fs / 2 in
    let one : List Fill = c.in_ok-earlier.earlier.items in
    let two : List Fill = c.in_ok-later.later.items in
    let first : IsInOrder (take m fs) one = subst (λ (gs : List Fill). IsInOrder gs one) c.split_at.ensures.front c.in_ok-earlier.ensures in
    let second : IsInOrder (drop m fs) two = subst (λ (gs : List Fill). IsInOrder gs two) c.split_at.ensures.back c.in_ok-later.ensures in
    IfOk-weaker c.overlaid.result
    (λ (v : Vec Fill). IsOverlaid c.deref.result.now c.deref-2.result.now v.items)
    (λ (v : Vec Fill). IsInOrder fs v.items)
    (λ v over. halves-in-order fs m one two v.items first second
    (subst (λ (gs : List Fill). IsOverlaid one gs v.items) c.deref-2.ensures.value
    (subst (λ (gs : List Fill). IsOverlaid gs c.deref-2.result.now v.items) c.deref.ensures.value over)))
    c.overlaid.ensures
