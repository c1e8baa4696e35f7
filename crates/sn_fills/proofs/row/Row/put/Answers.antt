use Rattle.std.proofs.Common.{◌≡◌, ◌≤◌, ◌+◌, ◌-◌, List, max, min, refl, ap, sym, ◌∙◌, subst, rules}
use Rattle.std.specs.Prelude.{FitsSigned}
use Rattle.std.specs.Int.{w32}
use Rattle.std.proofs.lemmas.Int.{to_z-of_z}
use Rattle.sn_fills.specs.declared.fill.Fill.{Fill}
use Rattle.sn_fills.specs.Rows.{IsPut}
use Rattle.sn_fills.proofs.Putting.{some-put, none-put}
use Rattle.sn_fills.proofs.row.Row.put.Goals as goal

pub returns-in_ok-push : goal.returns-in_ok-push
returns-in_ok-push c =
    let f : Fill = c.args.fill.now in
    let row = c.args.self.now in
    let fits : FitsSigned w32 f.value = search rules in
    let is-first : c.max-first.result ≡ max f.first row.end = c.max-first.ensures in
    let is-end : c.min-end.result ≡ min (f.first + f.count) c.args.until = c.min-end.ensures ∙ ap (λ k. min k c.args.until) c.end.ensures in
    subst (λ (fs : List Fill). IsPut f c.args.until row.end row.fills.items c.min-end.result fs) (sym c.in_ok-push.ensures.items)
    (some-put f c.args.until row.end row.fills.items c.max-first.result (c.min-end.result - c.max-first.result) _ c.min-end.result c.requires.order is-first is-end c.if-first-end.true refl (to_z-of_z w32 f.value fits))

pub returns-else-first-end : goal.returns-else-first-end
returns-else-first-end c =
    let f : Fill = c.args.fill.now in
    let row = c.args.self.now in
    let is-first : c.max-first.result ≡ max f.first row.end = c.max-first.ensures in
    let is-end : c.min-end.result ≡ min (f.first + f.count) c.args.until = c.min-end.ensures ∙ ap (λ k. min k c.args.until) c.end.ensures in
    let none : min (f.first + f.count) c.args.until ≤ max f.first row.end = subst (λ k. k ≤ max f.first row.end) is-end (subst (λ k. c.min-end.result ≤ k) is-first c.if-first-end.false) in
    none-put f c.args.until row.end row.fills.items c.requires.order none
