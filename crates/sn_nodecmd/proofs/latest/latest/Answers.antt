use Rattle.std.proofs.Common.{◌≡◌, ◌∙◌, ap, sym, subst}
use Rattle.std.proofs.lemmas.List.{with_items_is}
use Rattle.std.proofs.lemmas.Result.{IfOk-weaker}
use Rattle.sn_nodecmd.specs.Covering.{AreJudged, AreLeft, items_in, uncovered}
use Rattle.sn_nodecmd.proofs.LatestLemmas.{same-length, all-left, uncovered-left}
use Rattle.sn_nodecmd.proofs.latest.latest.Goals as goal

pub returns-then-len-lt-MANY : goal.returns-then-len-lt-MANY
returns-then-len-lt-MANY g c = all-left g.T.Covering.covered c.args.items.items

pub returns : goal.returns
returns g c =
    let seen = c.deref-4.result.now in
    let marked = c.mark_all.new.judged in
    let len = same-length marked c.deref_mut.result.now c.mark_all.ensures.items ∙ c.deref_mut.ensures.len in
    let is : seen ≡ marked = c.deref-4.ensures.value ∙ with_items_is c.in_ok-judged.judged marked len in
    let judged : AreJudged g.T.Covering.covered seen = subst (AreJudged g.T.Covering.covered) (sym is) c.mark_all.ensures.judged in
    let items : items_in seen ≡ c.args.items.items = ap items_in is ∙ c.mark_all.ensures.items ∙ ap items_in c.deref_mut.ensures.value ∙ c.in_ok-judged.ensures.items ∙ c.deref.ensures.value in
    IfOk-weaker c.uncovered.result
    (λ v. v.items ≡ uncovered seen)
    (λ v. AreLeft g.T.Covering.covered c.args.items.items v.items)
    (λ v left. subst (AreLeft g.T.Covering.covered c.args.items.items) (sym left) (subst (λ all. AreLeft g.T.Covering.covered all (uncovered seen)) items (uncovered-left g.T.Covering.covered seen judged)))
    c.uncovered.ensures
