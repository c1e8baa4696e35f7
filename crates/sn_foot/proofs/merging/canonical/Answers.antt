use Rattle.std.proofs.Common.{◌≡◌, ◌∙◌, ℕ, List, ap, sym, subst, rules}
use Rattle.std.specs.List.{All}
use Rattle.std.proofs.lemmas.List.Sorted.{IsNonDecreasingBy-from_sort_by_key, All-permutation}
use Rattle.std.proofs.lemmas.Result.{IfOk-weaker}
use Rattle.sn_mem.specs.declared.extents.Extent.{Extent}
use Rattle.sn_mem.specs.Words.{has}
use Rattle.sn_foot.specs.Canonical.{AreRising, Ends, IsCanonical, canonical, merged, nothing}
use Rattle.sn_foot.proofs.Runs.{rising, merged_moved, has_canonical, is_canonical}
use Rattle.sn_foot.proofs.merging.canonical.Goals as goal

pub merge-requires-clause-order : goal.merge-requires-clause-order
merge-requires-clause-order c =
    let up = IsNonDecreasingBy-from_sort_by_key (λ (e : Extent). e.at) _ c.in_ok-sort_by_key.ensures.sorted (λ a r q k. search rules) in
    subst (AreRising 0) (sym c.deref.ensures.value) (rising c.sort_by_key.new.self.items up)

pub merge-requires-clause-ends : goal.merge-requires-clause-ends
merge-requires-clause-ends c = subst (All Ends) (sym c.deref.ensures.value) (All-permutation Ends _ _ c.sort_by_key.ensures.permutation c.requires)

pub returns : goal.returns
returns c =
    let up = IsNonDecreasingBy-from_sort_by_key (λ (e : Extent). e.at) _ c.in_ok-sort_by_key.ensures.sorted (λ a r q k. search rules) in
    let is : merged nothing c.deref.result.now ≡ canonical c.args.extents.items =
    ap (λ (es : List Extent). merged nothing es) c.deref.ensures.value ∙ merged_moved c.args.extents.items c.sort_by_key.new.self.items c.sort_by_key.ensures.permutation (rising c.sort_by_key.new.self.items up) in
    let made : List Extent → Type 0 = λ found. found ≡ merged nothing c.deref.result.now in
    record {
      list = IfOk-weaker c.merge.result made (λ found. found ≡ canonical c.args.extents.items) (λ found e. e ∙ is) c.merge.ensures;
      words = IfOk-weaker c.merge.result made (λ found. (x : ℕ) → has found x ≡ has c.args.extents.items x) (λ found e x. ap (λ (es : List Extent). has es x) (e ∙ is) ∙ has_canonical c.args.extents.items x) c.merge.ensures;
      canonical = IfOk-weaker c.merge.result made IsCanonical (λ found e. subst IsCanonical (sym (e ∙ is)) (is_canonical c.args.extents.items)) c.merge.ensures;
    }
