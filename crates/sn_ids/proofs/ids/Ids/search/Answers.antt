use Rattle.std.proofs.Common.{◌≡◌, ◌∙◌, ℤ, IfOk, IfErr, rules, sym, ap, subst, w32, to_z, of_z}
use Rattle.std.specs.Ordering.{int_cmp}
use Rattle.std.specs.List.Sorted.{IsBinarySearchResult}
use Rattle.std.proofs.lemmas.Int.{to_z-of_z}
use Rattle.std.proofs.lemmas.List.Sorted.{answers_always}
use Rattle.sn_ids.specs.Pairs.{Pairs, Table, IsRising, IsAt, IsGapFor}
use Rattle.sn_ids.proofs.Place.{searched}
use Rattle.sn_ids.proofs.ids.Ids.search.Goals as goal

pub returns : goal.returns
returns c =
    let by_key : IsBinarySearchResult (λ pair. int_cmp pair.0 (to_z w32 (of_z w32 c.args.id))) c.deref.result.now c.binary_search_by_key.result =
    c.binary_search_by_key.ensures.position (λ pair. pair.0) (answers_always _ _ _ (λ f a r g called. search rules)) in
    let same : c.deref.result.now ≡ c.args.self.now.pairs = c.deref.ensures.value ∙ ap (λ (t : Table). t.pairs) c.self.view_is in
    let found = searched c.deref.result.now (subst (λ l. IsRising l) (sym c.deref.ensures.value) c.self.invariant) (to_z w32 (of_z w32 c.args.id)) c.binary_search_by_key.result c.binary_search_by_key.ensures.bound by_key in
    subst (λ (x : ℤ). record { found : IfOk c.binary_search_by_key.result (IsAt c.args.self.now.pairs x); absent : IfErr c.binary_search_by_key.result (IsGapFor c.args.self.now.pairs x) }) (to_z-of_z w32 c.args.id c.ranges.id)
    (subst (λ (l : Pairs). record { found : IfOk c.binary_search_by_key.result (IsAt l (to_z w32 (of_z w32 c.args.id))); absent : IfErr c.binary_search_by_key.result (IsGapFor l (to_z w32 (of_z w32 c.args.id))) }) same found)
