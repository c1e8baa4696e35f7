use Rattle.std.proofs.Common.{◌∙◌, ℤ, List, ap, map, subst, sym}
use Rattle.std.specs.Prelude.{IsSorted}
use Rattle.std.specs.Ordering.{int_cmp, int_eq}
use Rattle.std.proofs.lemmas.List.Sorted.{list_any-IsPermutation}
use Rattle.sn_clash.specs.declared.clash.Clash.{Clash}
use Rattle.sn_graph.specs.Plans.{is_listed}
use Rattle.sn_graph.proofs.named.NamedGroups.has.Goals as goal

pub is_among-requires : goal.is_among-requires
is_among-requires c = subst (IsSorted int_cmp) (sym c.as_slice.ensures.value) c.self.invariant.0

pub returns : goal.returns
returns c =
    c.is_among.ensures
    ∙ ap (λ (ids : List ℤ). is_listed ids c.args.id.now) c.as_slice.ensures.value
    ∙ sym (list_any-IsPermutation (λ (x : ℤ). int_eq x c.args.id.now) (map (λ (x : Clash). x.group) c.self.inside.clashes.now) c.self.inside.sorted.items c.self.invariant.1)
    ∙ ap (λ (ids : List ℤ). is_listed ids c.args.id.now) c.self.view_is
