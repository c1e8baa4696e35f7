use Rattle.std.proofs.Common.{subst}
use Rattle.sn_pool.specs.declared.sorted.Order.TheVariants.{Place}
use Rattle.sn_pool.specs.Holes.{HolesState}
use Rattle.sn_pool.specs.Sorting.{AreInOrder}
use Rattle.sn_pool.proofs.holes.Holes.layout.Goals as goal

pub returns-clause-sorted : goal.returns-clause-sorted
returns-clause-sorted c =
    subst (λ (s : HolesState). AreInOrder Place s.runs) c.self.view_is
    (subst (AreInOrder Place) c.as_slice.ensures.items (subst (λ o. AreInOrder o c.as_slice.result.now) c.self.invariant.by_place c.as_slice.ensures.sorted))
