use Rattle.std.proofs.Common.{◌-◌, length, get_or, ap, subst, arith}
use Rattle.sn_mem.specs.declared.extents.Extent.{Extent}
use Rattle.sn_pool.specs.Pools.{times}
use Rattle.sn_pool.specs.Sorting.{AreInOrder}
use Rattle.sn_pool.specs.Holes.{HolesState, IsLongestIn}
use Rattle.sn_pool.proofs.Orders.{member_at}
use Rattle.sn_pool.proofs.Least.{longest_from_run}
use Rattle.sn_pool.proofs.Searching.{last_is_longest}
use Rattle.sn_pool.proofs.holes.Holes.longest.Goals as goal

pub returns-else-number-eq0 : goal.returns-else-number-eq0
returns-else-number-eq0 c =
    let given = c.as_slice-runs.result.now in
    let d : Extent = record { at = 0; len = 0 } in
    let sorted = subst (λ o. AreInOrder o given) c.self.invariant.by_size c.as_slice-runs.ensures.sorted in
    let last = get_or given (length given - 1) d in
    let some = member_at given (length given - 1) d (omega (arith, c.if-number-eq0.false)) in
    subst (λ (s : HolesState). IsLongestIn s.runs last.len) c.self.view_is
    (longest_from_run c.self.inside.by_place.items last c.self.invariant.runs
    (omega (arith, c.self.invariant.same last, ap (times last) c.as_slice-runs.ensures.items, some))
    (λ x here. last_is_longest given sorted x d (omega (arith, c.self.invariant.same x, ap (times x) c.as_slice-runs.ensures.items, here))))
