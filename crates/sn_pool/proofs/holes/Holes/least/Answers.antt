use Rattle.std.proofs.Common.{List, sym, ap, subst, arith}
use Rattle.sn_mem.specs.declared.extents.Extent.{Extent}
use Rattle.sn_pool.specs.Pools.{times}
use Rattle.sn_pool.specs.Sorting.{AreInOrder}
use Rattle.sn_pool.specs.Holes.{HolesState, IsLeastIn, IsLeastRun, first_of}
use Rattle.sn_pool.proofs.Least.{first_of_is, least_from_run, least_place_is}
use Rattle.sn_pool.proofs.holes.Holes.least.Goals as goal

pub long_runs-long-requires : goal.long_runs-long-requires
long_runs-long-requires c = subst (λ o. AreInOrder o c.as_slice.result.now) c.self.invariant.by_size c.as_slice.ensures.sorted

pub returns-then-long-by_place : goal.returns-then-long-by_place
returns-then-long-by_place c =
    let runs = c.self.inside.by_place.items in
    let n = c.args.n in
    let found = least_place_is runs c.long_runs-long.result.now n c.long_runs-long.ensures.long
    (λ e h. omega (arith, c.self.invariant.same e, ap (times e) c.as_slice.ensures.items, c.long_runs-long.ensures.some e h))
    (λ e h le. c.long_runs-long.ensures.all e (omega (arith, c.self.invariant.same e, ap (times e) c.as_slice.ensures.items, h)) le) in
    let least = subst (IsLeastRun runs n) (sym c.least_place.ensures) found in
    subst (λ (s : HolesState). IsLeastIn s.runs n c.least_place.result) c.self.view_is (least_from_run runs n c.least_place.result c.self.invariant.runs c.requires least)

pub returns-else-long-by_place : goal.returns-else-long-by_place
returns-else-long-by_place c =
    let runs = c.self.inside.by_place.items in
    let n = c.args.n in
    let given = c.as_slice-by_place.result.now in
    let sorted = subst (λ o. AreInOrder o given) c.self.invariant.by_place c.as_slice-by_place.ensures.sorted in
    let found = subst (λ (l : List Extent). IsLeastRun l n (first_of n given)) c.as_slice-by_place.ensures.items (first_of_is n given sorted) in
    let least = subst (IsLeastRun runs n) (sym c.first_of.ensures) found in
    subst (λ (s : HolesState). IsLeastIn s.runs n c.first_of.result) c.self.view_is (least_from_run runs n c.first_of.result c.self.invariant.runs c.requires least)
