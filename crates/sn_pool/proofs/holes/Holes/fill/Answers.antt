use Rattle.std.proofs.Common.{List, Some, None, sym, subst}
use Rattle.sn_mem.specs.declared.extents.Extent.{Extent}
use Rattle.sn_pool.specs.Sorting.{AreInOrder}
use Rattle.sn_pool.specs.Holes.{HolesState, AreIn, IsLastTo}
use Rattle.sn_pool.proofs.Runs.{last_has, none_has}
use Rattle.sn_pool.proofs.holes.Holes.fill.Goals as goal

pub last_to-requires : goal.last_to-requires
last_to-requires c = subst (λ o. AreInOrder o c.as_slice.result.now) c.self.invariant.by_place c.as_slice.ensures.sorted

pub split-requires-clause-inside : goal.split-requires-clause-inside
split-requires-clause-inside c =
    let p = c.args.extent.at in
    let n = c.args.extent.len in
    let last = subst (λ (l : List Extent). IsLastTo p l (Some c.in-Some.run')) c.as_slice.ensures.items c.in-Some.ensures in
    last_has c.self.inside.by_place.items p n c.in-Some.run' c.self.invariant.runs c.requires.some (subst (λ (s : HolesState). AreIn s.runs p n) (sym c.self.view_is) c.requires.free) last

pub unreachable-requires : goal.unreachable-requires
unreachable-requires c =
    let p = c.args.extent.at in
    let n = c.args.extent.len in
    let last = subst (λ (l : List Extent). IsLastTo p l None) c.as_slice.ensures.items c.in-None.ensures in
    none_has c.self.inside.by_place.items p n c.self.invariant.runs c.requires.some (subst (λ (s : HolesState). AreIn s.runs p n) (sym c.self.view_is) c.requires.free) last
