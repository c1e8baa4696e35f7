use Rattle.std.proofs.Common.{◌≡◌, ◌<◌, true, false, List, length, sym, ap, subst, arith}
use Rattle.std.specs.List.Sorted.{IsPartitionPoint}
use Rattle.sn_mem.specs.declared.extents.Extent.{Extent}
use Rattle.sn_pool.specs.Pools.{times}
use Rattle.sn_pool.specs.Sorting.{Row, before, IsOneMore}
use Rattle.sn_pool.proofs.Orders.{found, removed_times}
use Rattle.sn_pool.proofs.sorted.Sorted.remove.Goals as goal

pub remove-requires : goal.remove-requires
remove-requires c =
    let o = c.self.inside.order in
    let e = c.args.extent in
    let point = subst (λ (l : List Extent). IsPartitionPoint (λ x. before o x e ≡ true) (λ x. before o x e ≡ false) l c.number_before-index.result) c.deref.ensures.value c.number_before-index.ensures.parted in
    let some = subst (λ (s : Row). 0 < times e s.items) (sym c.self.view_is) c.requires in
    let at = found o e c.self.inside.items.items c.number_before-index.result c.self.invariant some point in
    omega (arith, at.0, ap length c.deref.ensures.value, c.deref.ensures.len)

pub returns-clause-removed : goal.returns-clause-removed
returns-clause-removed c =
    let o = c.self.inside.order in
    let e = c.args.extent in
    let xs = c.self.inside.items.items in
    let i = c.number_before-index.result in
    let point = subst (λ (l : List Extent). IsPartitionPoint (λ x. before o x e ≡ true) (λ x. before o x e ≡ false) l i) c.deref.ensures.value c.number_before-index.ensures.parted in
    let some = subst (λ (s : Row). 0 < times e s.items) (sym c.self.view_is) c.requires in
    let at = found o e xs i c.self.invariant some point in
    subst (λ (s : Row). IsOneMore e c.remove.new.self.items s.items) c.self.view_is
    (subst (λ (l : List Extent). IsOneMore e l xs) (sym c.remove.ensures.items) (removed_times o e xs i at.0 at.1))
