use Rattle.std.proofs.Common.{◌≡◌, ◌≤◌, true, false, List, length, sym, ap, subst, arith}
use Rattle.std.specs.List.Sorted.{IsPartitionPoint}
use Rattle.sn_mem.specs.declared.extents.Extent.{Extent}
use Rattle.sn_pool.specs.Sorting.{Row, before, AreInOrder, IsOneMore}
use Rattle.sn_pool.proofs.Orders.{inserted_order, inserted_times}
use Rattle.sn_pool.proofs.sorted.Sorted.insert.Goals as goal

pub invariant_of-self : goal.invariant_of-self
invariant_of-self c =
    let o = c.self.inside.order in
    let e = c.args.extent in
    let xs = c.self.inside.items.items in
    let i = c.number_before-index.result in
    let point = subst (λ (l : List Extent). IsPartitionPoint (λ x. before o x e ≡ true) (λ x. before o x e ≡ false) l i) c.deref.ensures.value c.number_before-index.ensures.parted in
    let within : i ≤ length xs = omega (arith, c.number_before-index.ensures.within, ap length c.deref.ensures.value) in
    subst (AreInOrder o) (sym c.in-Ok.ensures.items) (inserted_order o e xs i c.self.invariant within point)

pub returns-clause-added : goal.returns-clause-added
returns-clause-added c =
    let o = c.self.inside.order in
    let e = c.args.extent in
    let xs = c.self.inside.items.items in
    let i = c.number_before-index.result in
    let within : i ≤ length xs = omega (arith, c.number_before-index.ensures.within, ap length c.deref.ensures.value) in
    subst (λ (s : Row). IsOneMore e s.items c.insert.new.self.items) c.self.view_is (subst (IsOneMore e xs) (sym c.in-Ok.ensures.items) (inserted_times o e xs i within))

pub returns-clause-sorted : goal.returns-clause-sorted
returns-clause-sorted c =
    let o = c.self.inside.order in
    let e = c.args.extent in
    let xs = c.self.inside.items.items in
    let i = c.number_before-index.result in
    let point = subst (λ (l : List Extent). IsPartitionPoint (λ x. before o x e ≡ true) (λ x. before o x e ≡ false) l i) c.deref.ensures.value c.number_before-index.ensures.parted in
    let within : i ≤ length xs = omega (arith, c.number_before-index.ensures.within, ap length c.deref.ensures.value) in
    subst (AreInOrder o) (sym c.in-Ok.ensures.items) (inserted_order o e xs i c.self.invariant within point)
