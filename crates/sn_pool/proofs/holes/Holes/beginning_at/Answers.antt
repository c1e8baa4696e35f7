use Rattle.std.proofs.Common.{subst}
use Rattle.sn_pool.specs.Sorting.{AreInOrder}
use Rattle.sn_pool.proofs.holes.Holes.beginning_at.Goals as goal

pub last_to-requires : goal.last_to-requires
last_to-requires c = subst (λ o. AreInOrder o c.as_slice.result.now) c.self.invariant.by_place c.as_slice.ensures.sorted
