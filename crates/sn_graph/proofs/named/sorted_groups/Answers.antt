use Rattle.std.proofs.Common.{ℤ, List, subst}
use Rattle.std.specs.Prelude.{IsPermutation}
use Rattle.sn_graph.proofs.named.sorted_groups.Goals as goal

pub returns-clause-same : goal.returns-clause-same
returns-clause-same c = subst (λ (ids : List ℤ). IsPermutation ids c.sort_unstable.new.self.items) c.in_ok-groups.ensures c.sort_unstable.ensures.permutation
