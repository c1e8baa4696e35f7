-- The groups so far, and those of the clashes that are left.
use Rattle.std.proofs.Common.{◌≡◌, ◌++◌, drop, map}
use Rattle.sn_graph.proofs.named.groups_of.Given as goal

abbrev pub invariant-loop-clash : goal.invariant-loop-clash
invariant-loop-clash l = l.groups.items ++ map (λ c. c.group) (drop l.clash-index l.clashes) ≡ map (λ c. c.group) l.clashes
