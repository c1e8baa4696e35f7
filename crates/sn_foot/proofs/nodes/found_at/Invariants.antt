-- What was found, and what is left of the walk.
use Rattle.std.proofs.Common.{◌≡◌, ◌++◌, map}
use Rattle.sn_tree.specs.Trees.{running_labels, subtree}
use Rattle.sn_foot.proofs.nodes.found_at.Given as goal

abbrev pub invariant-loop-visit : goal.invariant-loop-visit
invariant-loop-visit l = map (λ h. h.now) l.found.items ++ map (λ x. x.payload) l.visit-iterator ≡ map (λ x. x.payload) (running_labels (subtree l.node.id l.tree.attached))
