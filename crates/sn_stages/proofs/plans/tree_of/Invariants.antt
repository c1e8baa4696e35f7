-- No journal is open.
use Rattle.std.proofs.Common.{◌≡◌, None}
use Rattle.sn_stages.proofs.plans.tree_of.Given as goal

abbrev pub invariant-loop-node : goal.invariant-loop-node
invariant-loop-node l = l.tree.journal ≡ None

abbrev pub invariant-loop-id : goal.invariant-loop-id
invariant-loop-id l = l.tree.journal ≡ None
