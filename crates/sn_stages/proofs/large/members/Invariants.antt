-- No journal is open.
use Rattle.std.proofs.Common.{◌≡◌, None}
use Rattle.sn_stages.proofs.large.members.Given as goal

abbrev pub invariant-loop-number : goal.invariant-loop-number
invariant-loop-number l = l.tree.journal ≡ None
