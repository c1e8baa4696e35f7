use Rattle.std.proofs.Common.{reverse, length}
use Rattle.sn_tree.proofs.Dropping.{IsDropping}
use Rattle.sn_tree.proofs.tree.remove_all.Given as goal

abbrev pub invariant-loop-key : goal.invariant-loop-key
invariant-loop-key g l = IsDropping (reverse l.fn.keys.items) l.fn.payloads (reverse l.keys.items) l.payloads

abbrev pub decreases-loop-key : goal.decreases-loop-key
decreases-loop-key g l = length l.keys.items
