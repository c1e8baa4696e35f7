use Rattle.std.proofs.Common.{reverse, length}
use Rattle.sn_tree.proofs.StepLaws.{IsUndoing}
use Rattle.sn_tree.proofs.steps.undo_all.Given as goal

abbrev pub invariant-loop-step : goal.invariant-loop-step
invariant-loop-step l = IsUndoing (reverse l.fn.steps.items) l.fn.store (reverse l.steps.items) l.store

abbrev pub decreases-loop-step : goal.decreases-loop-step
decreases-loop-step l = length l.steps.items
