-- The uses so far, without repeats.
use Rattle.std.proofs.Common.{take}
use Rattle.sn_clash.specs.Marking.{IsThinned}
use Rattle.sn_clash.proofs.thinning.without_repeats.Given as goal

abbrev pub invariant-loop-index : goal.invariant-loop-index
invariant-loop-index l = IsThinned l.marks l.kept.items (take l.index l.uses)
