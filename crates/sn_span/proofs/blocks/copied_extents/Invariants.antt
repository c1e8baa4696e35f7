-- The copy so far.
use Rattle.std.proofs.Common.{◌≡◌, take}
use Rattle.sn_span.proofs.blocks.copied_extents.Given as goal

abbrev pub invariant-loop-extent : goal.invariant-loop-extent
invariant-loop-extent l = l.copy ≡ take l.extent-index l.extents
