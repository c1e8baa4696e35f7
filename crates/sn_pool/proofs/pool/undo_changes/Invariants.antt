-- The changes that are left give the same live extents.
use Rattle.std.proofs.Common.{◌≡◌, ◌+◌, ◌≤◌, length}
use Rattle.sn_pool.specs.Changes.{AreUndoable, undone}
use Rattle.sn_pool.proofs.pool.undo_changes.Given as goal

abbrev pub invariant-loop-change : goal.invariant-loop-change
invariant-loop-change l = record {
  may : AreUndoable l.region.words l.changes.items l.region.live;
  fits : length l.region.live + length l.changes.items ≤ l.region.room;
  words : l.region.words ≡ l.fn.region.words;
  room : l.region.room ≡ l.fn.region.room;
  live : undone l.changes.items l.region.live ≡ undone l.fn.changes.items l.fn.region.live;
}

abbrev pub decreases-loop-change : goal.decreases-loop-change
decreases-loop-change l = length l.changes.items
