-- What was changed since a journal began.
use Rattle.std.specs.Prelude.{◌≤◌, ◌<◌, List, [], ◌∷◌}
use Rattle.sn_mem.specs.declared.extents.Extent.{Extent}
use Rattle.sn_pool.specs.declared.changes.Change.{Change}
use Rattle.sn_pool.specs.declared.changes.Change.TheVariants.{Taken, Given}
use Rattle.sn_pool.specs.Pools.{times, with_extent, without_extent}
use Rattle.sn_pool.specs.Regions.{IsFree}

-- The live extents before the change, from those after it.
abbrev pub before_change : Change → List Extent → List Extent
before_change (Taken e) live = without_extent e live
before_change (Given e) live = with_extent e live

-- The live extents before all of the changes, the first of which was made first.
unfoldable pub undone : List Change → List Extent → List Extent
undone [] live = live
undone (c ∷ cs) live = before_change c (undone cs live)

-- What was taken is live, and what was given back is free.
abbrev pub IsUndoable : Extent → List Extent → Change → Type 0
IsUndoable words live (Taken e) = 0 < times e live
IsUndoable words live (Given e) = (1 ≤ e.len) × IsFree words live e.len e.at

-- Each change can be undone, the last first.
unfoldable pub AreUndoable : Extent → List Change → List Extent → Type 0
AreUndoable words [] live = Unit {0}
AreUndoable words (c ∷ cs) live = IsUndoable words (undone cs live) c × AreUndoable words cs live
