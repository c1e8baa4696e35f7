-- What was freed and is still detached, and the words that are still live.
use Rattle.std.proofs.Common.{◌≡◌, ◌≤◌, ◌+◌}
use Rattle.sn_mem.specs.declared.extents.Extent.{Extent}
use Rattle.sn_pool.specs.Pools.{times, mark_of, saved_of}
use Rattle.sn_tree.specs.Trees.{count}
use Rattle.sn_world.specs.Freed.{HasRoomFor}
use Rattle.sn_world.specs.Pictures.{live_held, amount}
use Rattle.sn_world.proofs.freed.end_freed.Given as goal

abbrev pub invariant-loop-held : goal.invariant-loop-held
invariant-loop-held l = record {
  attached : l.tree.attached ≡ l.fn.tree.attached;
  journal : l.tree.journal ≡ l.fn.tree.journal;
  live : (e : Extent) → 1 ≤ e.len → times e l.fn.pool.live + times e (live_held l.tree.detached) ≡ times e (live_held l.fn.tree.detached) + times e l.pool.live;
  room : HasRoomFor (amount (λ e. 1) (live_held l.tree.detached)) l.pool.journal;
  mark : mark_of l.pool.journal ≡ mark_of l.fn.pool.journal;
  saved : saved_of l.pool.journal ≡ saved_of l.fn.pool.journal;
  region : l.pool.region ≡ l.fn.pool.region;
}

abbrev pub decreases-loop-held : goal.decreases-loop-held
decreases-loop-held l = count l.tree.detached
