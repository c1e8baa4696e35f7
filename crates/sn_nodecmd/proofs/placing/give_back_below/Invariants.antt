-- The words that are still live, and those that are still to be given back.
use Rattle.std.proofs.Common.{◌≡◌, ◌≤◌, ◌+◌}
use Rattle.sn_mem.specs.declared.extents.Extent.{Extent}
use Rattle.sn_pool.specs.Pools.{times, mark_of, saved_of, room_of}
use Rattle.sn_tree.specs.Trees.{subtree}
use Rattle.sn_world.specs.Pictures.{live_held, amount}
use Rattle.sn_nodecmd.proofs.Replacing.{member_extents}
use Rattle.sn_nodecmd.proofs.placing.give_back_below.Given as goal

abbrev pub invariant-loop-member : goal.invariant-loop-member
invariant-loop-member l = record {
  live : (e : Extent) → 1 ≤ e.len → times e l.fn.pool.live + times e (member_extents l.member-iterator) ≡ times e (live_held (subtree l.new.target l.tree.attached)) + times e l.pool.live;
  room : amount (λ e. 1) (member_extents l.member-iterator) ≤ room_of l.pool.journal;
  mark : mark_of l.pool.journal ≡ mark_of l.fn.pool.journal;
  saved : saved_of l.pool.journal ≡ saved_of l.fn.pool.journal;
  region : l.pool.region ≡ l.fn.pool.region;
}
