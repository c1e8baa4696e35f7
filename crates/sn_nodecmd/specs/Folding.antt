-- Repetitions that change the tree, one after the other, whole or not at all.
use Rattle.std.specs.Prelude.{◌≡◌, ◌+◌, ◌≤◌, ℕ, true, Option, Some, None, is_some, Result, Ok, Err}
use Rattle.sn_ports.specs.declared.failed.NoMemory.{NoMemory}
use Rattle.sn_mem.specs.declared.extents.Extent.{Extent}
use Rattle.sn_pool.specs.Pools.{times}
use Rattle.sn_pool.specs.declared.pool.Mark.{Mark}
use Rattle.sn_reply.specs.declared.reason.Reason.{Reason}
use Rattle.sn_tree.specs.Trees.{Sides, none, count}
use Rattle.sn_tree.specs.Model.{Journal, NodeTree}
use Rattle.sn_world.specs.declared.stage.Held.{Held}
use Rattle.sn_world.specs.declared.stage.Stage.{Stage}
use Rattle.sn_mem.specs.Buffers.{live_places}
use Rattle.sn_world.specs.Pictures.{live_held, amount, AreHeld}
use Rattle.sn_world.specs.World.{Turn}

-- for how many steps the tree's open journal has room, and the nodes that it restores
abbrev pub room_in : Option (Journal Held) → ℕ
room_in None = 0
room_in (Some journal) = journal.room

abbrev pub saved_in : Option (Journal Held) → Option (Sides Held)
saved_in None = None
saved_in (Some journal) = Some (record { attached = journal.attached; detached = journal.detached })

-- no journal is open, and nothing is detached; each extent with a word is live as often as it is that of a synth or a
-- buffer
pub record IsAtRest (stage : Stage) : Type 0 where
  pub live : (e : Extent) → 1 ≤ e.len → times e stage.pool.live ≡ times e (live_held stage.tree.attached) + times e (live_places stage.buffers)
  pub detached : stage.tree.detached ≡ none
  pub settled : stage.tree.journal ≡ None
  pub closed : stage.pool.journal ≡ None

-- a journal is open, with room to take out each node and for one more step
pub record CanStep (tree : NodeTree Held) : Type 0 where
  pub is_open : is_some (saved_in tree.journal) ≡ true
  pub room : 1 + count tree.attached ≤ room_in tree.journal

-- What no repetition changes: the nodes that the journal restores, and the extents of all nodes, attached or detached.
-- It takes as much of the journal's room as it takes out nodes, and one more at most.
pub record KeepsTree (old new : NodeTree Held) : Type 0 where
  pub saved : saved_in new.journal ≡ saved_in old.journal
  pub room : room_in old.journal + count new.attached ≤ 1 + room_in new.journal + count old.attached
  pub extents : (weight : Extent → ℕ) → amount weight (live_held new.attached) + amount weight (live_held new.detached) ≡ amount weight (live_held old.attached) + amount weight (live_held old.detached)
  pub held : (rate : ℕ) (region : Extent) → AreHeld rate region old.attached → AreHeld rate region new.attached

pub record Keeps (old new : Stage) : Type 0 where
  pub tree : KeepsTree old.tree new.tree
  pub pool : new.pool ≡ old.pool
  pub buffers : new.buffers ≡ old.buffers
  pub defs : new.defs ≡ old.defs
  pub notify : new.notify ≡ old.notify
  pub rate : new.rate ≡ old.rate

-- one repetition: nothing was against it and it was done, or there is a reason
abbrev pub Steps : Result (Option Reason) NoMemory → Option Reason → Turn → Turn → Type 0
Steps (Ok None) judged done after = (judged ≡ None) × (done ≡ after)
Steps (Ok (Some reason)) judged done after = judged ≡ Some reason
Steps (Err e) judged done after = Unit {0}

-- The journals of a stage that was at rest are open, and so many repetitions are left.
pub record IsUnderway (left : ℕ) (mark : Mark) (old now : Stage) : Type 0 where
  pub pool : now.pool ≡ record old.pool { journal = Some (record { mark = mark; saved = old.pool.live; room = count old.tree.attached }) }
  pub saved : saved_in now.tree.journal ≡ Some (record { attached = old.tree.attached; detached = old.tree.detached })
  pub room : left + count now.tree.attached ≤ room_in now.tree.journal
  pub extents : (weight : Extent → ℕ) → amount weight (live_held now.tree.attached) + amount weight (live_held now.tree.detached) ≡ amount weight (live_held old.tree.attached) + amount weight (live_held old.tree.detached)
  pub held : (rate : ℕ) (region : Extent) → AreHeld rate region old.tree.attached → AreHeld rate region now.tree.attached
  pub buffers : now.buffers ≡ old.buffers
  pub defs : now.defs ≡ old.defs
  pub notify : now.notify ≡ old.notify
  pub rate : now.rate ≡ old.rate

abbrev pub WasAtRest : Mark → Stage → Type 0
WasAtRest mark now = (left : ℕ) × (old : Stage) × IsUnderway left mark old now × IsAtRest old
