-- What the fields of a pool stand for.
use Rattle.std.specs.Prelude.{◌+◌, ◌-◌, ◌≤◌, List, Option, Some, None, IfSome, length, vec_capacity}
use Rattle.sn_mem.specs.declared.extents.Extent.{Extent}
use Rattle.sn_pool.specs.declared.pool.OpenJournal.{OpenJournal}
use Rattle.sn_pool.specs.declared.pool.Pool.TheInside.{Inside}
use Rattle.sn_pool.specs.Pools.{Journal, PoolState}
use Rattle.sn_pool.specs.Changes.{AreUndoable, undone}

abbrev pub journal_of : Option OpenJournal → List Extent → Option Journal
journal_of None saved = None
journal_of (Some j) saved = Some (record { mark = record { number = j.number }; saved = saved; room = j.room })

-- The journal with room for one call of `give_back` fewer.
abbrev pub spent : Option OpenJournal → Option OpenJournal
spent None = None
spent (Some j) = Some (record j { room = j.room - 1 })

abbrev pub state_of : Inside → PoolState
state_of p = record { region = p.region.words; live = p.region.live; journal = journal_of p.journal (undone p.changes.items p.region.live) }

-- The changes of an open journal can be undone, and there is room for this and for what it may still note.
pub record IsJournal (p : Inside) (j : OpenJournal) : Type 0 where
  pub may : AreUndoable p.region.words p.changes.items p.region.live
  pub room : length p.region.live + length p.changes.items ≤ p.region.room
  pub notes : length p.changes.items + j.room ≤ vec_capacity p.changes

pub record IsSound (p : Inside) : Type 0 where
  pub room : length p.region.live ≤ p.region.room
  pub journal : IfSome p.journal (IsJournal p)
