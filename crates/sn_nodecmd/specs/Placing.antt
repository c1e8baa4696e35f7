-- A synth that is put into a stage.
use Rattle.std.specs.Prelude.{◌≡◌, ◌+◌, ◌≤◌, ℕ, zero, suc, ℤ, List, Option, Some, None, Result, Ok, Err, if◌then◌else◌, nat_eq, slice_set}
use Rattle.sn_ports.specs.declared.failed.NoMemory.{NoMemory}
use Rattle.sn_mem.specs.declared.extents.Extent.{Extent}
use Rattle.sn_pool.specs.Pools.{PoolState, with_extent, times}
use Rattle.sn_pool.specs.Regions.{IsFree, least_place}
use Rattle.sn_tree.specs.declared.node.NodeKind.TheVariants as kinds
use Rattle.sn_tree.specs.Trees.{none, leaf}
use Rattle.sn_world.specs.declared.repetition.NewNode.{NewNode}
use Rattle.sn_world.specs.NewNodes.{replaces, gone_by, placed}
use Rattle.sn_world.specs.Pictures.{live_held}
use Rattle.sn_world.specs.declared.stage.Held.{Held}
use Rattle.sn_world.specs.declared.stage.Stage.{Stage}

-- the least place of a pool for so many words; no words stand at the beginning of the region
abbrev pub place_in : PoolState → ℕ → Option ℕ
place_in pool n = if nat_eq n 0 then Some pool.region.at else least_place pool.region pool.live n

-- a pool after words were taken
abbrev pub taken : Extent → PoolState → PoolState
taken e pool = if nat_eq e.len 0 then pool else record pool { live = with_extent e pool.live }

-- so many words at a place that is free
pub record IsPlace (pool : PoolState) (n : ℕ) (e : Extent) : Type 0 where
  pub size : e.len ≡ n
  pub free : IsFree pool.region pool.live n e.at
  pub least : place_in pool n ≡ Some e.at

-- a pool that is given extents back
pub record IsGiven (gone : List Extent) (old new : PoolState) : Type 0 where
  pub live : (e : Extent) → 1 ≤ e.len → times e old.live ≡ times e gone + times e new.live
  pub region : new.region ≡ old.region
  pub closed : new.journal ≡ None

-- the pool is given those of the nodes that a new one replaces
abbrev pub IsFreed : NewNode → Stage → PoolState → Type 0
IsFreed r old pool = IsGiven (live_held (gone_by (replaces r.action) r.target old.tree.attached)) old.pool pool

-- the stage with a synth, whose words are at a place of the pool that is left
pub record IsAdded (id : ℤ) (r : NewNode) (held : Extent → Held) (n : ℕ) (old new : Stage) (e : Extent) : Type 0 where
  pub pool : PoolState
  pub freed : IsFreed r old pool
  pub place : IsPlace pool n e
  pub stage : new ≡ record old { tree = record { attached = placed r (leaf id kinds.Synth (held e)) old.tree.attached; detached = none; journal = None }; pool = taken e pool }

-- the synth was added with these words, or else nothing has changed
abbrev pub Adds : ℤ → NewNode → (Extent → Held) → ℕ → Stage → Stage → Result (Option Extent) NoMemory → Type 0
Adds id r held n old new (Ok (Some e)) = IsAdded id r held n old new e
Adds id r held n old new (Ok None) = (pool : PoolState) × IsFreed r old pool × (place_in pool n ≡ None) × (new ≡ old)
Adds id r held n old new (Err e) = new ≡ old

-- the words with n of them set to 0, from a place on
unfoldable pub cleared : List ℕ → ℕ → ℕ → List ℕ
cleared ws at zero = ws
cleared ws at (suc n) = slice_set (cleared ws at n) (at + n) 0
