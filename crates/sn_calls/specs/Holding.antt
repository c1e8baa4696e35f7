-- What is held of a pool.
use Rattle.std.specs.Prelude.{◌≤◌, List}
use Rattle.sn_mem.specs.declared.extents.Extent.{Extent}
use Rattle.sn_pool.specs.Pools.{times}

-- each extent is live, and none is held twice
abbrev pub AreLive : List Extent → List Extent → Type 0
AreLive held live = (e : Extent) → times e held ≤ times e live
