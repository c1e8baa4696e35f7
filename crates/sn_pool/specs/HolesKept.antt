-- What holds of the fields that keep runs of free words.
use Rattle.std.specs.Prelude.{◌≡◌, length}
use Rattle.sn_mem.specs.declared.extents.Extent.{Extent}
use Rattle.sn_pool.specs.declared.sorted.Order.TheVariants.{Place, Size}
use Rattle.sn_pool.specs.declared.holes.Holes.TheInside.{Inside}
use Rattle.sn_pool.specs.Pools.{times}
use Rattle.sn_pool.specs.Holes.{AreRuns}

-- The same runs stand in both orders.
pub record AreHoles (h : Inside) : Type 0 where
  pub by_place : h.by_place.order ≡ Place
  pub by_size : h.by_size.order ≡ Size
  pub same : (e : Extent) → times e h.by_size.items ≡ times e h.by_place.items
  pub len : length h.by_size.items ≡ length h.by_place.items
  pub runs : AreRuns h.by_place.items
