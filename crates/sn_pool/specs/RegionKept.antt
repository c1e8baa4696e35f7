-- What holds of the fields of a region.
use Rattle.std.specs.Prelude.{◌≡◌, ℕ, ◌+◌, ◌<◌, ◌^◌, ◌&&◌, not}
use Rattle.sn_mem.specs.Words.{covers, has}
use Rattle.sn_pool.specs.declared.sorted.Order.TheVariants.{Place}
use Rattle.sn_pool.specs.declared.region.Region.TheInside.{Inside}
use Rattle.sn_pool.specs.Pools.{AreLaidOut}

-- A word is in a hole exactly if it is in the region and in no live extent.
pub record IsRegion (r : Inside) : Type 0 where
  pub fits : r.words.at + r.words.len < 2 ^ 32
  pub order : r.live.order ≡ Place
  pub live : AreLaidOut r.words.at (r.words.at + r.words.len) r.live.items
  pub holes : (x : ℕ) → has r.holes.runs x ≡ (covers r.words x && not (has r.live.items x))
