-- Blocks one after another, of which each is settled, or none.
use Rattle.std.specs.Prelude.{ℕ, zero, suc, ◌+◌}
use Rattle.sn_world.specs.Settling.{settled_nodes}
use Rattle.sn_world.specs.Walk.{walk}
use Rattle.sn_world.specs.World.{World}

-- a world whose last block was settled, if nothing is told and no unit acts at its end
abbrev pub settled_world : World → World
settled_world w = record w { nodes = settled_nodes w.rate w.nodes }

-- n blocks from block b on, of which none is settled
unfoldable pub walks : ℕ → ℕ → World → World
walks b zero w = w
walks b (suc n) w = walk (b + n) (walks b n w)

-- the same, of which each is settled
unfoldable pub walks_settled : ℕ → ℕ → World → World
walks_settled b zero w = w
walks_settled b (suc n) w = settled_world (walk (b + n) (walks_settled b n w))
