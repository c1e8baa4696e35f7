use Rattle.std.proofs.Common.{subst}
use Rattle.sn_pool.specs.Pools.{RegionState}
use Rattle.sn_pool.specs.Regions.{IsLongestRun}
use Rattle.sn_pool.proofs.Ground.{longest_is}
use Rattle.sn_pool.proofs.region.Region.longest.Goals as goal

pub returns : goal.returns
returns c =
    subst (λ (s : RegionState). IsLongestRun s.words s.live c.longest.result) c.self.view_is
    (longest_is c.self.inside.words c.self.inside.live.items c.self.inside.holes.runs c.self.invariant.holes c.longest.result c.longest.ensures)
