use Rattle.std.proofs.Common.{subst}
use Rattle.sn_pool.specs.Pools.{RegionState}
use Rattle.sn_pool.specs.Regions.{LeastPlace}
use Rattle.sn_pool.proofs.Ground.{least_is}
use Rattle.sn_pool.proofs.region.Region.least.Goals as goal

pub returns : goal.returns
returns c =
    subst (λ (s : RegionState). LeastPlace s.words s.live c.args.n c.least.result) c.self.view_is
    (least_is c.self.inside.words c.self.inside.live.items c.self.inside.holes.runs c.self.invariant.holes c.args.n c.least.result c.requires c.least.ensures)
