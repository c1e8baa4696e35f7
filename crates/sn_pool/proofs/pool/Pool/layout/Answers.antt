use Rattle.std.proofs.Common.{◌≢◌, ◌+◌, ◌<◌, ◌≤◌, AllPairs, subst, arith}
use Rattle.sn_mem.specs.declared.extents.Extent.{Extent}
use Rattle.sn_pool.specs.Pools.{PoolState, LiesIn, AreDisjoint, times}
use Rattle.sn_pool.proofs.LaidOut.{laid_out_at, laid_out_order}
use Rattle.sn_pool.proofs.Counts.{times_once, times_inside, times_disjoint}
use Rattle.sn_pool.proofs.pool.Pool.layout.Goals as goal

pub returns-clause-inside : goal.returns-clause-inside
returns-clause-inside c =
    subst (λ (s : PoolState). (e : Extent) → 0 < times e s.live → LiesIn s.region e × (1 ≤ e.len)) c.self.view_is
    (λ e some. times_inside c.self.inside.region.words c.self.inside.region.live e c.layout.ensures.live some)

pub returns-clause-once : goal.returns-clause-once
returns-clause-once c =
    subst (λ (s : PoolState). (e : Extent) → times e s.live ≤ 1) c.self.view_is
    (λ e. times_once c.self.inside.region.words.at (c.self.inside.region.words.at + c.self.inside.region.words.len) c.self.inside.region.live e c.layout.ensures.live)

pub returns-clause-disjoint : goal.returns-clause-disjoint
returns-clause-disjoint c =
    subst (λ (s : PoolState). (a b : Extent) → 0 < times a s.live → 0 < times b s.live → a ≢ b → AreDisjoint a b) c.self.view_is
    (λ a b some others differ. times_disjoint c.self.inside.region.words.at (c.self.inside.region.words.at + c.self.inside.region.words.len) c.self.inside.region.live a b c.layout.ensures.live some others differ)

pub returns-clause-in_order : goal.returns-clause-in_order
returns-clause-in_order c =
    subst (λ (s : PoolState). AllPairs (λ (a b : Extent). a.at < b.at) s.live) c.self.view_is
    (λ i j d lt within.
    let from = c.self.inside.region.words.at in
    let to = c.self.inside.region.words.at + c.self.inside.region.words.len in
    let live = c.self.inside.region.live in
    omega (arith, laid_out_order from to live i j d c.layout.ensures.live lt within, laid_out_at from to live i d c.layout.ensures.live (omega arith)))
