use Rattle.std.proofs.Common.{◌≡◌, ◌+◌, sym, ap, ◌∙◌, subst}
use Rattle.sn_pool.specs.Pools.{RegionState}
use Rattle.sn_pool.specs.Gaps.{words_of}
use Rattle.sn_pool.specs.Regions.{count_free}
use Rattle.sn_pool.proofs.FreeWords.{left_is_free}
use Rattle.sn_pool.proofs.region.Region.free.Goals as goal

pub returns : goal.returns
returns c =
    let left = ap (λ live. c.free_words.result + words_of live) (sym c.as_slice.ensures.items) ∙ c.free_words.ensures in
    subst (λ (s : RegionState). c.free_words.result ≡ count_free s.live s.words.at s.words.len) c.self.view_is
    (left_is_free c.self.inside.words c.self.inside.live.items c.free_words.result c.self.invariant.live left)
