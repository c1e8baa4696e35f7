use Rattle.std.proofs.Common.{ap, arith}
use Rattle.std.proofs.lemmas.List.{drop_all}
use Rattle.sn_pool.specs.Gaps.{words_of}
use Rattle.sn_pool.proofs.LaidOut.{words_none}
use Rattle.sn_pool.proofs.region.free_words.Goals as goal

pub returns : goal.returns
returns c =
    let none = ap words_of (drop_all c.loop-extent.extent-index c.args.live.now (omega arith)) in
    omega (arith, c.loop-extent.invariant.left, none, words_none)
