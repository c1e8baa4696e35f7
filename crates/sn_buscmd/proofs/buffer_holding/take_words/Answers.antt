use Rattle.std.proofs.Common.{◌≡◌, ◌*◌, arith}
use Rattle.sn_buscmd.proofs.PlacingLemmas.{too_many}
use Rattle.sn_buscmd.proofs.buffer_holding.take_words.Goals as goal

pub returns-then-words-gt4294967295-clause-by_trial : goal.returns-then-words-gt4294967295-clause-by_trial
returns-then-words-gt4294967295-clause-by_trial c =
    let words : c.from.result * c.from-2.result ≡ c.args.new.now.frames * c.args.new.now.channels = λ i. c.from.ensures i * c.from-2.ensures i in
    too_many c.args.pool.now.region c.args.pool.now.live (c.args.new.now.frames * c.args.new.now.channels) (omega (arith, words, c.if-words-gt4294967295.true, c.requires.bounded))
