use Rattle.std.proofs.Common.{ap, ◌∙◌}
use Rattle.sn_mem.specs.Blocks.{put}
use Rattle.sn_io.proofs.SampleWords.{alone_words}
use Rattle.sn_io.proofs.outputs.set_block.Goals as goal

pub returns-clause-words : goal.returns-clause-words
returns-clause-words g c = c.store_samples.ensures.changed ∙ ap (put (g.P.Port.words c.args.port.now) c.args.at) (alone_words c.args.signal.now c.sums.result c.sums.ensures)
