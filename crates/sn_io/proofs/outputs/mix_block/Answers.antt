use Rattle.std.proofs.Common.{List, ℕ, get_or, pos, ap, ◌∙◌}
use Rattle.sn_mem.specs.Blocks.{put, table, word_for}
use Rattle.sn_mem.proofs.Feet.{readable}
use Rattle.sn_io.proofs.SampleWords.{summed_words}
use Rattle.sn_io.proofs.outputs.mix_block.Goals as goal

pub load_samples-held-requires : goal.load_samples-held-requires
load_samples-held-requires g c = readable (g.P.Port.foot c.args.port.now) c.args.at 64 c.requires

pub returns-clause-words : goal.returns-clause-words
returns-clause-words g c =
    let ws = g.P.Port.words c.args.port.now in
    let words : List ℕ = table (λ k. word_for (get_or c.sums.result k (pos 0))) 64 in
    c.store_samples.ensures.changed
    ∙ (ap (λ (us : List ℕ). put us c.args.at words) c.load_samples-held.ensures.words
    ∙ ap (put ws c.args.at) (summed_words ws c.args.at c.args.signal.now c.load_samples-held.result c.sums.result c.load_samples-held.ensures.value c.sums.ensures))
