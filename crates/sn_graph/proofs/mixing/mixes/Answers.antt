use Rattle.std.proofs.Common.{◌∙◌, ℕ, ap}
use Rattle.sn_mem.specs.Words.{has}
use Rattle.sn_graph.proofs.mixing.mixes.Goals as goal

pub returns : goal.returns
returns c = c.has.ensures ∙ ap (λ (word : ℕ). has c.args.voice.now.reach.mixes word) c.first_word.ensures
