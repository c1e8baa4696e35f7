use Rattle.std.proofs.Common.{◌+◌, ◌-◌, ◌||◌, ap, ◌∙◌}
use Rattle.sn_mem.specs.declared.extents.Extent.{Extent}
use Rattle.sn_mem.specs.Words.{covers}
use Rattle.sn_pool.proofs.Splits.{cut_words}
use Rattle.sn_pool.proofs.holes.Holes.split.Goals as goal

pub returns-clause-words : goal.returns-clause-words
returns-clause-words c = λ x.
    let run = c.args.run in
    let extent = c.args.extent in
    let second : Extent = record { at = extent.at + extent.len; len = run.at + run.len - (extent.at + extent.len) } in
    c.add-2.ensures.words x ∙ ap (λ b. covers second x || b) (c.add.ensures.words x)
    ∙ cut_words c.args.self.now.runs c.remove.new.self.runs run extent c.remove.ensures.runs c.remove.ensures.removed c.requires.inside.0 c.requires.inside.1 x
