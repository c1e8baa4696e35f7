use Rattle.std.proofs.Common.{◌≡◌, ◌∙◌, [], rules, sym}
use Rattle.sn_quiet.proofs.QuietStages.{nodes_are, still_quiet}
use Rattle.sn_quiet.proofs.quiet.is_quiet.Goals as goal

pub returns : goal.returns
returns c = λ words.
    let none : c.loop-visit.visit-iterator ≡ [] = search rules in
    still_quiet c.loop-visit.quiet _ c.loop-visit.visit-iterator none c.loop-visit.invariant ∙ sym (nodes_are words c.args.stage.now.tree.attached)
