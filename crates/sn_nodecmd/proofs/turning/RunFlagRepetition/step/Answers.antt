use Rattle.std.proofs.Common.{◌∙◌, ap, sym, w32, rules}
use Rattle.std.specs.Prelude.{FitsSigned}
use Rattle.std.proofs.lemmas.Int.{to_z-of_z}
use Rattle.sn_tree.specs.Trees.{view_of}
use Rattle.sn_tree.specs.Model.{NodeTree}
use Rattle.sn_world.specs.declared.stage.Held.{Held}
use Rattle.sn_world.specs.declared.stage.Stage.{Stage}
use Rattle.sn_world.proofs.Turning.{is_there, with_tree}
use Rattle.sn_nodecmd.proofs.TurningLemmas.{unseen, seen_once, same_flag, node_turned, keeps_turned}
use Rattle.sn_nodecmd.proofs.turning.RunFlagRepetition.step.Goals as goal

pub returns-in_default-clause-row : goal.returns-in_default-clause-row
returns-in_default-clause-row c =
    let fits : FitsSigned w32 c.args.self.now.id = search rules in
    let same = to_z-of_z w32 c.args.self.now.id fits in
    λ words. unseen c.args.stage.now words c.args.self.now (c.in_default.ensures ∙ ap (λ n. view_of n c.args.stage.now.tree.attached) same)

pub returns-then-is_flagged-clause-row : goal.returns-then-is_flagged-clause-row
returns-then-is_flagged-clause-row c =
    let fits : FitsSigned w32 c.args.self.now.id = search rules in
    let same = to_z-of_z w32 c.args.self.now.id fits in
    let seen = c.in-Some.ensures ∙ ap (λ n. view_of n c.args.stage.now.tree.attached) same in
    λ words. (
      seen_once c.args.stage.now words c.args.self.now c.in-Some.view seen,
      same_flag c.args.stage.now words c.args.self.now c.in-Some.view c.args.replies.now seen (sym c.is_flagged.ensures ∙ c.if-is_flagged.true),
    )

pub set_flag-requires-clause-there : goal.set_flag-requires-clause-there
set_flag-requires-clause-there c =
    let fits : FitsSigned w32 c.args.self.now.id = search rules in
    let same = to_z-of_z w32 c.args.self.now.id fits in
    is_there c.args.self.now.id c.args.stage.now.tree.attached c.in-Some.view (sym (c.in-Some.ensures ∙ ap (λ n. view_of n c.args.stage.now.tree.attached) same))

pub returns-clause-row : goal.returns-clause-row
returns-clause-row c =
    let fits : FitsSigned w32 c.args.self.now.id = search rules in
    let same = to_z-of_z w32 c.args.self.now.id fits in
    let seen = c.in-Some.ensures ∙ ap (λ n. view_of n c.args.stage.now.tree.attached) same in
    λ words. (
      seen_once c.args.stage.now words c.args.self.now c.in-Some.view seen,
      node_turned c.args.stage.now words c.args.self.now c.in-Some.view c.set_flag.new.tree c.args.replies.now c.tell_turn.new.replies seen (sym c.is_flagged.ensures ∙ c.if-is_flagged.false) c.set_flag.ensures (c.in_ok-tell_turn.ensures.told words),
    )

pub returns-clause-keeps : goal.returns-clause-keeps
returns-clause-keeps c = keeps_turned c.args.stage.now _ c.args.self.now.id c.args.self.now.on (ap (λ (t : NodeTree Held). let s : Stage = with_tree t c.args.stage.now in s) c.set_flag.ensures)

pub returns-in_err-tell_turn-clause-keeps : goal.returns-in_err-tell_turn-clause-keeps
returns-in_err-tell_turn-clause-keeps c = keeps_turned c.args.stage.now _ c.args.self.now.id c.args.self.now.on (ap (λ (t : NodeTree Held). let s : Stage = with_tree t c.args.stage.now in s) c.set_flag.ensures)
