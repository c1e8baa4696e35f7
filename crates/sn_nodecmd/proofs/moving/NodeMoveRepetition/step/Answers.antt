use Rattle.std.proofs.Common.{◌∙◌, ap, sym}
use Rattle.sn_tree.specs.Model.{NodeTree}
use Rattle.sn_world.specs.declared.stage.Held.{Held}
use Rattle.sn_world.specs.declared.stage.Stage.{Stage}
use Rattle.sn_nodecmd.proofs.Relocating.{move_refusal_in, keeps_move, node_moved}
use Rattle.sn_nodecmd.proofs.moving.NodeMoveRepetition.step.Goals as goal

pub returns-in-Err-clause-row : goal.returns-in-Err-clause-row
returns-in-Err-clause-row c = λ words. move_refusal_in c.args.stage.now words c.args.self.now ∙ sym c.in-Err.ensures.reason

pub returns-clause-row : goal.returns-clause-row
returns-clause-row c = λ words. (
  move_refusal_in c.args.stage.now words c.args.self.now ∙ sym c.in-Ok.ensures.reason,
  node_moved c.args.stage.now _ c.args.self.now c.args.replies.now c.tell_move.new.replies
      (ap (λ (t : NodeTree Held). let s : Stage = record c.args.stage.now { tree = t } in s) c.in-Ok.ensures.ok)
      c.in_ok-tell_move.ensures.told words,
)

pub returns-clause-keeps : goal.returns-clause-keeps
returns-clause-keeps c =
    keeps_move c.args.stage.now _ c.args.self.now (sym c.in-Ok.ensures.reason) (ap (λ (t : NodeTree Held). let s : Stage = record c.args.stage.now { tree = t } in s) c.in-Ok.ensures.ok)

pub returns-in_err-tell_move-clause-keeps : goal.returns-in_err-tell_move-clause-keeps
returns-in_err-tell_move-clause-keeps c =
    keeps_move c.args.stage.now _ c.args.self.now (sym c.in-Ok.ensures.reason) (ap (λ (t : NodeTree Held). let s : Stage = record c.args.stage.now { tree = t } in s) c.in-Ok.ensures.ok)
