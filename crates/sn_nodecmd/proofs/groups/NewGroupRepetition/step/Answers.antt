use Rattle.std.proofs.Common.{◌∙◌, ap, sym, ℤ, Option, Some}
use Rattle.sn_world.specs.NewNodes.{node_refusal, act_with, group_kind}
use Rattle.sn_world.specs.World.{world_of, turn_of}
use Rattle.sn_nodecmd.proofs.Stepping.{node_refusal_in}
use Rattle.sn_nodecmd.proofs.groups.NewGroupRepetition.step.Goals as goal

pub returns-in-Some-refusal-clause-row : goal.returns-in-Some-refusal-clause-row
returns-in-Some-refusal-clause-row c = λ words.
    ap (λ (o : Option ℤ). node_refusal o c.args.self.now.node.action c.args.self.now.node.target (world_of c.args.stage.now words).nodes) (sym c.in-Some.ensures)
    ∙ node_refusal_in c.args.stage.now words (Some c.in-Some.node.id) c.args.self.now.node.action c.args.self.now.node.target
    ∙ sym c.in-Some-refusal.ensures

pub returns-clause-row : goal.returns-clause-row
returns-clause-row c = λ words. (
  ap (λ (o : Option ℤ). node_refusal o c.args.self.now.node.action c.args.self.now.node.target (world_of c.args.stage.now words).nodes) (sym c.in-Some.ensures)
      ∙ node_refusal_in c.args.stage.now words (Some c.in-Some.node.id) c.args.self.now.node.action c.args.self.now.node.target
      ∙ sym c.in_default-refusal.ensures,
  ap (λ (o : Option ℤ). act_with (group_kind c.args.self.now.parallel) c.args.self.now.node o (turn_of c.args.stage.now words c.args.replies.now)) (sym c.in-Some.ensures) ∙ c.in_ok-make_group.ensures.row words,
)
