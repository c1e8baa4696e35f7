use Rattle.std.proofs.Common.{◌∙◌, ap, sym, Some, Option, List}
use Rattle.sn_world.specs.declared.emptying.DeepFree.{DeepFree}
use Rattle.sn_world.specs.Emptying.{deep_free, judge_deep_free, act_deep_free}
use Rattle.sn_world.specs.Rows.{row, some_of}
use Rattle.sn_world.specs.World.{turn_of}
use Rattle.sn_world.proofs.Parsing.{singles-few_of}
use Rattle.sn_nodecmd.proofs.Repeating.{row_read, row_by, few_read, few_some}
use Rattle.sn_nodecmd.proofs.emptying.run_deep_free.Goals as goal

pub free_below-requires-clause-few : goal.free_below-requires-clause-few
free_below-requires-clause-few c =
    few_some _ c.deref.result.now (ap Some c.deref.ensures.value ∙ c.in-Some.ensures)
    (few_read _ _ _ c.in_ok-found.ensures (singles-few_of deep_free c.args.arguments.now) c.requires.few)

pub returns-in_default-clause-row : goal.returns-in_default-clause-row
returns-in_default-clause-row c = λ words.
    ap (λ (o : Option (List DeepFree)). row judge_deep_free act_deep_free o (turn_of c.args.stage.now words c.args.replies.now)) (sym (c.in_default.ensures ∙ ap some_of c.in_ok-found.ensures))

pub returns-clause-row : goal.returns-clause-row
returns-clause-row c = λ words.
    row_by judge_deep_free act_deep_free _ _ c.free_below.result _ _ c.in_ok-found.ensures
    (row_read judge_deep_free act_deep_free _ c.deref.result.now c.free_below.result _ _ (ap Some c.deref.ensures.value ∙ c.in-Some.ensures) (c.free_below.ensures.row words))
