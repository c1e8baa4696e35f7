use Rattle.std.proofs.Common.{◌≡◌, ◌∙◌, ap, map, Some}
use Rattle.sn_osc.specs.Shape.{argument_of}
use Rattle.sn_world.specs.Rows.{pairs, some_of}
use Rattle.sn_world.specs.TreeQueries.{tree_query, judge_tree, act_tree}
use Rattle.sn_world.specs.World.{turn_of}
use Rattle.sn_nodecmd.proofs.Repeating.{row_read}
use Rattle.sn_nodecmd.proofs.describing.run_tree_query.Goals as goal

pub returns-clause-row : goal.returns-clause-row
returns-clause-row c = λ words.
    let read : Some c.deref.result.now ≡ some_of (pairs tree_query (map argument_of c.args.arguments.now)) = ap Some c.deref.ensures.value ∙ c.in-Some.ensures ∙ ap some_of c.in_ok-pairs.ensures in
    row_read judge_tree (act_tree c.args.from) _ c.deref.result.now c.answer_all.result (turn_of c.args.stage.now words c.args.replies.now) (turn_of c.args.stage.now words c.answer_all.new.replies) read (c.answer_all.ensures.row words)
