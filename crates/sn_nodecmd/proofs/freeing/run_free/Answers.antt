use Rattle.std.proofs.Common.{◌∷◌, [], map, arith}
use Rattle.sn_osc.specs.Shape.{argument_of}
use Rattle.sn_world.specs.Freeing.{node_id, judge_free, act_free}
use Rattle.sn_world.proofs.Parsing.{singles-few_of}
use Rattle.sn_nodecmd.proofs.Repeating.{row_read, row_by, few_read, single_read}
use Rattle.sn_nodecmd.proofs.freeing.run_free.Goals as goal

pub each-requires-clause-few : goal.each-requires-clause-few
each-requires-clause-few c = omega arith

pub returns-in-Some-clause-row : goal.returns-in-Some-clause-row
returns-in-Some-clause-row c = λ words. row_read judge_free act_free _ (c.in-Some.one ∷ []) c.each.result _ _ (single_read node_id (map argument_of c.args.arguments.now) c.in-Some.one c.in-Some.ensures) (c.each.ensures.row words)

pub run-requires-clause-few : goal.run-requires-clause-few
run-requires-clause-few c = few_read _ _ _ c.in_ok-found.ensures (singles-few_of node_id c.args.arguments.now) c.requires.few

pub returns-clause-row : goal.returns-clause-row
returns-clause-row c = λ words. row_by judge_free act_free _ _ c.run.result _ _ c.in_ok-found.ensures (c.run.ensures.row words)
