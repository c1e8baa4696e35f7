use Rattle.std.proofs.Common.{◌∷◌, [], map}
use Rattle.sn_osc.specs.Shape.{argument_of}
use Rattle.sn_world.specs.Moving.{move_from, judge_move, act_move}
use Rattle.sn_world.proofs.Parsing.{pairs-few_of}
use Rattle.sn_nodecmd.proofs.Repeating.{row_read, row_by, few_read, pair_read}
use Rattle.sn_nodecmd.proofs.moving.run_moves.Goals as goal

pub returns-in-Some-clause-row : goal.returns-in-Some-clause-row
returns-in-Some-clause-row c = λ words.
    row_read judge_move act_move _ (c.in-Some.one ∷ []) c.run_alone.result _ _ (pair_read (move_from c.args.action) (map argument_of c.args.arguments.now) c.in-Some.one c.in-Some.ensures) (c.run_alone.ensures.row words)

pub run-requires-clause-few : goal.run-requires-clause-few
run-requires-clause-few c = few_read _ _ _ c.in_ok-found.ensures (pairs-few_of (move_from c.args.action) c.args.arguments.now) c.requires.few

pub returns-clause-row : goal.returns-clause-row
returns-clause-row c = λ words. row_by judge_move act_move _ _ c.run.result _ _ c.in_ok-found.ensures (c.run.ensures.row words)
