use Rattle.std.proofs.Common.{◌≡◌, ℕ, true, false, List, Option, Result, subst, sym}
use Rattle.sn_osc.specs.Shape.{Argument}
use Rattle.sn_ports.specs.declared.failed.NoMemory.{NoMemory}
use Rattle.sn_reply.specs.declared.reason.Reason.{Reason}
use Rattle.sn_world.specs.declared.command.NodeCommand.{NodeCommand}
use Rattle.sn_world.specs.World.{Turn}
use Rattle.sn_world.specs.Commands.{node_row}
use Rattle.sn_world.specs.Answers.{Follows}
use Rattle.sn_world.specs.RunFlags.{run_flag, judge_run, act_run}
use Rattle.sn_world.specs.NewNodes.{new_group, judge_group, act_group}
use Rattle.sn_world.specs.Emptying.{free_all, judge_free_all, act_free_all}
use Rattle.sn_world.proofs.Parsing.{singles-few_of, pairs-few_of, triples-few_of}
use Rattle.sn_nodecmd.proofs.Repeating.{row_by, few_read}
use Rattle.sn_nodecmd.proofs.dispatch.run_row.Goals as goal

-- the row of a command is that of the arm that it takes
for_arm : {command arm : NodeCommand} (from : ℕ) (xs : List Argument) (t after : Turn) (result : Result (Option Reason) NoMemory) → command ≡ arm → Follows result (node_row arm from xs t) after → Follows result (node_row command from xs t) after
for_arm from xs t after result is follows = subst (λ (v : NodeCommand). Follows result (node_row v from xs t) after) (sym is) follows

pub returns-in-New-clause-row : goal.returns-in-New-clause-row
returns-in-New-clause-row g c = for_arm _ _ _ _ c.run_new.result c.in-New.is (c.run_new.ensures.row c.args.from)

pub returns-in-Notify-clause-row : goal.returns-in-Notify-clause-row
returns-in-Notify-clause-row g c = for_arm _ _ _ _ c.run_notify.result c.in-Notify.is (c.run_notify.ensures.row (g.P.Port.words c.args.port.now))

pub returns-in_ok-pairs-in-TurnNodes-clause-row : goal.returns-in_ok-pairs-in-TurnNodes-clause-row
returns-in_ok-pairs-in-TurnNodes-clause-row g c = for_arm _ _ _ _ c.run.result c.in-TurnNodes.is (row_by judge_run act_run _ _ c.run.result _ _ c.in_ok-pairs-in-TurnNodes.ensures (c.run.ensures.row (g.P.Port.words c.args.port.now)))

pub returns-in_ok-pairs-in-TurnNodes-clause-pictures : goal.returns-in_ok-pairs-in-TurnNodes-clause-pictures
returns-in_ok-pairs-in-TurnNodes-clause-pictures g c = c.run.ensures.pictures (g.P.Port.words c.args.port.now) c.requires.pictures

pub run-requires-clause-few : goal.run-requires-clause-few
run-requires-clause-few g c = few_read _ _ _ c.in_ok-pairs-in-TurnNodes.ensures (pairs-few_of run_flag c.args.arguments.now) c.requires.few

pub returns-in-SetControls-clause-row : goal.returns-in-SetControls-clause-row
returns-in-SetControls-clause-row g c = for_arm _ _ _ _ c.run_set.result c.in-SetControls.is (c.run_set.ensures.row (g.P.Port.words c.args.port.now) c.args.replies.now)

pub returns-in-SetRuns-clause-row : goal.returns-in-SetRuns-clause-row
returns-in-SetRuns-clause-row g c = for_arm _ _ _ _ c.run_set-in-SetRuns.result c.in-SetRuns.is (c.run_set-in-SetRuns.ensures.row (g.P.Port.words c.args.port.now) c.args.replies.now)

pub returns-in-FillRuns-clause-row : goal.returns-in-FillRuns-clause-row
returns-in-FillRuns-clause-row g c = for_arm _ _ _ _ c.run_set-in-FillRuns.result c.in-FillRuns.is (c.run_set-in-FillRuns.ensures.row (g.P.Port.words c.args.port.now) c.args.replies.now)

pub returns-in-MapControls-clause-row : goal.returns-in-MapControls-clause-row
returns-in-MapControls-clause-row g c = for_arm _ _ _ _ c.run_map.result c.in-MapControls.is (c.run_map.ensures.row (g.P.Port.words c.args.port.now) c.args.replies.now)

pub returns-in_ok-groups-in-NewGroup-clause-row : goal.returns-in_ok-groups-in-NewGroup-clause-row
returns-in_ok-groups-in-NewGroup-clause-row g c = for_arm _ _ _ _ c.run-in-NewGroup.result c.in-NewGroup.is (row_by judge_group act_group _ _ c.run-in-NewGroup.result _ _ c.in_ok-groups-in-NewGroup.ensures (c.run-in-NewGroup.ensures.row (g.P.Port.words c.args.port.now)))

pub returns-in_ok-groups-in-NewGroup-clause-pictures : goal.returns-in_ok-groups-in-NewGroup-clause-pictures
returns-in_ok-groups-in-NewGroup-clause-pictures g c = c.run-in-NewGroup.ensures.pictures (g.P.Port.words c.args.port.now) c.requires.pictures

pub run-requires-in-NewGroup-clause-few : goal.run-requires-in-NewGroup-clause-few
run-requires-in-NewGroup-clause-few g c = few_read _ _ _ c.in_ok-groups-in-NewGroup.ensures (triples-few_of (new_group false) c.args.arguments.now) c.requires.few

pub returns-in_ok-groups-in-NewParallel-clause-row : goal.returns-in_ok-groups-in-NewParallel-clause-row
returns-in_ok-groups-in-NewParallel-clause-row g c = for_arm _ _ _ _ c.run-in-NewParallel.result c.in-NewParallel.is (row_by judge_group act_group _ _ c.run-in-NewParallel.result _ _ c.in_ok-groups-in-NewParallel.ensures (c.run-in-NewParallel.ensures.row (g.P.Port.words c.args.port.now)))

pub returns-in_ok-groups-in-NewParallel-clause-pictures : goal.returns-in_ok-groups-in-NewParallel-clause-pictures
returns-in_ok-groups-in-NewParallel-clause-pictures g c = c.run-in-NewParallel.ensures.pictures (g.P.Port.words c.args.port.now) c.requires.pictures

pub run-requires-in-NewParallel-clause-few : goal.run-requires-in-NewParallel-clause-few
run-requires-in-NewParallel-clause-few g c = few_read _ _ _ c.in_ok-groups-in-NewParallel.ensures (triples-few_of (new_group true) c.args.arguments.now) c.requires.few

pub returns-in-Free-clause-row : goal.returns-in-Free-clause-row
returns-in-Free-clause-row g c = for_arm _ _ _ _ c.run_free.result c.in-Free.is (c.run_free.ensures.row (g.P.Port.words c.args.port.now))

pub returns-in-Free-clause-pictures : goal.returns-in-Free-clause-pictures
returns-in-Free-clause-pictures g c = c.run_free.ensures.pictures (g.P.Port.words c.args.port.now) c.requires.pictures

pub returns-in_ok-singles-in-FreeAll-clause-row : goal.returns-in_ok-singles-in-FreeAll-clause-row
returns-in_ok-singles-in-FreeAll-clause-row g c = for_arm _ _ _ _ c.run-in-FreeAll.result c.in-FreeAll.is (row_by judge_free_all act_free_all _ _ c.run-in-FreeAll.result _ _ c.in_ok-singles-in-FreeAll.ensures (c.run-in-FreeAll.ensures.row (g.P.Port.words c.args.port.now)))

pub returns-in_ok-singles-in-FreeAll-clause-pictures : goal.returns-in_ok-singles-in-FreeAll-clause-pictures
returns-in_ok-singles-in-FreeAll-clause-pictures g c = c.run-in-FreeAll.ensures.pictures (g.P.Port.words c.args.port.now) c.requires.pictures

pub run-requires-in-FreeAll-clause-few : goal.run-requires-in-FreeAll-clause-few
run-requires-in-FreeAll-clause-few g c = few_read _ _ _ c.in_ok-singles-in-FreeAll.ensures (singles-few_of free_all c.args.arguments.now) c.requires.few

pub returns-in-DeepFree-clause-row : goal.returns-in-DeepFree-clause-row
returns-in-DeepFree-clause-row g c = for_arm _ _ _ _ c.run_deep_free.result c.in-DeepFree.is (c.run_deep_free.ensures.row (g.P.Port.words c.args.port.now))

pub returns-in-DeepFree-clause-pictures : goal.returns-in-DeepFree-clause-pictures
returns-in-DeepFree-clause-pictures g c = c.run_deep_free.ensures.pictures (g.P.Port.words c.args.port.now) c.requires.pictures

pub returns-in-Query-clause-row : goal.returns-in-Query-clause-row
returns-in-Query-clause-row g c = for_arm _ _ _ _ c.run_query.result c.in-Query.is (c.run_query.ensures.row (g.P.Port.words c.args.port.now))

pub returns-in-QueryTree-clause-row : goal.returns-in-QueryTree-clause-row
returns-in-QueryTree-clause-row g c = for_arm _ _ _ _ c.run_tree_query.result c.in-QueryTree.is (c.run_tree_query.ensures.row (g.P.Port.words c.args.port.now))

pub returns-in-GetControls-clause-row : goal.returns-in-GetControls-clause-row
returns-in-GetControls-clause-row g c = for_arm _ _ _ _ c.run_get.result c.in-GetControls.is c.run_get.ensures.row

pub returns-in-Move-clause-row : goal.returns-in-Move-clause-row
returns-in-Move-clause-row g c = for_arm _ _ _ _ c.run_moves.result c.in-Move.is (c.run_moves.ensures.row (g.P.Port.words c.args.port.now))

pub returns-in-Move-clause-pictures : goal.returns-in-Move-clause-pictures
returns-in-Move-clause-pictures g c = c.run_moves.ensures.pictures (g.P.Port.words c.args.port.now) c.requires.pictures

pub returns-in-Order-clause-row : goal.returns-in-Order-clause-row
returns-in-Order-clause-row g c = for_arm _ _ _ _ c.run_order.result c.in-Order.is (c.run_order.ensures.row c.args.from (g.P.Port.words c.args.port.now))
