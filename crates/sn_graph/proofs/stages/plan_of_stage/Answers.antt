use Rattle.std.proofs.Common.{◌≡◌, ◌<◌, [], List, length, sym, ap, subst, arith}
use Rattle.std.specs.Prelude.{pos}
use Rattle.std.proofs.lemmas.Result.{IfOk-weaker}
use Rattle.sn_round.specs.declared.jobs.Job.{Job}
use Rattle.sn_tree.specs.Trees.{count, subtree}
use Rattle.sn_graph.specs.Voices.{HeardNodes, AreWithin, JointsEnd, Once, voices}
use Rattle.sn_graph.specs.Rows.{size}
use Rattle.sn_graph.specs.Plans.{IsPlanned, SplitsAreClear, plan_of, row_of}
use Rattle.sn_graph.specs.Inputs.{nodes_of}
use Rattle.sn_graph.specs.Lanes.{with_lanes}
use Rattle.sn_graph.specs.Stages.{running_nodes}
use Rattle.sn_graph.proofs.Alike.{once_alike}
use Rattle.sn_graph.proofs.Clearing.{are_plain, none_meet_below, whole_below}
use Rattle.sn_graph.proofs.Counting.{few_jobs, once_below}
use Rattle.sn_graph.proofs.Ending.{nodes_joints, nodes_within}
use Rattle.sn_graph.proofs.Planning.{length-jobs}
use Rattle.sn_graph.proofs.Splitting.{alike, nodes_clear}
use Rattle.sn_graph.proofs.Staging.{within_below}
use Rattle.sn_graph.proofs.stages.plan_of_stage.Goals as goal

pub plan_of_nodes-requires-clause-few : goal.plan_of_nodes-requires-clause-few
plan_of_nodes-requires-clause-few c =
    let few = few_jobs c.args.stage.now.buffers c.args.clashing.now c.args.lanes.first c.args.lanes.most (pos 0) c.args.stage.now.tree.attached c.root_is_a_group.ensures in
    let same = ap (λ (r : HeardNodes). size (row_of [] r)) c.in_ok-nodes.ensures in
    omega (arith, few, same, c.len-count.ensures.value, c.len-count.ensures.bound)

pub plan_of_nodes-requires-clause-within : goal.plan_of_nodes-requires-clause-within
plan_of_nodes-requires-clause-within c =
    let stage = c.args.stage.now in
    let t = running_nodes stage.buffers c.args.clashing.now stage.tree.attached in
    subst (λ (r : HeardNodes). AreWithin (voices r)) (sym c.in_ok-nodes.ensures)
    (nodes_within c.args.lanes.first c.args.lanes.most c.requires.end c.requires.most t (are_plain stage.buffers c.args.clashing.now (subtree (pos 0) stage.tree.attached)) (within_below stage.buffers c.args.clashing.now (pos 0) stage.tree.attached c.requires.buffers c.requires.states))

pub plan_of_nodes-requires-clause-joints : goal.plan_of_nodes-requires-clause-joints
plan_of_nodes-requires-clause-joints c =
    let stage = c.args.stage.now in
    let t = running_nodes stage.buffers c.args.clashing.now stage.tree.attached in
    subst (λ (r : HeardNodes). JointsEnd r) (sym c.in_ok-nodes.ensures)
    (nodes_joints c.args.lanes.first c.args.lanes.most c.requires.end c.requires.most t (are_plain stage.buffers c.args.clashing.now (subtree (pos 0) stage.tree.attached)))

pub plan_of_nodes-requires-clause-once : goal.plan_of_nodes-requires-clause-once
plan_of_nodes-requires-clause-once c =
    let stage = c.args.stage.now in
    let t = running_nodes stage.buffers c.args.clashing.now stage.tree.attached in
    subst (λ (r : HeardNodes). Once (voices r)) (sym c.in_ok-nodes.ensures)
    (once_alike (voices t) (voices (with_lanes c.args.lanes.first c.args.lanes.most t)) (alike c.args.lanes.first c.args.lanes.most t (are_plain stage.buffers c.args.clashing.now (subtree (pos 0) stage.tree.attached)))
    (once_below stage.buffers c.args.clashing.now (pos 0) stage.tree.attached c.ids_are_distinct.ensures))

pub returns-clause-jobs : goal.returns-clause-jobs
returns-clause-jobs c =
    let stage = c.args.stage.now in
    let t = with_lanes c.args.lanes.first c.args.lanes.most (running_nodes stage.buffers c.args.clashing.now stage.tree.attached) in
    IfOk-weaker c.plan_of_nodes.result (λ (plan : List Job). plan ≡ plan_of (nodes_of c.in_ok-nodes.nodes)) (λ plan. plan ≡ plan_of t) (λ plan e. subst (λ (r : HeardNodes). plan ≡ plan_of r) c.in_ok-nodes.ensures e) c.plan_of_nodes.ensures.jobs

pub returns-clause-planned : goal.returns-clause-planned
returns-clause-planned c =
    let stage = c.args.stage.now in
    let t = with_lanes c.args.lanes.first c.args.lanes.most (running_nodes stage.buffers c.args.clashing.now stage.tree.attached) in
    IfOk-weaker c.plan_of_nodes.result (IsPlanned (nodes_of c.in_ok-nodes.nodes)) (IsPlanned t) (λ plan e. subst (λ (r : HeardNodes). IsPlanned r plan) c.in_ok-nodes.ensures e) c.plan_of_nodes.ensures.planned

pub returns-clause-few : goal.returns-clause-few
returns-clause-few c =
    let few = few_jobs c.args.stage.now.buffers c.args.clashing.now c.args.lanes.first c.args.lanes.most (pos 0) c.args.stage.now.tree.attached c.root_is_a_group.ensures in
    let same = ap (λ (r : HeardNodes). size (row_of [] r)) c.in_ok-nodes.ensures in
    IfOk-weaker c.plan_of_nodes.result (λ (plan : List Job). plan ≡ plan_of (nodes_of c.in_ok-nodes.nodes)) (λ plan. length plan < count c.args.stage.now.tree.attached)
    (λ plan e. omega (arith, ap length e, length-jobs 0 [] (row_of [] (nodes_of c.in_ok-nodes.nodes)), few, same)) c.plan_of_nodes.ensures.jobs

pub returns-clause-race_free : goal.returns-clause-race_free
returns-clause-race_free c = λ apart below listed.
    let stage = c.args.stage.now in
    let t = running_nodes stage.buffers c.args.clashing.now stage.tree.attached in
    c.plan_of_nodes.ensures.race_free
    (subst SplitsAreClear (sym c.in_ok-nodes.ensures)
    (nodes_clear c.args.lanes.first c.args.lanes.most t (are_plain stage.buffers c.args.clashing.now (subtree (pos 0) stage.tree.attached))
    (whole_below stage.buffers c.args.clashing.now c.args.lanes.first (pos 0) stage.tree.attached below)
    (none_meet_below stage.buffers c.args.clashing.now (pos 0) stage.tree.attached apart listed)))
