use Rattle.std.proofs.Common.{◌∙◌, ℤ, List, length, ap}
use Rattle.sn_mem.specs.declared.moves.Moved.{Moved}
use Rattle.sn_io.specs.Joints.{with_lanes}
use Rattle.sn_round.specs.Jobs.{job_at, lanes_at}
use Rattle.sn_graph.specs.Plans.{runs_of}
use Rattle.sn_play.specs.Steps.{lane_steps}
use Rattle.sn_play.proofs.JobRuns.{adds, by_foot, can, makes}
use Rattle.sn_play.proofs.block.BlockJobsWork.run.Goals as goal

pub run_job-requires-clause-nodes : goal.run_job-requires-clause-nodes
run_job-requires-clause-nodes g c =
    let port = c.args.port.now in
    can c.args.self.now c.root_holds_all.ensures c.ids_are_distinct.ensures c.requires.ready c.args.job (length (g.P.Port.words port)) (g.P.Port.foot port) c.as_slice.result.now c.all_moves-moves.result.now c.requires.job c.requires.foot
    (c.as_slice.ensures ∙ c.synths-synths.ensures) c.all_moves-moves.ensures (λ x t. g.met.P.Port.inside port x t)

pub run_job-requires-clause-by_foot : goal.run_job-requires-clause-by_foot
run_job-requires-clause-by_foot g c =
    by_foot c.args.self.now c.root_holds_all.ensures c.ids_are_distinct.ensures c.requires.ready c.args.job (g.P.Port.foot c.args.port.now) c.as_slice.result.now c.all_moves-moves.result.now c.requires.job c.requires.foot
    (c.as_slice.ensures ∙ c.synths-synths.ensures) c.all_moves-moves.ensures

pub join_lanes-requires-clause-may : goal.join_lanes-requires-clause-may
join_lanes-requires-clause-may g c =
    adds c.args.self.now c.root_holds_all.ensures c.ids_are_distinct.ensures c.requires.ready c.args.job (g.P.Port.foot c.run_job.new.port) c.as_slice-2.result.now c.requires.job (c.run_job.ensures.port.0 ∙ c.requires.foot)
    (c.as_slice-2.ensures ∙ c.lanes-lanes.ensures)

pub returns-clause-words : goal.returns-clause-words
returns-clause-words g c =
    let w = c.args.self.now in
    let stage = w.stage.now in
    let js = w.plan.now in
    let i = c.args.job in
    let ws = g.P.Port.words c.args.port.now in
    c.join_lanes.ensures.words
    ∙ ap (λ (ms : List Moved). with_lanes w.block ms (g.P.Port.words c.run_job.new.port)) (c.as_slice-2.ensures ∙ c.lanes-lanes.ensures)
    ∙ ap (with_lanes w.block (lanes_at js i)) c.run_job.ensures.words
    ∙ ap (λ (ns : List ℤ). with_lanes w.block (lanes_at js i) (lane_steps stage w.block (runs_of ns c.all_moves-moves.result.now) ws)) (c.as_slice.ensures ∙ c.synths-synths.ensures)
    ∙ ap (λ (ms : List (List Moved)). with_lanes w.block (lanes_at js i) (lane_steps stage w.block (runs_of (job_at js i).synths ms) ws)) c.all_moves-moves.ensures
    ∙ makes w c.root_holds_all.ensures c.ids_are_distinct.ensures c.requires.ready i ws c.requires.job
