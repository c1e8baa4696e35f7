use Rattle.std.proofs.Common.{◌≡◌, ◌++◌, [], List, ap, subst, sym, ◌∙◌, length, arith}
use Rattle.std.proofs.lemmas.Result.{IfOk-weaker}
use Rattle.sn_round.specs.declared.jobs.Job.{Job}
use Rattle.sn_round.specs.Jobs.{AreJobs, IsRaceFree}
use Rattle.sn_graph.specs.Voices.{HeardNodes}
use Rattle.sn_graph.specs.Rows.{jobs}
use Rattle.sn_graph.specs.Plans.{IsPlanned, plan_of, row_of}
use Rattle.sn_graph.specs.Inputs.{nodes_of}
use Rattle.sn_graph.proofs.Planning.{in_order, length-jobs}
use Rattle.sn_graph.proofs.Racing.{race_free}
use Rattle.sn_graph.proofs.Coming.{is_planned}
use Rattle.sn_graph.proofs.jobs.plan_of_nodes.Goals as goal

-- the jobs that were put if there were none before
made : (nodes : HeardNodes) (before after : List Job) → before ≡ [] → after ≡ before ++ jobs (length before) [] (row_of [] nodes) → after ≡ plan_of nodes
made nodes before after e p = p ∙ ap (λ (js : List Job). js ++ jobs (length js) [] (row_of [] nodes)) e

pub new-requires : goal.new-requires
new-requires c =
    let nodes : HeardNodes = nodes_of c.args.nodes.now in
    let is = made nodes c.new-jobs.result.items c.put_row.new.jobs.items c.new-jobs.ensures.items c.in_ok-put_row.ensures.jobs_put in
    subst AreJobs (sym is) (in_order nodes c.requires.once (omega (arith, length-jobs 0 [] (row_of [] nodes), c.requires.few)))

pub returns-clause-jobs : goal.returns-clause-jobs
returns-clause-jobs c =
    let nodes : HeardNodes = nodes_of c.args.nodes.now in
    let is = made nodes c.new-jobs.result.items c.put_row.new.jobs.items c.new-jobs.ensures.items c.in_ok-put_row.ensures.jobs_put in
    IfOk-weaker c.new.result (λ (plan : List Job). plan ≡ c.put_row.new.jobs.items) (λ plan. plan ≡ plan_of nodes) (λ plan e. e ∙ is) c.new.ensures

pub returns-clause-planned : goal.returns-clause-planned
returns-clause-planned c =
    let nodes : HeardNodes = nodes_of c.args.nodes.now in
    let is = made nodes c.new-jobs.result.items c.put_row.new.jobs.items c.new-jobs.ensures.items c.in_ok-put_row.ensures.jobs_put in
    IfOk-weaker c.new.result (λ (plan : List Job). plan ≡ c.put_row.new.jobs.items) (IsPlanned nodes) (λ plan e. subst (IsPlanned nodes) (sym (e ∙ is)) (is_planned nodes c.requires.once)) c.new.ensures

pub returns-clause-race_free : goal.returns-clause-race_free
returns-clause-race_free c = λ clear.
    let nodes : HeardNodes = nodes_of c.args.nodes.now in
    let is = made nodes c.new-jobs.result.items c.put_row.new.jobs.items c.new-jobs.ensures.items c.in_ok-put_row.ensures.jobs_put in
    IfOk-weaker c.new.result (λ (plan : List Job). plan ≡ c.put_row.new.jobs.items) IsRaceFree (λ plan e. subst IsRaceFree (sym (e ∙ is)) (race_free nodes clear)) c.new.ensures
