-- The traced chain of a stage's plan is the longest, and the one of its report.
use Rattle.std.proofs.Common.{◌≡◌, ℕ, ◌≤◌, ℤ, true, false, ◌&&◌, List, [], ◌∷◌, length, sym, refl, ap, ◌∙◌, subst, arith}
use Rattle.std.specs.Prelude.{pos, ◌==◌, replicate}
use Rattle.std.proofs.lemmas.Bool.{and_parts}
use Rattle.sn_round.specs.declared.jobs.Job.{Job}
use Rattle.sn_round.specs.Jobs.{AreJobs, job_at}
use Rattle.sn_tree.specs.Trees.{subtree}
use Rattle.sn_world.specs.declared.stage.Stage.{Stage}
use Rattle.sn_graph.specs.declared.nodes.Voice.{Voice}
use Rattle.sn_graph.specs.Voices.{Once, HeardNodes, ids_of, voices}
use Rattle.sn_graph.specs.Rows.{Row}
use Rattle.sn_graph.specs.Plans.{joined_synths, plan_of, row_of}
use Rattle.sn_graph.specs.Stages.{clashing_in, nodes_in, nodes_with}
use Rattle.sn_graph.proofs.Alike.{alike_laned, once_alike}
use Rattle.sn_graph.proofs.Counting.{once_below}
use Rattle.sn_graph.proofs.Distinctly.{Distinct}
use Rattle.sn_graph.proofs.Filling.{full-row}
use Rattle.sn_graph.proofs.Numbers.{listed-ids}
use Rattle.sn_graph.proofs.Parting.{heard-row}
use Rattle.sn_graph.proofs.Planning.{synths-jobs}
use Rattle.sn_report.specs.Costs.{cost_of, units_in}
use Rattle.sn_report.specs.Certificates.{are_levels, below, chain_cost, greatest_of, is_chain, played}
use Rattle.sn_report.specs.Tracing.{IsTraced}
use Rattle.sn_report.specs.Weights.{Weight}
use Rattle.sn_report.specs.Lines.{AreInLine, AreOnce, IsLongest, IsPlanIn}
use Rattle.sn_report.specs.Reports.{stage_weight}
use Rattle.sn_report.proofs.Certified.{traced_certified, traced_cost}
use Rattle.sn_report.proofs.InLine.{chain_in_line, chain_once, line_most}
use Rattle.sn_report.proofs.NodeWeights.{cost-append, stage_row}
use Rattle.sn_report.proofs.RowWeights.{row_weight, whole_chain, whole_level}

once_ids : (vs : List Voice) → Once vs → AreOnce (ids_of vs)
once_ids [] one = tt
once_ids (v ∷ vs) one = (listed-ids vs v.id ∙ one.0, once_ids vs one.1)

once_played : (stage : Stage) (first : ℕ) → Distinct stage.tree.attached → AreOnce (joined_synths (plan_of (nodes_with first 4096 stage)))
once_played stage first one =
    let nodes : HeardNodes = nodes_with first 4096 stage in
    let same : joined_synths (plan_of nodes) ≡ ids_of (voices nodes) = synths-jobs 0 [] (row_of [] nodes) ∙ ap ids_of (heard-row [] nodes) in
    subst AreOnce (sym same) (once_ids (voices nodes) (once_alike (voices (nodes_in stage)) (voices nodes) (alike_laned first 4096 (replicate 128 false) 0 (nodes_in stage)) (once_below stage.buffers (clashing_in stage) (pos 0) stage.tree.attached one)))

pub played_cost : (units : ℤ → ℕ) (jobs : List Job) (chain : List ℕ) → chain_cost units jobs chain ≡ cost_of units (played jobs chain)
played_cost units jobs [] = refl
played_cost units jobs (j ∷ js) = omega (arith, played_cost units jobs js, cost-append units (job_at jobs j).synths (played jobs js))

abbrev pub IsReported : Stage → List Job → List ℕ → Type 0
IsReported stage jobs chain = (played jobs chain ≡ (stage_weight stage).chain) × IsLongest (units_in stage) jobs (stage_weight stage)

of_plan : (stage : Stage) (first : ℕ) (chain levels : List ℕ) → subtree (pos 0) stage.tree.attached ≡ stage.tree.attached → Distinct stage.tree.attached → AreJobs (plan_of (nodes_with first 4096 stage)) → IsTraced (units_in stage) (plan_of (nodes_with first 4096 stage)) chain levels → IsReported stage (plan_of (nodes_with first 4096 stage)) chain
of_plan stage first chain levels root one are t =
    let units : ℤ → ℕ = units_in stage in
    let jobs : List Job = plan_of (nodes_with first 4096 stage) in
    let row : Row = row_of [] (nodes_with first 4096 stage) in
    let w : Weight = row_weight units row in
    let is : stage_weight stage ≡ w = stage_row stage first root one in
    let greatest : ℕ = greatest_of levels (below (length jobs)) in
    let synths : played jobs chain ≡ w.chain = whole_chain units row levels t.least chain (full-row [] (nodes_with first 4096 stage)) t.chain_is in
    let level : greatest ≡ w.cost = whole_level units row levels t.least in
    let cost : chain_cost units jobs chain ≡ greatest = traced_cost units jobs levels are t.least (below (length jobs)) chain t.chain_is in
    let sum : chain_cost units jobs chain ≡ cost_of units w.chain = played_cost units jobs chain ∙ ap (cost_of units) synths in
    let goes : is_chain jobs chain ≡ true = (and_parts (is_chain jobs chain) (are_levels units jobs levels && (chain_cost units jobs chain == greatest)) (traced_certified units jobs levels are chain t)).0 in
    let longest : IsLongest units jobs w = record {
      once = subst AreOnce synths (chain_once jobs are chain (once_played stage first one) goes);
      cost_is = sym level ∙ (sym cost ∙ sum);
      line = subst (AreInLine jobs) synths (chain_in_line jobs chain (once_played stage first one) goes);
      most = λ ids once line. let most : cost_of units ids ≤ greatest = line_most units jobs levels are t.least ids once line in omega arith;
    } in
    (synths ∙ ap (λ (v : Weight). v.chain) (sym is), subst (IsLongest units jobs) (sym is) longest)

pub reported : (stage : Stage) (jobs : List Job) (chain levels : List ℕ) → subtree (pos 0) stage.tree.attached ≡ stage.tree.attached → Distinct stage.tree.attached → IsPlanIn stage jobs → AreJobs jobs → IsTraced (units_in stage) jobs chain levels → IsReported stage jobs chain
reported stage jobs chain levels root one is =
    subst (λ (js : List Job). AreJobs js → IsTraced (units_in stage) js chain levels → IsReported stage js chain) (sym is.1) (of_plan stage is.0 chain levels root one)
