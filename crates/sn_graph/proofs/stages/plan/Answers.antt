use Rattle.std.proofs.Common.{◌≡◌, ◌∙◌, ℤ, List, ap, map, subst, sym}
use Rattle.std.specs.Prelude.{pos, IfOk}
use Rattle.sn_tree.specs.Trees.{subtree}
use Rattle.sn_clash.specs.declared.clash.Clash.{Clash}
use Rattle.sn_graph.specs.Plans.{IsPlanned, plan_of}
use Rattle.sn_graph.specs.Clear.{AreListed}
use Rattle.sn_graph.specs.Lanes.{with_lanes}
use Rattle.sn_graph.specs.Stages.{clashing_in, running_nodes}
use Rattle.sn_graph.proofs.Naming.{all_listed}
use Rattle.sn_graph.proofs.stages.plan.Goals as goal

pub returns-clause-jobs : goal.returns-clause-jobs
returns-clause-jobs c =
    let stage = c.args.stage.now in
    let same : c.in_ok-clashing.clashing ≡ clashing_in stage = c.in_ok-clashing.ensures ∙ ap (λ (cs : List Clash). map (λ (x : Clash). x.group) cs) c.requires.clashes in
    subst (λ (ids : List ℤ). IfOk c.plan_of_stage.result (λ plan. plan ≡ plan_of (with_lanes c.args.lanes.first c.args.lanes.most (running_nodes stage.buffers ids stage.tree.attached)))) same c.plan_of_stage.ensures.jobs

pub returns-clause-planned : goal.returns-clause-planned
returns-clause-planned c =
    let stage = c.args.stage.now in
    let same : c.in_ok-clashing.clashing ≡ clashing_in stage = c.in_ok-clashing.ensures ∙ ap (λ (cs : List Clash). map (λ (x : Clash). x.group) cs) c.requires.clashes in
    subst (λ (ids : List ℤ). IfOk c.plan_of_stage.result (IsPlanned (with_lanes c.args.lanes.first c.args.lanes.most (running_nodes stage.buffers ids stage.tree.attached)))) same c.plan_of_stage.ensures.planned

pub returns-clause-race_free : goal.returns-clause-race_free
returns-clause-race_free c = λ apart below.
    let stage = c.args.stage.now in
    let same : c.in_ok-clashing.clashing ≡ clashing_in stage = c.in_ok-clashing.ensures ∙ ap (λ (cs : List Clash). map (λ (x : Clash). x.group) cs) c.requires.clashes in
    let all : AreListed stage.buffers (clashing_in stage) (subtree (pos 0) stage.tree.attached) = subst (AreListed stage.buffers (clashing_in stage)) (sym c.root_holds_all.ensures) (all_listed stage.buffers stage.tree.attached) in
    c.plan_of_stage.ensures.race_free apart below (subst (λ (ids : List ℤ). AreListed stage.buffers ids (subtree (pos 0) stage.tree.attached)) (sym same) all)
