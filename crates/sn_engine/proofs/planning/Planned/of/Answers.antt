use Rattle.std.proofs.Common.{◌≡◌, ◌∙◌, ap, subst, arith}
use Rattle.sn_graph.specs.Plans.{IsPlanned, plan_of}
use Rattle.sn_graph.specs.Stages.{nodes_with}
use Rattle.sn_graph.specs.Voices.{HeardNodes}
use Rattle.sn_engine.specs.Planning.{first_lane, laned_nodes, lanes_for}
use Rattle.sn_engine.proofs.LaneLemmas.{lanes_few}
use Rattle.sn_engine.proofs.planning.Planned.of.Goals as goal

pub lanes_behind-lanes-requires : goal.lanes_behind-lanes-requires
lanes_behind-lanes-requires c = omega (arith, c.requires.lanes)

pub plan-requires-clause-buffers : goal.plan-requires-clause-buffers
plan-requires-clause-buffers c = c.worlds_are_disjoint.ensures.buffers c.requires.stands.words c.requires.stands.pictures

pub plan-requires-clause-states : goal.plan-requires-clause-states
plan-requires-clause-states c = c.worlds_are_disjoint.ensures.states c.requires.stands.words c.requires.stands.pictures

pub plan-requires-clause-clashes : goal.plan-requires-clause-clashes
plan-requires-clause-clashes c = c.as_slice.ensures ∙ (c.requires.clashes c.requires.stands.words ∙ c.world_has_the_clashes.ensures c.requires.stands.words)

pub plan-requires-clause-most : goal.plan-requires-clause-most
plan-requires-clause-most c = omega (arith, c.lanes_behind-lanes.ensures.most, lanes_few c.lanes_pay-laned.result)

pub plan-requires-clause-end : goal.plan-requires-clause-end
plan-requires-clause-end c = omega (arith, c.lanes_behind-lanes.ensures.first, c.requires.lanes)

pub returns-clause-planned : goal.returns-clause-planned
returns-clause-planned c =
    let stage = c.args.stage.now in
    let lanes = c.lanes_behind-lanes.result in
    let words = c.requires.stands.words in
    let pictures = c.requires.stands.pictures in
    let first : lanes.first ≡ first_lane stage = omega (arith, c.lanes_behind-lanes.ensures.first, c.requires.copies) in
    let laned = c.lanes_pay-laned.result in
    let most : lanes.most ≡ lanes_for laned = c.lanes_behind-lanes.ensures.most in
    let nodes : nodes_with lanes.first lanes.most stage ≡ laned_nodes laned stage = λ i. nodes_with (first i) (most i) stage in
    record {
      plan = record {
        laned = laned;
        jobs_are = c.in_ok-jobs.ensures.jobs ∙ ap plan_of nodes;
        planned = subst (λ (n : HeardNodes). IsPlanned n c.in_ok-jobs.jobs) nodes c.in_ok-jobs.ensures.planned;
        order = c.is_well_formed.ensures;
        free = c.in_ok-jobs.ensures.race_free (c.worlds_are_disjoint.ensures.disjoint words pictures) (c.worlds_lie_below.ensures words lanes.first pictures (omega (arith, first)));
        few = omega (arith, c.in_ok-jobs.ensures.few, c.len-count.ensures.value, c.len-count.ensures.bound);
      };
      lanes_are = c.lanes_pay-laned.ensures;
      quiet_is = c.is_quiet-quiet.ensures;
      eventful_is = c.in_ok-eventful.ensures;
    }
