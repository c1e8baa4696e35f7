use Rattle.std.proofs.Common.{◌≡◌, ◌∙◌, refl, subst, sym}
use Rattle.std.proofs.lemmas.Result.{IfOk-weaker}
use Rattle.sn_ports.specs.Octets.{Octets}
use Rattle.sn_report.specs.Costs.{units_in}
use Rattle.sn_report.specs.Lines.{EachHasLongest, IsLongest, TellsEach}
use Rattle.sn_report.specs.Reports.{report_in, stage_weight}
use Rattle.sn_report.specs.Weights.{Weight}
use Rattle.sn_report.proofs.Worlds.{same_report, same_weight}
use Rattle.sn_report.proofs.reporting.stage_report.Goals as goal

pub plan-requires-clause-buffers : goal.plan-requires-clause-buffers
plan-requires-clause-buffers c = c.worlds_are_disjoint.ensures.buffers c.requires.words c.requires.pictures

pub plan-requires-clause-states : goal.plan-requires-clause-states
plan-requires-clause-states c = c.worlds_are_disjoint.ensures.states c.requires.words c.requires.pictures

pub plan-requires-clause-clashes : goal.plan-requires-clause-clashes
plan-requires-clause-clashes c = c.as_slice.ensures ∙ c.in_ok-clashes.ensures.found

pub returns-clause-text : goal.returns-clause-text
returns-clause-text c =
    let stage = c.args.stage.now in
    IfOk-weaker c.report.result (λ (t : Octets). t.bytes ≡ report_in stage) (λ (t : Octets). TellsEach stage t.bytes)
    (λ t e words. e ∙ sym (same_report stage words)) c.report.ensures.text

pub report-requires : goal.report-requires
report-requires c = (0, c.in_ok-plan.ensures.jobs)

pub returns-clause-longest : goal.returns-clause-longest
returns-clause-longest c =
    let stage = c.args.stage.now in
    IfOk-weaker c.report.result (λ (t : Octets). IsLongest (units_in stage) c.in_ok-plan.plan (stage_weight stage)) (λ (t : Octets). EachHasLongest stage)
    (λ t longest words. record {
      stage = stage;
      words = words;
      stands = refl;
      jobs = c.in_ok-plan.plan;
      plan = (0, c.in_ok-plan.ensures.jobs);
      longest = subst (λ (w : Weight). IsLongest (units_in stage) c.in_ok-plan.plan w) (sym (same_weight stage words)) longest;
    })
    c.report.ensures.longest
