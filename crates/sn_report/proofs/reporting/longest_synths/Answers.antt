use Rattle.std.proofs.Common.{◌≡◌, ◌∙◌, ℤ, List, ap}
use Rattle.std.proofs.lemmas.Result.{IfOk-weaker}
use Rattle.sn_report.specs.Costs.{units_in}
use Rattle.sn_report.specs.Certificates.{played}
use Rattle.sn_report.specs.Lines.{IsLongest}
use Rattle.sn_report.specs.Reports.{stage_weight}
use Rattle.sn_report.proofs.LongestLemmas.{reported}
use Rattle.sn_report.proofs.reporting.longest_synths.Goals as goal

pub returns-clause-chain : goal.returns-clause-chain
returns-clause-chain c =
    let plan = c.args.plan.now in
    let stage = c.args.stage.now in
    let certificate = c.in_ok-certificate.certificate in
    let r = reported stage plan certificate.chain certificate.levels.items c.root_holds_all.ensures c.ids_are_distinct.ensures c.requires c.is_well_formed.ensures c.in_ok-certificate.ensures.traced in
    IfOk-weaker c.played.result (λ (ids : List ℤ). ids ≡ played plan c.as_slice.result.now) (λ (ids : List ℤ). ids ≡ (stage_weight stage).chain)
    (λ ids e. e ∙ (ap (played plan) c.as_slice.ensures ∙ r.0)) c.played.ensures

pub returns-clause-longest : goal.returns-clause-longest
returns-clause-longest c =
    let plan = c.args.plan.now in
    let stage = c.args.stage.now in
    let certificate = c.in_ok-certificate.certificate in
    let r = reported stage plan certificate.chain certificate.levels.items c.root_holds_all.ensures c.ids_are_distinct.ensures c.requires c.is_well_formed.ensures c.in_ok-certificate.ensures.traced in
    IfOk-weaker c.played.result (λ (ids : List ℤ). ids ≡ played plan c.as_slice.result.now) (λ (ids : List ℤ). IsLongest (units_in stage) plan (stage_weight stage))
    (λ ids e. r.1) c.played.ensures
