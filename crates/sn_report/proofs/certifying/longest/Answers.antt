use Rattle.std.proofs.Common.{◌∙◌, ◌++◌, length}
use Rattle.sn_report.specs.Costs.{units_in}
use Rattle.sn_report.specs.Certificates.{below}
use Rattle.sn_report.proofs.Certified.{traced_certified}
use Rattle.sn_report.proofs.Traced.{traced_by}
use Rattle.sn_report.proofs.certifying.longest.Goals as goal

pub returns-clause-traced : goal.returns-clause-traced
returns-clause-traced c = record {
  least = c.in_ok-levels.ensures;
  chain_is = traced_by c.args.plan.now c.deref.result.now c.in_ok-levels.levels.items (below (length c.args.plan.now)) c.in_ok-jobs.jobs.items c.extend.new.self c.deref.ensures.value
      (c.in_ok-extend.ensures.ok ∙ (λ i. c.new-chain.ensures i ++ c.deref-2.ensures.value i)) c.in_ok-jobs.ensures;
}

pub returns-clause-certified : goal.returns-clause-certified
returns-clause-certified c = traced_certified (units_in c.args.stage.now) c.args.plan.now c.in_ok-levels.levels.items c.is_well_formed.ensures c.extend.new.self (record {
  least = c.in_ok-levels.ensures;
  chain_is = traced_by c.args.plan.now c.deref.result.now c.in_ok-levels.levels.items (below (length c.args.plan.now)) c.in_ok-jobs.jobs.items c.extend.new.self c.deref.ensures.value
      (c.in_ok-extend.ensures.ok ∙ (λ i. c.new-chain.ensures i ++ c.deref-2.ensures.value i)) c.in_ok-jobs.ensures;
})
