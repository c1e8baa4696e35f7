use Rattle.std.proofs.Common.{◌∙◌, ℕ, List, ap, arith, length, reverse, subst, sym}
use Rattle.sn_report.specs.Certificates.{below}
use Rattle.sn_report.specs.Tracing.{Comes, ceiling}
use Rattle.sn_report.proofs.LevelLemmas.{ceiling_below}
use Rattle.sn_report.proofs.chains.traced.Goals as goal

pub traced_back-requires : goal.traced_back-requires
traced_back-requires c =
    let same = ap ceiling (c.deref.ensures.value ∙ c.in_ok-all.ensures) in
    let n = c.jobs.result in
    omega (arith, same, ceiling_below n, c.jobs.ensures)

pub returns : goal.returns
returns c =
    let jobs = c.args.plan.now in
    let levels = c.args.levels.now in
    let all = c.deref.ensures.value ∙ c.in_ok-all.ensures ∙ ap below c.jobs.ensures in
    let from_all = subst (λ (l : List ℕ). Comes jobs levels l (reverse c.in_ok-chain.chain.items)) all c.in_ok-chain.ensures in
    subst (Comes jobs levels (below (length jobs))) (sym c.reverse.ensures.items) from_all
