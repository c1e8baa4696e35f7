use Rattle.std.proofs.Common.{◌≡◌, ◌<◌, ◌∙◌, List, ℕ, [], ap, get_or, length, arith}
use Rattle.std.proofs.lemmas.List.{get_or_default}
use Rattle.sn_round.specs.declared.jobs.Job.{Job}
use Rattle.sn_round.specs.Jobs.{successors}
use Rattle.sn_round.proofs.Inverses.{length-table, get_or-table}
use Rattle.sn_round.proofs.plan.Plan.successors.Goals as goal

pub index-requires : goal.index-requires
index-requires c = omega (arith, c.requires, ap length c.self.view_is, ap length c.self.invariant.1, length-table (successors c.self.inside.jobs.items) (length c.self.inside.jobs.items))

pub returns : goal.returns
returns c =
    let js : List Job = c.self.inside.jobs.items in
    let below : c.args.job < length js = omega (arith, c.requires, ap length c.self.view_is) in
    let long : length c.self.inside.after.items ≡ length js = ap length c.self.invariant.1 ∙ length-table (successors js) (length js) in
    c.index.ensures
    ∙ get_or_default c.self.inside.after.items c.args.job c.index.result.now [] (omega (arith, below, long))
    ∙ ap (λ (xs : List (List ℕ)). get_or xs c.args.job []) c.self.invariant.1
    ∙ get_or-table (successors js) (length js) c.args.job below
    ∙ ap (λ (l : List Job). successors l c.args.job) c.self.view_is
