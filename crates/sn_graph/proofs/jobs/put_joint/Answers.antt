use Rattle.std.proofs.Common.{◌≡◌, ◌≤◌, ◌++◌, ◌∷◌, [], ap, ◌∙◌, length, Some, arith, rules}
use Rattle.sn_round.specs.declared.jobs.Job.{Job}
use Rattle.sn_graph.proofs.Drafting.{is_joint}
use Rattle.sn_graph.proofs.jobs.put_joint.Goals as goal

pub returns : goal.returns
returns c =
    is_joint c.args.lanes.now c.args.jobs.now.items c.push.new.self.items c.args.lasts c.args.entry _
    (let v : length c.as_slice.result.now ≡ length c.args.lasts = ap length c.as_slice.ensures in let h : 2 ≤ length c.as_slice.result.now = search rules in omega arith)
    (c.in_ok-push.ensures.items ∙ ap (λ (j : Job). c.args.jobs.now.items ++ j ∷ []) c.in_ok-job.ensures)
    (let q : c.len-number.result ≡ length c.args.jobs.now.items = omega arith in ap Some q)
