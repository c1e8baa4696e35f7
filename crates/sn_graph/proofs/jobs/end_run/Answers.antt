use Rattle.std.proofs.Common.{◌≡◌, ◌≤◌, ◌++◌, ◌∷◌, [], ap, ◌∙◌, length, Some, arith, rules}
use Rattle.sn_round.specs.declared.jobs.Job.{Job}
use Rattle.sn_graph.specs.Rows.{job_of}
use Rattle.sn_graph.specs.Drafts.{listed}
use Rattle.sn_graph.proofs.Drafting.{behind, put_run, length-behind}
use Rattle.sn_graph.proofs.jobs.end_run.Goals as goal

pub returns : goal.returns
returns c =
    put_run c.args.jobs.now.items c.push.new.self.items c.args.entry _ (behind c.args.run.now)
    (let h : 1 ≤ length c.args.run.now = search rules in omega (arith, length-behind c.args.run.now))
    (c.in_ok-push.ensures.items ∙ (let made : c.in_ok-job.job ≡ job_of (behind c.args.run.now) [] (listed c.args.entry) = c.in_ok-job.ensures ∙ ap (job_of (behind c.args.run.now) []) c.in_ok-before.ensures in ap (λ (j : Job). c.args.jobs.now.items ++ j ∷ []) made))
    (let q : c.len-number.result ≡ length c.args.jobs.now.items = omega arith in ap Some q)
