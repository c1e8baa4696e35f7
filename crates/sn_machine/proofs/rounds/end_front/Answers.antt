use Rattle.std.proofs.Common.{◌∙◌, ℕ, List, ap, set}
use Rattle.sn_machine.specs.States.{ENDED}
use Rattle.sn_machine.proofs.Covering.{ended_more}
use Rattle.sn_machine.proofs.rounds.end_front.Goals as goal

pub loop-job-preserved : goal.loop-job-preserved
loop-job-preserved c = c.set.ensures ∙ (ap (λ (cs : List ℕ). set cs c.loop-job.job ENDED) c.loop-job.invariant ∙ ended_more c.loop-job.job c.args.counts.now)
