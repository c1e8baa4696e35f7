use Rattle.std.proofs.Common.{refl}
use Rattle.sn_round.specs.Jobs.{foot_at, job_at}
use Rattle.sn_play.proofs.JobRuns.{can}
use Rattle.sn_play.proofs.laws.job_feet_suffice.Goals as goal

pub returns : goal.returns
returns c = λ ready i size lt wide.
    let w = c.args.work.now in
    let js = w.plan.now in
    can w c.root_holds_all.ensures c.ids_are_distinct.ensures ready i size (foot_at js i) (job_at js i).synths (job_at js i).moves lt refl refl refl wide
