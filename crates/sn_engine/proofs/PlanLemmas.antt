-- Plans without jobs, plans of no span, and plans that are the same.
use Rattle.std.proofs.Common.{◌≡◌, ℕ, Bool, List, [], sym, subst, arith}
use Rattle.std.proofs.lemmas.List.Elements.{All-nil, All-same}
use Rattle.sn_mem.specs.declared.extents.Extent.{Extent}
use Rattle.sn_round.specs.declared.jobs.Job.{Job}
use Rattle.sn_round.specs.Jobs.{AreJobs}
use Rattle.sn_settle.specs.declared.eventful.Eventful.{Eventful}
use Rattle.sn_world.specs.declared.stage.Stage.{Stage}
use Rattle.sn_engine.specs.Planning.{AreSpanned, IsPlannedFor, IsSpanned}
use Rattle.sn_engine.specs.declared.planning.SpanPlan.{SpanPlan}

pub no_jobs_are : AreJobs []
no_jobs_are = record { few = omega arith; lower = λ i j l c. absurd (omega arith); once = λ i j l. absurd (omega arith) }

pub none_spanned : (jobs : List Job) (outputs : List Extent) (copies : ℕ) (spans : List SpanPlan) → spans ≡ [] → AreSpanned jobs outputs copies spans
none_spanned jobs outputs copies spans none = All-same (IsSpanned jobs outputs copies) spans [] none (All-nil (IsSpanned jobs outputs copies))

-- the same if the jobs are, whether they are quiet, and the synths that are listed
pub planned_again : (workers : ℕ) (stage : Stage) (old new : List Job) (before after : Bool) (some same : Eventful) → new ≡ old → after ≡ before → same ≡ some → IsPlannedFor workers stage old before some → IsPlannedFor workers stage new after same
planned_again workers stage old new before after some same jobs quiet eventful h =
    subst (λ (js : List Job). IsPlannedFor workers stage js after same) (sym jobs) (subst (λ (b : Bool). IsPlannedFor workers stage old b same) (sym quiet) (subst (IsPlannedFor workers stage old before) (sym eventful) h))
