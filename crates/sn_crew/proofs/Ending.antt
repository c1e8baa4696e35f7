-- The end of a round.
use Rattle.std.proofs.Common.{◌≡◌, ◌∙◌, ℕ, List, [], ◌∷◌, ◌++◌, refl, sym, ap}
use Rattle.sn_round.specs.declared.jobs.Job.{Job}
use Rattle.sn_machine.specs.declared.views.View.{View}
use Rattle.sn_machine.specs.States.{crew_in, jobs_in}
use Rattle.sn_machine.specs.Steps.{last_list, rested_view}
use Rattle.sn_table.specs.Seats.{Stands}
use Rattle.sn_crew.specs.Rounded.{Rounded}

-- main's view after the rest
pub rounded : (v u : View) (jobs : List Job) (crew : ℕ) → Stands v crew 0 u → jobs ≡ jobs_in v.main.phase → Rounded v jobs crew (last_list v.main.phase) (rested_view u)
rounded v u jobs crew s e =
    let same : jobs_in u.main.phase ≡ jobs = ap jobs_in s.phase ∙ sym e in
    let count : crew_in u.main.phase ≡ crew = ap crew_in s.phase in
    record {
      idle = refl;
      memory_is = ap last_list s.phase;
      rested = λ i. s.rested i ++ record { jobs = same i; crew = count i } ∷ [];
      stores = s.stores;
    }

-- the same since an earlier view
pub rounded_since : (u v w : View) (jobs : List Job) (crew count : ℕ) (memory before : List ℕ) → v.main.rested ≡ u.main.rested → v.main.stores ≡ u.main.stores → memory ≡ before → crew ≡ count → Rounded v jobs crew memory w → Rounded u jobs count before w
rounded_since u v w jobs crew count memory before rested stores words size r = record {
  idle = r.idle;
  memory_is = r.memory_is ∙ words;
  rested = r.rested ∙ (λ i. rested i ++ record { jobs = jobs; crew = size i } ∷ []);
  stores = r.stores ∙ stores;
}
