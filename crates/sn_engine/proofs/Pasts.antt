-- What stays of the rounds that were rested.
use Rattle.std.proofs.Common.{◌≡◌, ℕ, List, ap, ◌∙◌}
use Rattle.sn_round.specs.declared.jobs.Job.{Job}
use Rattle.sn_machine.specs.declared.views.Rested.{Rested}
use Rattle.sn_engine.specs.Playing.{Past, Playing, KeepsRounds, KeepsRested}

pub running_is : {p q : Playing} → p ≡ q → p.running ≡ q.running
running_is e = ap (λ (p : Playing). p.running) e

pub past_is : {p q : Playing} → p ≡ q → p.past ≡ q.past
past_is e = ap (λ (p : Playing). p.past) e

-- of what was at first
module _ (p first : Past) (is : p ≡ first) (jobs : List Job) (rounds : List Rested) (stores crew : ℕ) (same_rounds : rounds ≡ p.rounds) (same_crew : crew ≡ p.crew) where
  pub rested_kept : KeepsRested first (record { jobs = jobs; rounds = rounds; stores = stores; crew = crew })
  rested_kept = λ i. record {
    jobs = jobs;
    rounds = (same_rounds ∙ ap (λ (x : Past). x.rounds) is) i;
    stores = stores;
    crew = (same_crew ∙ ap (λ (x : Past). x.crew) is) i;
  }

  pub rounds_kept : jobs ≡ p.jobs → KeepsRounds first (record { jobs = jobs; rounds = rounds; stores = stores; crew = crew })
  rounds_kept same_jobs = λ i. record {
    jobs = (same_jobs ∙ ap (λ (x : Past). x.jobs) is) i;
    rounds = (same_rounds ∙ ap (λ (x : Past). x.rounds) is) i;
    stores = stores;
    crew = (same_crew ∙ ap (λ (x : Past). x.crew) is) i;
  }
