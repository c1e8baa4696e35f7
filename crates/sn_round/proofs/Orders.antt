-- What the order of jobs says of their positions.
use Rattle.std.proofs.Common.{◌≡◌, ⊎_elim, ℕ, zero, suc, ◌<◌, ◌≤◌, List, [], ◌∷◌, length, refl, subst, arith}
use Rattle.std.specs.Prelude.{Contains}
use Rattle.std.proofs.lemmas.Bool.{cases_lt}
use Rattle.sn_mem.specs.Words.{Clash}
use Rattle.sn_round.specs.declared.jobs.Job.{Job}
use Rattle.sn_round.specs.Jobs.{AreJobs, IsRaceFree, Ordered, direct, through, job_at, foot_at, predecessors, no_job}

pub past_end : (jobs : List Job) (j : ℕ) → length jobs ≤ j → job_at jobs j ≡ no_job
past_end [] j l = refl
past_end (x ∷ xs) zero l = absurd (omega arith)
past_end (x ∷ xs) (suc j) l = past_end xs j (omega arith)

pub nothing_in : (i : ℕ) → Contains {X = ℕ} [] i → ⊥
nothing_in i (k, l, e) = omega arith

-- a predecessor stands before its job, even if there is no such job
pub lower : (jobs : List Job) → AreJobs jobs → (i j : ℕ) → Contains (predecessors jobs j) i → i < j
lower jobs are i j c =
    ⊎_elim
    (λ (l : j < length jobs). are.lower i j l c)
    (λ (l : length jobs ≤ j). absurd (nothing_in i (subst (λ (x : Job). Contains x.before i) (past_end jobs j l) c)))
    (cases_lt j (length jobs))

pub rises : (jobs : List Job) → AreJobs jobs → {i j : ℕ} → Ordered jobs i j → i < j
rises jobs are {i} {j} (direct c) = lower jobs are i j c
rises jobs are {i} {j} (through {k = k} o c) = let a : i < k = rises jobs are o in let b : k < j = lower jobs are k j c in omega arith

pub lower_first : (jobs : List Job) (i j : ℕ) → AreJobs jobs → IsRaceFree jobs → i < j → j < length jobs → Clash (foot_at jobs i) (foot_at jobs j) → Ordered jobs i j
lower_first jobs i j are free l m clash =
    ⊎_elim
    (λ (o : Ordered jobs i j). o)
    (λ (o : Ordered jobs j i). let b : j < i = rises jobs are o in absurd (omega arith))
    (free i j (omega arith) m (omega arith) clash)
