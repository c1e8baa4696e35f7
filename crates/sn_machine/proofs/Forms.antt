-- The words of a plan in the forms with which the proofs count.
use Rattle.std.proofs.Common.{◌≡◌, ℕ, ◌+◌, ◌<◌, ◌≤◌, ◌==◌, Bool, true, false, cond, if◌then◌else◌, List, [], ◌∷◌, length, refl, subst}
use Rattle.std.specs.Prelude.{Contains}
use Rattle.sn_mem.specs.Words.{Clash}
use Rattle.sn_round.specs.declared.jobs.Job.{Job}
use Rattle.sn_round.specs.Jobs.{AreJobs, IsRaceFree, Ordered, foot_at, predecessors, times}
use Rattle.sn_round.proofs.Orders.{lower_first}
use Rattle.sn_machine.specs.Rule.{tally}

-- how often x stands in the list
abbrev pub occurs : ℕ → List ℕ → ℕ
occurs x xs = tally (λ y. y == x) xs

count_one : (b : Bool) → ◌≡◌ {A = ℕ} (if b then 1 else 0) (cond b 1 0)
count_one true = refl
count_one false = refl

pub times_occurs : (x : ℕ) (xs : List ℕ) → times x xs ≡ occurs x xs
times_occurs x [] = refl
times_occurs x (y ∷ ys) = λ i. count_one (y == x) i + times_occurs x ys i

-- predecessors are lower, and each stands once
abbrev pub IsInOrder : List Job → Type 0
IsInOrder jobs = (j : ℕ) → j < length jobs → ((i : ℕ) → Contains (predecessors jobs j) i → i < j) × ((i : ℕ) → occurs i (predecessors jobs j) ≤ 1)

pub in_order : (jobs : List Job) → AreJobs jobs → IsInOrder jobs
in_order jobs are j l = ((λ i c. are.lower i j l c), λ i. subst (λ n. n ≤ 1) (times_occurs i (predecessors jobs j)) (are.once i j l))

-- of two jobs that clash, the lower is ordered before the higher
abbrev pub Sound : List Job → Type 0
Sound jobs = (i j : ℕ) → i < j → j < length jobs → Clash (foot_at jobs i) (foot_at jobs j) → Ordered jobs i j

pub sound : (jobs : List Job) → AreJobs jobs → IsRaceFree jobs → Sound jobs
sound jobs are free i j l m clash = lower_first jobs i j are free l m clash
