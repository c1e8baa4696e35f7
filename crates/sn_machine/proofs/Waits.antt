-- Counts of what has not ended.
use Rattle.std.proofs.Common.{◌≡◌, ℕ, zero, suc, ◌+◌, ◌<◌, Bool, true, false, not, cond, List, [], ◌∷◌, length, get_or, Option, Some, None, sym, ap, ◌∙◌, ⊎_elim, arith}
use Rattle.std.specs.Prelude.{Contains}
use Rattle.std.proofs.lemmas.Bool.{cases_Bool}
use Rattle.sn_machine.specs.declared.views.View.{View}
use Rattle.sn_machine.specs.declared.views.RunningJob.{RunningJob}
use Rattle.sn_machine.specs.States.{RunsJob}
use Rattle.sn_machine.specs.Rule.{waiting}

waiting_at : (ended : ℕ → Bool) (ps : List ℕ) (k p : ℕ) → k < length ps → get_or ps k p ≡ p → waiting ended ps ≡ 0 → ended p ≡ true
waiting_at ended [] k p l e w = absurd (omega arith)
waiting_at ended (x ∷ xs) zero p l e w =
    ⊎_elim
    (λ (yes : ended x ≡ true). ap ended (sym e) ∙ yes)
    (λ (no : ended x ≡ false). let one : ◌≡◌ {A = ℕ} (cond (not (ended x)) 1 0) 1 = ap (λ (b : Bool). cond (not b) 1 0) no in let w' : cond (not (ended x)) 1 0 + waiting ended xs ≡ 0 = w in absurd (omega arith))
    (cases_Bool (ended x))
waiting_at ended (x ∷ xs) (suc k) p l e w = let w' : cond (not (ended x)) 1 0 + waiting ended xs ≡ 0 = w in waiting_at ended xs k p (omega arith) e (omega arith)

-- if none waits, each has ended
pub waiting_none : (ended : ℕ → Bool) (ps : List ℕ) (p : ℕ) → waiting ended ps ≡ 0 → Contains ps p → ended p ≡ true
waiting_none ended ps p w c = waiting_at ended ps c.0 p c.1 c.2 w

abbrev job_or : Option RunningJob → ℕ
job_or None = 0
job_or (Some r) = r.job

abbrev picture_or : Option RunningJob → List ℕ
picture_or None = []
picture_or (Some r) = r.picture

pub same_job : (o : Option RunningJob) (j k : ℕ) (p q : List ℕ) → o ≡ Some (record { job = j; picture = p }) → o ≡ Some (record { job = k; picture = q }) → j ≡ k
same_job o j k p q e f = ap job_or (sym e ∙ f)

pub same_picture : (o : Option RunningJob) (j k : ℕ) (p q : List ℕ) → o ≡ Some (record { job = j; picture = p }) → o ≡ Some (record { job = k; picture = q }) → p ≡ q
same_picture o j k p q e f = ap picture_or (sym e ∙ f)

pub no_run : (v : View) (j : ℕ) (p : List ℕ) → v.worker.runs ≡ None → RunsJob v j p → ⊥
no_run v j p none runs = let e : ◌≡◌ {A = Option RunningJob} None (Some (record { job = j; picture = p })) = sym none ∙ runs in cc
