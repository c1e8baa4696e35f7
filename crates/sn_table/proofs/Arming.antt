-- Job words that are armed one after the other.
use Rattle.std.proofs.Common.{◌≡◌, ℕ, zero, suc, ◌+◌, ◌<◌, ◌≤◌, List, [], ◌∷◌, length, get_or, set, take, refl, sym, ap, ◌∙◌, subst, arith}
use Rattle.std.proofs.lemmas.List.{take_all}
use Rattle.sn_round.specs.declared.jobs.Job.{Job}
use Rattle.sn_round.specs.Jobs.{predecessors}
use Rattle.sn_machine.specs.declared.views.View.{View}
use Rattle.sn_machine.specs.declared.views.Phase.{Phase}
use Rattle.sn_machine.specs.declared.views.Phase.TheVariants.{Idle}
use Rattle.sn_machine.specs.States.{IsIdle, memory_in, counts_in}
use Rattle.sn_machine.specs.Steps.{set_count}
use Rattle.sn_table.specs.Arming.{armed, armed_view}

more : (k : ℕ) (jobs : List Job) (counts : List ℕ) → k < length jobs → set (armed (take k jobs) counts) k (length (predecessors jobs k)) ≡ armed (take (suc k) jobs) counts
more k [] counts l = absurd (omega arith)
more zero (job ∷ jobs) [] l = refl
more zero (job ∷ jobs) (c ∷ counts) l = refl
more (suc k) (job ∷ jobs) [] l = refl
more (suc k) (job ∷ jobs) (c ∷ counts) l = ap (λ (cs : List ℕ). length job.before ∷ cs) (more k jobs counts (omega (arith, l)))

armed_more : (k : ℕ) (jobs : List Job) (counts : List ℕ) → k < length jobs → set (armed (take k jobs) counts) k (length (predecessors jobs k)) ≡ armed (take (k + 1) jobs) counts
armed_more k jobs counts l = let next : suc k ≡ k + 1 = omega arith in more k jobs counts l ∙ ap (λ n. armed (take n jobs) counts) next

-- one more word is armed
pub arm_more : (v w : View) (k : ℕ) (jobs : List Job) → k < length jobs → w ≡ armed_view v (take k jobs) → set_count w k (length (predecessors jobs k)) ≡ armed_view v (take (k + 1) jobs)
arm_more v w k jobs l e =
    ap (λ (x : View). set_count x k (length (predecessors jobs k))) e
    ∙ ap (λ (cs : List ℕ). record v { main = record v.main { phase = Idle (memory_in v.main.phase) cs } }) (armed_more k jobs (counts_in v.main.phase) l)

pub arm_none : (v : View) → IsIdle v → v ≡ armed_view v []
arm_none v idle = ap (λ (p : Phase). record v { main = record v.main { phase = p } }) idle

pub armed_is : (jobs : List Job) (counts : List ℕ) → length jobs ≤ length counts → (j : ℕ) → j < length jobs → get_or (armed jobs counts) j 0 ≡ length (predecessors jobs j)
armed_is [] counts l j m = absurd (omega arith)
armed_is (job ∷ jobs) [] l j m = absurd (omega arith)
armed_is (job ∷ jobs) (c ∷ counts) l zero m = refl
armed_is (job ∷ jobs) (c ∷ counts) l (suc j) m = armed_is jobs counts (omega (arith, l)) j (omega (arith, m))

pub armed_idle : (v w : View) (jobs : List Job) → w ≡ armed_view v jobs → IsIdle w
armed_idle v w jobs e = subst IsIdle (sym e) refl

pub armed_all : (v w : View) (k : ℕ) (jobs : List Job) → length jobs ≤ k → w ≡ armed_view v (take k jobs) → w ≡ armed_view v jobs
armed_all v w k jobs l e = e ∙ ap (armed_view v) (take_all k jobs l)

-- a view that is armed with all jobs has their numbers of predecessors
pub armed_counts : (v w : View) (jobs : List Job) → w ≡ armed_view v jobs → length jobs ≤ length (counts_in v.main.phase) → (j : ℕ) → j < length jobs → get_or (counts_in w.main.phase) j 0 ≡ length (predecessors jobs j)
armed_counts v w jobs e l j m = ap (λ (x : View). get_or (counts_in x.main.phase) j 0) e ∙ armed_is jobs (counts_in v.main.phase) l j m
