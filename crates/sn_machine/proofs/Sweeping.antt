-- What the sweep's seat finds at a job's word.
use Rattle.std.proofs.Common.{◌≡◌, ℕ, ◌<◌, true, false, not, eqb, List, [], length, get_or, sym, ap, subst, ⊎_elim, inr, arith}
use Rattle.std.specs.Prelude.{◌↔◌, Contains}
use Rattle.std.proofs.lemmas.Bool.{cases_Bool, false_from_ne_true, or_parts, or_cases}
use Rattle.sn_round.specs.declared.jobs.Job.{Job}
use Rattle.sn_machine.specs.declared.views.View.{View}
use Rattle.sn_round.specs.Jobs.{predecessors}
use Rattle.sn_machine.specs.States.{State, is_claimed, is_ended, has_begun, At, RunsJob}
use Rattle.sn_machine.specs.Steps.{CanClaim}
use Rattle.sn_machine.specs.Rule.{tally, total, owing, waiting, InRound, RoundHolds}
use Rattle.sn_machine.proofs.Forms.{in_order}
use Rattle.sn_machine.specs.Fits.{IsFree}
use Rattle.sn_machine.proofs.Claims.{idle_dead}
use Rattle.sn_machine.proofs.Replaced.{same_at}
use Rattle.sn_machine.proofs.Orders.{both_ways}
use Rattle.sn_machine.proofs.Counts.{unbegun}
use Rattle.sn_machine.proofs.Waits.{waiting_none, no_run}
use Rattle.sn_machine.proofs.Owing.{tally_zero, total_zero}

module _ (s : State) (r : InRound s) (id : ℕ) (v : View) (j : ℕ) (at : At s.views id v) (can : CanClaim v j) (sweeps : v.worker.sweeps ≡ true) where
  same_jobs : v.worker.jobs ≡ r.jobs
  same_jobs = (r.seats.live id v at can.live).0

  inside : j < length r.jobs
  inside = subst (λ (js : List Job). j < length js) same_jobs can.job

  knows : (k : ℕ) → k < length r.jobs → is_ended s.counts k ≡ true → Contains v.worker.ended k
  knows k l e = r.sweep.knows id v k at can.live sweeps l e

  ended : (k : ℕ) → Contains v.worker.ended k → is_ended s.counts k ≡ true
  ended k c = (r.seats.only id v k at (inr c)).1

  no_debts : (i : ℕ) (u : View) → At s.views i u → u.worker.debts ≡ []
  no_debts i u a = ⊎_elim
      (λ (h : u.worker.live ≡ true). subst (λ (y : View). y.worker.debts ≡ []) (same_at s.views id v u at (subst (λ k. At s.views k u) (r.sweep.alone id i v u at can.live sweeps a h) a)) can.debts)
      (λ (h : u.worker.live ≡ false). (r.seats.dead i u a h).debts)
      (cases_Bool u.worker.live)

  -- a job that has not ended and whose predecessors have is free
  pub is_free : (Contains v.worker.ended j → ⊥) → ((p : ℕ) → Contains (predecessors v.worker.jobs j) p → Contains v.worker.ended p) → get_or s.counts j 0 ≡ 0
  is_free new done =
      let unended : is_ended s.counts j ≡ false = false_from_ne_true (is_ended s.counts j) (λ e. new (knows j inside e)) in
      let unclaimed : is_claimed s.counts j ≡ false = false_from_ne_true (is_claimed s.counts j) (λ c.
      let h = r.claims.has_runner j inside c in
      let live = (r.claims.runner h.0 h.1 j h.2 h.3 h.4).0 in
      no_run v j h.2 can.runs (subst (λ (y : View). RunsJob y j h.2) (same_at s.views id h.1 v (subst (λ k. At s.views k h.1) (r.sweep.alone id h.0 v h.1 at can.live sweeps h.3 live) h.3) at) h.4)) in
      let fresh : has_begun s.counts j ≡ false = false_from_ne_true (has_begun s.counts j) (λ b. ⊎_elim (λ c. both_ways (is_claimed s.counts j) c unclaimed) (λ e. both_ways (is_ended s.counts j) e unended) (or_cases (is_claimed s.counts j) (is_ended s.counts j) b)) in
      let wait : waiting (is_ended s.counts) (predecessors r.jobs j) ≡ 0 = tally_zero (λ p. not (is_ended s.counts p)) (predecessors r.jobs j) (λ p c. ap not (ended p (done p (subst (λ (js : List Job). Contains (predecessors js j) p) (sym same_jobs) c)))) in
      let owed : total (owing j) s.views ≡ 0 = total_zero (owing j) s.views (λ i u a. ap (λ (ds : List (ℕ × ℕ)). tally (λ (d : ℕ × ℕ). eqb d.1 j) ds) (no_debts i u a)) in
      omega (arith, r.debts.counted j inside fresh)

  -- and only such a job is
  pub was_free : get_or s.counts j 0 ≡ 0 → (Contains v.worker.ended j → ⊥) × ((p : ℕ) → Contains (predecessors v.worker.jobs j) p → Contains v.worker.ended p)
  was_free e =
      let fresh = unbegun s.counts j 0 e (omega arith) in
      let count = r.debts.counted j inside fresh in
      let none : waiting (is_ended s.counts) (predecessors r.jobs j) ≡ 0 = omega arith in (
        (λ c. both_ways (is_ended s.counts j) (ended j c) (or_parts (is_claimed s.counts j) (is_ended s.counts j) fresh).1),
        λ p c.
            let c' = subst (λ (js : List Job). Contains (predecessors js j) p) same_jobs c in
            let lower : p < j = ((in_order r.jobs r.plan.order) j inside).0 p c' in
            knows p (let i = inside in omega arith) (waiting_none (is_ended s.counts) (predecessors r.jobs j) p none c'),
      )

-- on the sweep's seat a claim finds 0 exactly if the job is free
pub sweep_finds : (s : State) (id : ℕ) (v : View) (j : ℕ) → RoundHolds s → At s.views id v → CanClaim v j → v.worker.sweeps ≡ true → (get_or s.counts j 0 ≡ 0) ↔ IsFree v j
sweep_finds s id v j h at can sweeps = ⊎_elim
    (λ b. absurd (idle_dead s id v b at can.live))
    (λ (r : InRound s). ((λ e. was_free s r id v j at can sweeps e), (λ (f : IsFree v j). is_free s r id v j at can sweeps f.0 f.1)))
    h
