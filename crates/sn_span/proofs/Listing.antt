-- An unrolled plan is a list of jobs.
use Rattle.std.proofs.Common.{◌≡◌, ◌≢◌, ⊎_elim, ℕ, zero, suc, ◌+◌, ◌-◌, ◌<◌, ◌≤◌, ◌==◌, Bool, if◌then◌else◌, List, [], ◌∷◌, length, sym, ap, subst, arith, eq-eqb}
use Rattle.std.specs.Prelude.{◌^◌, Contains, map}
use Rattle.std.proofs.lemmas.Bool.{cases_eq, cases_lt, ne_eqb}
use Rattle.sn_mem.specs.declared.extents.Extent.{Extent}
use Rattle.sn_round.specs.declared.jobs.Job.{Job}
use Rattle.sn_round.specs.Jobs.{AreJobs, predecessors, times}
use Rattle.sn_round.proofs.Orders.{nothing_in}
use Rattle.sn_span.specs.Unrolling.{start, entry, predecessors_in, last_jobs, unrolled}
use Rattle.sn_span.proofs.Places.{start_next, length-unrolled, at_job, at_capture, place_of}
use Rattle.sn_span.proofs.Lasts.{counted, of_last, last_once}
use Rattle.sn_span.proofs.Orders.{of_predecessors}

times_moved : (s x : ℕ) (ps : List ℕ) → times x (map (λ q. s + q) ps) ≤ times (x - s) ps
times_moved s x [] = omega arith
times_moved s x (p ∷ ps) = ⊎_elim
    (λ (e : s + p ≡ x).
    let f : p ≡ x - s = omega (arith, e) in
    let there : ◌≡◌ {A = ℕ} (if p == x - s then 1 else 0) 1 = ap {B = ℕ} (λ (b : Bool). if b then 1 else 0) (eq-eqb p (x - s) f) in
    omega (arith, there, counted (s + p == x), times_moved s x ps))
    (λ (d : s + p ≢ x).
    let here : ◌≡◌ {A = ℕ} (if s + p == x then 1 else 0) 0 = ap {B = ℕ} (λ (b : Bool). if b then 1 else 0) (ne_eqb (s + p) x d) in
    omega (arith, here, times_moved s x ps))
    (cases_eq (s + p) x)

times_entry : (n k x : ℕ) → times x (entry n k) ≤ 1
unfolding entry
times_entry n zero x = omega arith
times_entry n (suc k) x = omega (arith, counted (start n k + n == x))

times_predecessors : (n k x : ℕ) (before : List ℕ) → times (x - start n k) before ≤ 1 → times x (predecessors_in n k before) ≤ 1
unfolding predecessors_in
times_predecessors n k x [] h = times_entry n k x
times_predecessors n k x (p ∷ ps) h = omega (arith, times_moved (start n k) x (p ∷ ps), h)

pub entry_below : (n k x : ℕ) → Contains (entry n k) x → x < start n k
unfolding entry
entry_below n zero x c = absurd (nothing_in x c)
entry_below n (suc k) x (zero, l, e) = omega (arith, e, start_next n k)
entry_below n (suc k) x (suc i, l, e) = absurd (omega arith)

-- if those in the plan stand below a number, those in a block stand below that of the block
below : (n k i x : ℕ) (before : List ℕ) → ((p : ℕ) → Contains before p → p < i) → Contains (predecessors_in n k before) x → x < start n k + i
below n k i x before lower c = ⊎_elim
    (λ (d : Contains (entry n k) x). omega (arith, entry_below n k x d))
    (λ (d : (p : ℕ) × Contains before p × (x ≡ start n k + p)). let (p, h, e) = d in let down : p < i = lower p h in omega (arith, down, e))
    (of_predecessors n k before x c)

module _ (jobs : List Job) (outputs : List Extent) (at blocks : ℕ) (are : AreJobs jobs) where
  abbrev n : ℕ
  n = length jobs

  abbrev all : List Job
  all = unrolled jobs outputs at blocks

  lower_job : (k i x : ℕ) → k < blocks → i < n → Contains (predecessors all (start n k + i)) x → x < start n k + i
  lower_job k i x l m c = below n k i x (predecessors jobs i) (λ p h. are.lower p i m h) (subst (λ (y : Job). Contains y.before x) (at_job jobs outputs at blocks k i l m) c)

  lower_capture : (k x : ℕ) → k < blocks → Contains (predecessors all (start n k + n)) x → x < start n k + n
  lower_capture k x l c = below n k n x (last_jobs jobs) (of_last jobs) (subst (λ (y : Job). Contains y.before x) (at_capture jobs outputs at blocks k l) c)

  once_job : (k i x : ℕ) → k < blocks → i < n → times x (predecessors all (start n k + i)) ≤ 1
  once_job k i x l m = subst (λ (y : Job). times x y.before ≤ 1) (sym (at_job jobs outputs at blocks k i l m)) (times_predecessors n k x (predecessors jobs i) (are.once (x - start n k) i m))

  once_capture : (k x : ℕ) → k < blocks → times x (predecessors all (start n k + n)) ≤ 1
  once_capture k x l = subst (λ (y : Job). times x y.before ≤ 1) (sym (at_capture jobs outputs at blocks k l)) (times_predecessors n k x (last_jobs jobs) (last_once jobs (x - start n k)))

  -- what holds of the jobs of each block and of its capture holds of all
  of_each : (P : ℕ → Type 0) → ((k i : ℕ) → k < blocks → i < n → P (start n k + i)) → ((k : ℕ) → k < blocks → P (start n k + n)) → (j : ℕ) → j < length all → P j
  of_each P job capture j l =
      let (k, i, p, q, e) = place_of n blocks j (omega (arith, l, length-unrolled jobs outputs at blocks)) in
      subst P (sym e) (⊎_elim
      (λ (m : i < n). job k i p m)
      (λ (g : n ≤ i). let same : n ≡ i = omega (arith, g, q) in subst (λ m. P (start n k + m)) same (capture k p))
      (cases_lt i n))

  pub are_jobs : start n blocks < 2 ^ 32 → AreJobs all
  are_jobs few = record {
    few = subst (λ m. m < 2 ^ 32) (sym (length-unrolled jobs outputs at blocks)) few;
    lower = λ x j l. of_each (λ j. Contains (predecessors all j) x → x < j) (λ k i p m. lower_job k i x p m) (λ k p. lower_capture k x p) j l;
    once = λ x j l. of_each (λ j. times x (predecessors all j) ≤ 1) (λ k i p m. once_job k i x p m) (λ k p. once_capture k x p) j l;
  }
