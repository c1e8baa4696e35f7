-- The greatest of some levels, and the least levels of a plan.
use Rattle.std.proofs.Common.{◌≡◌, ℕ, zero, suc, ◌+◌, ◌-◌, ◌<◌, ◌≤◌, ℤ, List, [], ◌∷◌, ◌++◌, length, Option, Some, None, sym, refl, ap, ◌∙◌, subst, ⊎_elim, add-one, arith, length-append}
use Rattle.std.specs.Prelude.{Contains, max, nat_lt}
use Rattle.std.proofs.lemmas.Bool.{cases_lt, cond_both, ltb-true, ltb-false}
use Rattle.std.proofs.lemmas.List.{get_or_append_left, get_or_past, get_or_push}
use Rattle.sn_round.specs.declared.jobs.Job.{Job}
use Rattle.sn_round.specs.Jobs.{AreJobs, predecessors}
use Rattle.sn_round.proofs.Orders.{lower, nothing_in, past_end}
use Rattle.sn_report.specs.Costs.{cost_of}
use Rattle.sn_report.specs.Certificates.{below, cost_after, greatest_of, job_cost, level_at}
use Rattle.sn_report.specs.Tracing.{AreLeast, better, ceiling, first_greatest}

abbrev pub level_of : List ℕ → Option ℕ → ℕ
level_of levels None = 0
level_of levels (Some j) = level_at levels j

pub in_rest : (x : ℕ) (xs : List ℕ) (y : ℕ) → Contains xs y → Contains (x ∷ xs) y
in_rest x xs y (k, l, e) = (suc k, omega arith, e)

better_level : (levels : List ℕ) (i : ℕ) (o : Option ℕ) → level_at levels (better levels i o) ≡ max (level_at levels i) (level_of levels o)
better_level levels i None = omega arith
better_level levels i (Some j) =
    cond_both (nat_lt (level_at levels i) (level_at levels j)) j i (λ k. level_at levels k ≡ max (level_at levels i) (level_at levels j))
    (λ e. let l : level_at levels i < level_at levels j = ltb-true (level_at levels i) (level_at levels j) e in omega arith)
    (λ e. let l : level_at levels j ≤ level_at levels i = ltb-false (level_at levels i) (level_at levels j) e in omega arith)

-- the first of the greatest has the greatest level
pub found_level : (levels js : List ℕ) → level_of levels (first_greatest levels js) ≡ greatest_of levels js
found_level levels [] = refl
found_level levels (j ∷ js) = better_level levels j (first_greatest levels js) ∙ ap (λ n. max (level_at levels j) n) (found_level levels js)

-- and is one of them
found_more : (levels : List ℕ) (i : ℕ) (js : List ℕ) (o : Option ℕ) → ((j : ℕ) → o ≡ Some j → Contains js j) → Contains (i ∷ js) (better levels i o)
found_more levels i js None h = (0, omega arith, refl)
found_more levels i js (Some j) h =
    cond_both (nat_lt (level_at levels i) (level_at levels j)) j i (Contains (i ∷ js))
    (λ e. in_rest i js j (h j refl))
    (λ e. (0, omega arith, refl))

pub some_is : (i j : ℕ) → Some i ≡ Some j → i ≡ j
some_is i j e = cc

pub found_in : (levels js : List ℕ) (j : ℕ) → first_greatest levels js ≡ Some j → Contains js j
found_in levels [] j e = absurd (cc)
found_in levels (i ∷ js) j e = subst (Contains (i ∷ js)) (some_is (better levels i (first_greatest levels js)) j e) (found_more levels i js (first_greatest levels js) (λ k f. found_in levels js k f))

pub greatest_most : (levels js : List ℕ) (j : ℕ) → Contains js j → level_at levels j ≤ greatest_of levels js
greatest_most levels [] j c = absurd (nothing_in j c)
greatest_most levels (i ∷ js) j (zero, l, e) = let same : level_at levels i ≡ level_at levels j = ap (level_at levels) e in omega arith
greatest_most levels (i ∷ js) j (suc k, l, e) = let rest : level_at levels j ≤ greatest_of levels js = greatest_most levels js j (k, omega arith, e) in omega arith

pub same_greatest : (levels more js : List ℕ) → ((j : ℕ) → Contains js j → level_at levels j ≡ level_at more j) → greatest_of levels js ≡ greatest_of more js
same_greatest levels more [] h = refl
same_greatest levels more (i ∷ js) h =
    let here : level_at levels i ≡ level_at more i = h i (0, omega arith, refl) in
    let rest : greatest_of levels js ≡ greatest_of more js = same_greatest levels more js (λ j c. h j (in_rest i js j c)) in
    omega arith

-- ---- ceilings

pub below_ceiling : (js : List ℕ) (j : ℕ) → Contains js j → j < ceiling js
below_ceiling [] j c = absurd (nothing_in j c)
below_ceiling (i ∷ js) j (zero, l, e) = let same : i ≡ j = e in omega arith
below_ceiling (i ∷ js) j (suc k, l, e) = let rest : j < ceiling js = below_ceiling js j (k, omega arith, e) in omega arith

pub least_ceiling : (js : List ℕ) (n : ℕ) → ((j : ℕ) → Contains js j → j < n) → ceiling js ≤ n
least_ceiling [] n h = omega arith
least_ceiling (i ∷ js) n h =
    let here : i < n = h i (0, omega arith, refl) in
    let rest : ceiling js ≤ n = least_ceiling js n (λ j c. h j (in_rest i js j c)) in
    omega arith

pub ceiling_below : (n : ℕ) → ceiling (below n) ≤ n
ceiling_below zero = omega arith
ceiling_below (suc n) = let rest : ceiling (below n) ≤ n = ceiling_below n in omega arith

-- ---- all jobs

pub below_next : (n : ℕ) → 0 < n → below n ≡ (n - 1) ∷ below (n - 1)
below_next zero l = absurd (omega arith)
below_next (suc n) l = let e : n ≡ suc n - 1 = omega arith in ap (λ m. m ∷ below m) e

pub all_most : (levels : List ℕ) (n j : ℕ) → j < n → level_at levels j ≤ greatest_of levels (below n)
all_most levels zero j l = absurd (omega arith)
all_most levels (suc n) j l =
    ⊎_elim
    (λ (h : j < n). let rest : level_at levels j ≤ greatest_of levels (below n) = all_most levels n j h in omega arith)
    (λ (h : n ≤ j). let e : n ≡ j = omega arith in let same : level_at levels n ≡ level_at levels j = ap (level_at levels) e in omega arith)
    (cases_lt j n)

-- ---- the least levels

-- if there is no job, the level is 0, as the cost is
pub level_is : (units : ℤ → ℕ) (jobs : List Job) (levels : List ℕ) → AreLeast units jobs (length jobs) levels → (j : ℕ) → level_at levels j ≡ cost_after units jobs levels j
level_is units jobs levels least j =
    ⊎_elim
    (λ (l : j < length jobs). least.each j l)
    (λ (l : length jobs ≤ j). get_or_past levels j 0 (omega (arith, least.long)) ∙ sym (none_after l))
    (cases_lt j (length jobs))
  where
    none_after : length jobs ≤ j → cost_after units jobs levels j ≡ 0
    none_after l = ap (λ (x : Job). cost_of units x.synths + greatest_of levels x.before) (past_end jobs j l)

pub least_none : (units : ℤ → ℕ) (jobs : List Job) → AreLeast units jobs 0 []
least_none units jobs = record { long = refl; each = λ j l. absurd (omega arith) }

-- one more level
pub least_more : (units : ℤ → ℕ) (jobs : List Job) (n : ℕ) (levels : List ℕ) (level : ℕ) → AreJobs jobs → AreLeast units jobs n levels → level ≡ cost_after units jobs levels n → AreLeast units jobs (n + 1) (levels ++ level ∷ [])
least_more units jobs n levels level are least is =
    let more : List ℕ = levels ++ level ∷ [] in
    let kept : (j : ℕ) → j < n → level_at levels j ≡ level_at more j = λ j l. sym (get_or_append_left levels (level ∷ []) 0 j (omega (arith, least.long))) in
    let same : (j : ℕ) → j ≤ n → cost_after units jobs levels j ≡ cost_after units jobs more j = λ j l. ap (λ g. job_cost units jobs j + g) (same_greatest levels more (predecessors jobs j) (λ i c. kept i (let b : i < j = lower jobs are i j c in omega arith))) in
    record {
      long = omega (arith, length-append levels (level ∷ []), least.long);
      each = λ j l. ⊎_elim
          (λ (h : j < n). sym (kept j h) ∙ (least.each j h ∙ same j (omega arith)))
          (λ (h : n ≤ j). let e : n ≡ j = omega arith in subst (λ k. level_at more k ≡ cost_after units jobs more k) e (get_or_push levels level 0 n least.long ∙ (is ∙ same n (omega arith))))
          (cases_lt j n);
    }

pub below_more : (n : ℕ) → below (n + 1) ≡ n ∷ below n
below_more n = ap below (add-one n)
