-- A traced chain is certified, and no chain costs more than a certified one.
use Rattle.std.proofs.Common.{◌≡◌, ℕ, zero, suc, ◌+◌, ◌<◌, ◌≤◌, ℤ, Bool, true, false, ◌&&◌, List, [], ◌∷◌, ◌++◌, length, Option, Some, None, sym, refl, ap, ◌∙◌, subst, ⊎_elim, arith}
use Rattle.std.specs.Prelude.{Contains, nat_le, nat_lt, ◌==◌}
use Rattle.std.specs.List.{list_all, list_any}
use Rattle.std.proofs.lemmas.Bool.{and_from, and_parts, cases_lt, eqb-true, eq-eqb, false_from_ne_true, le-leb, leb-true, lt-ltb, ltb-true, or_cases, or_left, or_right, true≢false}
use Rattle.sn_round.specs.declared.jobs.Job.{Job}
use Rattle.sn_round.specs.Jobs.{AreJobs, predecessors}
use Rattle.sn_round.proofs.Orders.{lower, nothing_in}
use Rattle.sn_report.specs.Certificates.{are_levels, below, certifies, chain_cost, cost_after, follows, goes_on, greatest_of, is_chain, job_cost, level_at, may_follow}
use Rattle.sn_report.specs.Tracing.{AreLeast, Comes, none, after, IsTraced, ceiling, first_greatest}
use Rattle.sn_report.proofs.LevelLemmas.{all_most, below_ceiling, below_more, ceiling_below, found_in, found_level, greatest_most, in_rest, level_is, level_of}

-- ---- tests of all jobs

pub all_from : (test : ℕ → Bool) (n : ℕ) → ((j : ℕ) → j < n → test j ≡ true) → list_all test (below n) ≡ true
all_from test zero h = refl
all_from test (suc n) h = and_from (test n) (list_all test (below n)) (h n (omega arith)) (all_from test n (λ j l. h j (omega arith)))

pub all_at : (test : ℕ → Bool) (n j : ℕ) → list_all test (below n) ≡ true → j < n → test j ≡ true
all_at test zero j h l = absurd (omega arith)
all_at test (suc n) j h l =
    let parts = and_parts (test n) (list_all test (below n)) h in
    ⊎_elim
    (λ (g : j < n). all_at test n j parts.1 g)
    (λ (g : n ≤ j). let e : n ≡ j = omega arith in subst (λ k. test k ≡ true) e parts.0)
    (cases_lt j n)

pub all_fails : (test : ℕ → Bool) (n j : ℕ) → j < n → test j ≡ false → list_all test (below n) ≡ false
all_fails test n j l f = false_from_ne_true (list_all test (below n)) (λ h. true≢false (sym (all_at test n j h l) ∙ f))

pub all_more : (test : ℕ → Bool) (n : ℕ) → list_all test (below n) ≡ true → test n ≡ true → list_all test (below (n + 1)) ≡ true
all_more test n h t = ap (list_all test) (below_more n) ∙ and_from (test n) (list_all test (below n)) t h

any_from : (js : List ℕ) (i : ℕ) → Contains js i → list_any (λ x. x == i) js ≡ true
any_from [] i c = absurd (nothing_in i c)
any_from (j ∷ js) i (zero, l, e) = or_left (j == i) (list_any (λ x. x == i) js) (eq-eqb j i e)
any_from (j ∷ js) i (suc k, l, e) = or_right (j == i) (list_any (λ x. x == i) js) (any_from js i (k, omega arith, e))

pub from_any : (js : List ℕ) (i : ℕ) → list_any (λ x. x == i) js ≡ true → Contains js i
from_any [] i h = absurd (true≢false (sym h))
from_any (j ∷ js) i h =
    ⊎_elim
    (λ (e : (j == i) ≡ true). (0, omega arith, eqb-true j i e))
    (λ (e : list_any (λ x. x == i) js ≡ true). in_rest j js i (from_any js i e))
    (or_cases (j == i) (list_any (λ x. x == i) js) h)

-- ---- a traced chain

module _ (units : ℤ → ℕ) (jobs : List Job) (levels : List ℕ) (are : AreJobs jobs) where
  cost-more : (chain : List ℕ) (j : ℕ) → chain_cost units jobs (chain ++ j ∷ []) ≡ chain_cost units jobs chain + job_cost units jobs j
  cost-more [] j = omega arith
  cost-more (i ∷ chain) j = omega (arith, cost-more chain j)

  -- it costs as much as the level of its end
  pub traced_cost : AreLeast units jobs (length jobs) levels → (js chain : List ℕ) → Comes jobs levels js chain → chain_cost units jobs chain ≡ greatest_of levels js
  traced_cost least js chain none = refl
  traced_cost least js _ (after {chain = chain} {j = j} e c) =
      let before : chain_cost units jobs chain ≡ greatest_of levels (predecessors jobs j) = traced_cost least (predecessors jobs j) chain c in
      let level : level_at levels j ≡ job_cost units jobs j + greatest_of levels (predecessors jobs j) = level_is units jobs levels least j in
      let end : level_at levels j ≡ greatest_of levels js = sym (ap (level_of levels) e) ∙ found_level levels js in
      let all : chain_cost units jobs (chain ++ j ∷ []) ≡ chain_cost units jobs chain + job_cost units jobs j = cost-more chain j in
      omega arith

  abbrev end_of : Option ℕ → List ℕ → Option ℕ
  end_of before [] = before
  end_of before (j ∷ js) = end_of (Some j) js

  end-more : (before : Option ℕ) (chain : List ℕ) (j : ℕ) → end_of before (chain ++ j ∷ []) ≡ Some j
  end-more before [] j = refl
  end-more before (i ∷ chain) j = end-more (Some i) chain j

  goes-more : (before : Option ℕ) (chain : List ℕ) (j : ℕ) → goes_on jobs before chain ≡ true → may_follow jobs (end_of before chain) j ≡ true → goes_on jobs before (chain ++ j ∷ []) ≡ true
  goes-more before [] j g f = and_from (may_follow jobs before j) true f refl
  goes-more before (i ∷ chain) j g f =
      let parts = and_parts (may_follow jobs before i) (goes_on jobs (Some i) chain) g in
      and_from (may_follow jobs before i) (goes_on jobs (Some i) (chain ++ j ∷ [])) parts.0 (goes-more (Some i) chain j parts.1 f)

  follows_found : (j : ℕ) (o : Option ℕ) → first_greatest levels (predecessors jobs j) ≡ o → follows jobs o j ≡ true
  follows_found j None e = refl
  follows_found j (Some i) e = any_from (predecessors jobs j) i (found_in levels (predecessors jobs j) i e)

  traced_goes : (js chain : List ℕ) → ((j : ℕ) → Contains js j → j < length jobs) → Comes jobs levels js chain → (goes_on jobs None chain ≡ true) × (end_of None chain ≡ first_greatest levels js)
  traced_goes js chain h none = (refl, refl)
  traced_goes js _ h (after {chain = chain} {j = j} e c) =
      let within : j < length jobs = h j (found_in levels js j e) in
      let before = traced_goes (predecessors jobs j) chain (λ i d. let l : i < j = lower jobs are i j d in omega arith) c in (
        goes-more None chain j before.0 (and_from (nat_lt j (length jobs)) (follows jobs (end_of None chain) j) (lt-ltb j (length jobs) within) (follows_found j (end_of None chain) (sym before.1))),
        end-more None chain j ∙ sym e,
      )

  pub traced_certified : (chain : List ℕ) → IsTraced units jobs chain levels → certifies units jobs chain levels ≡ true
  traced_certified chain t =
      let n : ℕ = length jobs in
      let goes = (traced_goes (below n) chain (λ j c. let l : j < ceiling (below n) = below_ceiling (below n) j c in omega (arith, ceiling_below n)) t.chain_is).0 in
      let test : ℕ → Bool = λ j. nat_le (cost_after units jobs levels j) (level_at levels j) in
      let each : list_all test (below n) ≡ true = all_from test n (λ j l. le-leb (cost_after units jobs levels j) (level_at levels j) (omega (arith, t.least.each j l))) in
      and_from (is_chain jobs chain) (are_levels units jobs levels && (chain_cost units jobs chain == greatest_of levels (below n))) goes
      (and_from (are_levels units jobs levels) (chain_cost units jobs chain == greatest_of levels (below n))
      (and_from (length levels == n) (list_all test (below n)) (eq-eqb (length levels) n t.least.long) each)
      (eq-eqb (chain_cost units jobs chain) (greatest_of levels (below n)) (traced_cost t.least (below n) chain t.chain_is)))

-- ---- no chain costs more

module _ (units : ℤ → ℕ) (jobs : List Job) (levels : List ℕ) (all : list_all (λ j. nat_le (cost_after units jobs levels j) (level_at levels j)) (below (length jobs)) ≡ true) where
  reached : (before : Option ℕ) (j : ℕ) → may_follow jobs before j ≡ true → (j < length jobs) × (level_of levels before + job_cost units jobs j ≤ level_at levels j)
  reached before j f =
      let parts = and_parts (nat_lt j (length jobs)) (follows jobs before j) f in
      let within : j < length jobs = ltb-true j (length jobs) parts.0 in
      let level : cost_after units jobs levels j ≤ level_at levels j = leb-true (cost_after units jobs levels j) (level_at levels j) (all_at (λ i. nat_le (cost_after units jobs levels i) (level_at levels i)) (length jobs) j all within) in
      let last : level_of levels before ≤ greatest_of levels (predecessors jobs j) = from_last before j parts.1 in
      (within, omega arith)
    where
      from_last : (o : Option ℕ) (k : ℕ) → follows jobs o k ≡ true → level_of levels o ≤ greatest_of levels (predecessors jobs k)
      from_last None k g = omega arith
      from_last (Some i) k g = greatest_most levels (predecessors jobs k) i (from_any (predecessors jobs k) i g)

  chain_below : (before : Option ℕ) (chain : List ℕ) → goes_on jobs before chain ≡ true → level_of levels before ≤ greatest_of levels (below (length jobs)) → level_of levels before + chain_cost units jobs chain ≤ greatest_of levels (below (length jobs))
  chain_below before [] g h = omega arith
  chain_below before (j ∷ js) g h =
      let parts = and_parts (may_follow jobs before j) (goes_on jobs (Some j) js) g in
      let here = reached before j parts.0 in
      let rest : level_at levels j + chain_cost units jobs js ≤ greatest_of levels (below (length jobs)) = chain_below (Some j) js parts.1 (all_most levels (length jobs) j here.0) in
      let step : level_of levels before + job_cost units jobs j ≤ level_at levels j = here.1 in
      omega arith

pub no_longer : (units : ℤ → ℕ) (jobs : List Job) (chain levels other : List ℕ) → certifies units jobs chain levels ≡ true → is_chain jobs other ≡ true → chain_cost units jobs other ≤ chain_cost units jobs chain
no_longer units jobs chain levels other c g =
    let greatest : ℕ = greatest_of levels (below (length jobs)) in
    let first = and_parts (is_chain jobs chain) (are_levels units jobs levels && (chain_cost units jobs chain == greatest)) c in
    let second = and_parts (are_levels units jobs levels) (chain_cost units jobs chain == greatest) first.1 in
    let levelled = and_parts (length levels == length jobs) (list_all (λ j. nat_le (cost_after units jobs levels j) (level_at levels j)) (below (length jobs))) second.0 in
    let top : chain_cost units jobs chain ≡ greatest = eqb-true (chain_cost units jobs chain) greatest second.1 in
    let most : 0 + chain_cost units jobs other ≤ greatest = chain_below units jobs levels levelled.1 None other g (omega arith) in
    omega arith
