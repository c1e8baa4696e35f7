-- Synths in line cost no more than the greatest level, and those of a chain are in line, each once.
use Rattle.std.proofs.Common.{◌≡◌, ◌⊎◌, ℕ, zero, suc, ◌+◌, ◌<◌, ◌≤◌, ℤ, Bool, true, false, not, if◌then◌else◌, List, [], ◌∷◌, ◌++◌, length, Option, Some, None, sym, refl, ap, ◌∙◌, subst, ⊎_elim, inl, inr, arith}
use Rattle.std.specs.Prelude.{Contains, ◌==◌, nat_lt}
use Rattle.std.specs.List.{filter}
use Rattle.std.specs.Ordering.{int_eq}
use Rattle.std.proofs.lemmas.Bool.{and_parts, cases_Bool, cases_order, cond-true, cond-false, eq-eqb, eqb-true, eqb-false, false_from_ne_true, ltb-true, or_cases, or_left, or_parts, or_right, not_from_false, not_from_true, true≢false}
use Rattle.std.proofs.lemmas.Bool.Decides.{Decides-int_eq}
use Rattle.sn_round.specs.declared.jobs.Job.{Job}
use Rattle.sn_round.specs.Jobs.{AreJobs, Ordered, direct, through, job_at, predecessors}
use Rattle.sn_round.proofs.Orders.{nothing_in, rises}
use Rattle.sn_graph.specs.Plans.{is_listed, joined_synths}
use Rattle.sn_report.specs.Costs.{cost_of}
use Rattle.sn_report.specs.Certificates.{below, follows, goes_on, greatest_of, job_cost, level_at, may_follow, played}
use Rattle.sn_report.specs.Tracing.{AreLeast}
use Rattle.sn_report.specs.Lines.{AreInLine, AreOnce, home}
use Rattle.sn_report.proofs.LevelLemmas.{all_most, greatest_most, in_rest, level_is}
use Rattle.sn_report.proofs.Certified.{from_any}

-- ---- ids in lists

same : (a b : ℤ) → int_eq a b ≡ true → a ≡ b
same a b h = (Decides-int_eq a b).0 h

pub listed_here : (a : ℤ) (ids : List ℤ) → is_listed (a ∷ ids) a ≡ true
listed_here a ids = or_left (int_eq a a) (is_listed ids a) ((Decides-int_eq a a).1 refl)

pub listed_later : (a b : ℤ) (ids : List ℤ) → is_listed ids b ≡ true → is_listed (a ∷ ids) b ≡ true
listed_later a b ids h = or_right (int_eq a b) (is_listed ids b) h

listed_cases : (xs ys : List ℤ) (a : ℤ) → is_listed (xs ++ ys) a ≡ true → (is_listed xs a ≡ true) ⊎ (is_listed ys a ≡ true)
listed_cases [] ys a h = inr h
listed_cases (x ∷ xs) ys a h =
    ⊎_elim
    (λ (e : int_eq x a ≡ true). inl (or_left (int_eq x a) (is_listed xs a) e))
    (λ (e : is_listed (xs ++ ys) a ≡ true). ⊎_elim (λ (f : is_listed xs a ≡ true). inl (or_right (int_eq x a) (is_listed xs a) f)) (λ (f : is_listed ys a ≡ true). inr f) (listed_cases xs ys a e))
    (or_cases (int_eq x a) (is_listed (xs ++ ys) a) h)

listed_left : (xs ys : List ℤ) (a : ℤ) → is_listed xs a ≡ true → is_listed (xs ++ ys) a ≡ true
listed_left [] ys a h = absurd (true≢false (sym h))
listed_left (x ∷ xs) ys a h =
    ⊎_elim
    (λ (e : int_eq x a ≡ true). or_left (int_eq x a) (is_listed (xs ++ ys) a) e)
    (λ (e : is_listed xs a ≡ true). or_right (int_eq x a) (is_listed (xs ++ ys) a) (listed_left xs ys a e))
    (or_cases (int_eq x a) (is_listed xs a) h)

listed_right : (xs ys : List ℤ) (a : ℤ) → is_listed ys a ≡ true → is_listed (xs ++ ys) a ≡ true
listed_right [] ys a h = h
listed_right (x ∷ xs) ys a h = or_right (int_eq x a) (is_listed (xs ++ ys) a) (listed_right xs ys a h)

-- those that pass a test
module _ (test : ℤ → Bool) where
  kept_step : (a : ℤ) (ids : List ℤ) (b : Bool) → test a ≡ b → filter test (a ∷ ids) ≡ (if b then a ∷ filter test ids else filter test ids)
  kept_step a ids b e = ap (λ (t : Bool). if t then a ∷ filter test ids else filter test ids) e

  kept_parts : (ids : List ℤ) (a : ℤ) → is_listed (filter test ids) a ≡ true → (is_listed ids a ≡ true) × (test a ≡ true)
  kept_parts [] a h = absurd (true≢false (sym h))
  kept_parts (x ∷ ids) a h =
      ⊎_elim
      (λ (t : test x ≡ true). ⊎_elim
      (λ (e : int_eq x a ≡ true). (or_left (int_eq x a) (is_listed ids a) e, subst (λ y. test y ≡ true) (same x a e) t))
      (λ (e : is_listed (filter test ids) a ≡ true). let rest = kept_parts ids a e in (listed_later x a ids rest.0, rest.1))
      (or_cases (int_eq x a) (is_listed (filter test ids) a) (sym (ap (λ l. is_listed l a) (kept_step x ids true t)) ∙ h)))
      (λ (t : test x ≡ false). let rest = kept_parts ids a (sym (ap (λ l. is_listed l a) (kept_step x ids false t)) ∙ h) in (listed_later x a ids rest.0, rest.1))
      (cases_Bool (test x))

  kept_once : (ids : List ℤ) → AreOnce ids → AreOnce (filter test ids)
  kept_once [] one = tt
  kept_once (x ∷ ids) one =
      ⊎_elim
      (λ (t : test x ≡ true). subst AreOnce (sym (kept_step x ids true t)) (false_from_ne_true (is_listed (filter test ids) x) (λ h. true≢false (sym (kept_parts ids x h).0 ∙ one.0)), kept_once ids one.1))
      (λ (t : test x ≡ false). subst AreOnce (sym (kept_step x ids false t)) (kept_once ids one.1))
      (cases_Bool (test x))

kept_cost : (units : ℤ → ℕ) (test : ℤ → Bool) (ids : List ℤ) → cost_of units ids ≡ cost_of units (filter test ids) + cost_of units (filter (λ a. not (test a)) ids)
kept_cost units test [] = omega arith
kept_cost units test (x ∷ ids) =
    let other : ℤ → Bool = λ a. not (test a) in
    let rest : cost_of units ids ≡ cost_of units (filter test ids) + cost_of units (filter other ids) = kept_cost units test ids in
    ⊎_elim
    (λ (t : test x ≡ true).
    let a : cost_of units (filter test (x ∷ ids)) ≡ units x + cost_of units (filter test ids) = ap (cost_of units) (kept_step test x ids true t) in
    let b : cost_of units (filter other (x ∷ ids)) ≡ cost_of units (filter other ids) = ap (cost_of units) (kept_step other x ids false (not_from_true (test x) t)) in
    omega arith)
    (λ (t : test x ≡ false).
    let a : cost_of units (filter test (x ∷ ids)) ≡ cost_of units (filter test ids) = ap (cost_of units) (kept_step test x ids false t) in
    let b : cost_of units (filter other (x ∷ ids)) ≡ units x + cost_of units (filter other ids) = ap (cost_of units) (kept_step other x ids true (not_from_false (test x) t)) in
    omega arith)
    (cases_Bool (test x))

-- an id that stands once costs as much as its units
one_cost : (units : ℤ → ℕ) (s : ℤ) (ids : List ℤ) → AreOnce ids → cost_of units (filter (λ a. int_eq s a) ids) ≤ units s
one_cost units s [] one = omega arith
one_cost units s (x ∷ ids) one =
    ⊎_elim
    (λ (t : int_eq s x ≡ true).
    let is : s ≡ x = same s x t in
    let here : units s ≡ units x = ap units is in
    let none_left : filter (λ a. int_eq s a) ids ≡ [] = none_kept ids (subst (λ y. is_listed ids y ≡ false) (sym is) one.0) in
    let cost : cost_of units (filter (λ a. int_eq s a) (x ∷ ids)) ≡ units x + 0 = ap (cost_of units) (kept_step (λ a. int_eq s a) x ids true t ∙ ap (λ l. x ∷ l) none_left) in
    omega arith)
    (λ (t : int_eq s x ≡ false).
    let cost : cost_of units (filter (λ a. int_eq s a) (x ∷ ids)) ≡ cost_of units (filter (λ a. int_eq s a) ids) = ap (cost_of units) (kept_step (λ a. int_eq s a) x ids false t) in
    let rest : cost_of units (filter (λ a. int_eq s a) ids) ≤ units s = one_cost units s ids one.1 in
    omega arith)
    (cases_Bool (int_eq s x))
  where
    none_kept : (js : List ℤ) → is_listed js s ≡ false → filter (λ a. int_eq s a) js ≡ []
    none_kept [] h = refl
    none_kept (j ∷ js) h =
        let parts = or_parts (int_eq j s) (is_listed js s) h in
        kept_step (λ a. int_eq s a) j js false (false_from_ne_true (int_eq s j) (λ e. true≢false (sym ((Decides-int_eq j s).1 (sym (same s j e))) ∙ parts.0))) ∙ none_kept js parts.1

-- distinct ids that are all among others cost no more than these
part_cost : (units : ℤ → ℕ) (all ids : List ℤ) → AreOnce ids → ((a : ℤ) → is_listed ids a ≡ true → is_listed all a ≡ true) → cost_of units ids ≤ cost_of units all
part_cost units [] [] one h = omega arith
part_cost units [] (x ∷ ids) one h = absurd (true≢false (sym (h x (listed_here x ids))))
part_cost units (s ∷ all) ids one h =
    let test : ℤ → Bool = λ a. int_eq s a in
    let other : ℤ → Bool = λ a. not (int_eq s a) in
    let first : cost_of units (filter test ids) ≤ units s = one_cost units s ids one in
    let rest : cost_of units (filter other ids) ≤ cost_of units all = part_cost units all (filter other ids) (kept_once other ids one) (λ a g.
    let parts = kept_parts other ids a g in
    ⊎_elim
    (λ (e : int_eq s a ≡ true). absurd (true≢false (sym parts.1 ∙ not_from_true (int_eq s a) e)))
    (λ (e : is_listed all a ≡ true). e)
    (or_cases (int_eq s a) (is_listed all a) (h a parts.0))) in
    let whole : cost_of units ids ≡ cost_of units (filter test ids) + cost_of units (filter other ids) = kept_cost units test ids in
    omega arith

-- one that passes a test, or none does
some_or_none : (test : ℤ → Bool) (ids : List ℤ) → ((b : ℤ) × (is_listed ids b ≡ true) × (test b ≡ true)) ⊎ ((a : ℤ) → is_listed ids a ≡ true → test a ≡ false)
some_or_none test [] = inr (λ a h. absurd (true≢false (sym h)))
some_or_none test (x ∷ ids) =
    ⊎_elim
    (λ (t : test x ≡ true). inl (x, listed_here x ids, t))
    (λ (t : test x ≡ false). ⊎_elim
    (λ (s : (b : ℤ) × (is_listed ids b ≡ true) × (test b ≡ true)). inl (s.0, listed_later x s.0 ids s.1, s.2))
    (λ (n : (a : ℤ) → is_listed ids a ≡ true → test a ≡ false). inr (λ a h. ⊎_elim
    (λ (e : int_eq x a ≡ true). subst (λ y. test y ≡ false) (same x a e) t)
    (λ (e : is_listed ids a ≡ true). n a e)
    (or_cases (int_eq x a) (is_listed ids a) h)))
    (some_or_none test ids))
    (cases_Bool (test x))

-- ---- homes

home_plays : (jobs : List Job) (a : ℤ) → home jobs a < length jobs → is_listed (job_at jobs (home jobs a)).synths a ≡ true
home_plays [] a l = absurd (omega arith)
home_plays (j ∷ js) a l =
    ⊎_elim
    (λ (e : is_listed j.synths a ≡ true). ap (λ (n : ℕ). is_listed (job_at (j ∷ js) n).synths a) (cond-true (is_listed j.synths a) 0 (1 + home js a) e) ∙ e)
    (λ (e : is_listed j.synths a ≡ false).
    let is : home (j ∷ js) a ≡ 1 + home js a = cond-false (is_listed j.synths a) 0 (1 + home js a) e in
    let next : 1 + home js a ≡ suc (home js a) = omega arith in
    ap (λ (n : ℕ). is_listed (job_at (j ∷ js) n).synths a) (is ∙ next) ∙ home_plays js a (omega arith))
    (cases_Bool (is_listed j.synths a))

once_right : (xs ys : List ℤ) → AreOnce (xs ++ ys) → AreOnce ys
once_right [] ys one = one
once_right (x ∷ xs) ys one = once_right xs ys one.1

once_left : (xs ys : List ℤ) → AreOnce (xs ++ ys) → AreOnce xs
once_left [] ys one = tt
once_left (x ∷ xs) ys one = (false_from_ne_true (is_listed xs x) (λ h. true≢false (sym (listed_left xs ys x h) ∙ one.0)), once_left xs ys one.1)

once_both : (xs ys : List ℤ) (a : ℤ) → AreOnce (xs ++ ys) → is_listed xs a ≡ true → is_listed ys a ≡ true → ⊥
once_both [] ys a one h g = true≢false (sym h)
once_both (x ∷ xs) ys a one h g =
    ⊎_elim
    (λ (e : int_eq x a ≡ true). true≢false (sym (listed_right xs ys a g) ∙ subst (λ y. is_listed (xs ++ ys) y ≡ false) (same x a e) one.0))
    (λ (e : is_listed xs a ≡ true). once_both xs ys a one.1 e g)
    (or_cases (int_eq x a) (is_listed xs a) h)

-- lists with no id in common
once_joined : (xs ys : List ℤ) → AreOnce xs → AreOnce ys → ((a : ℤ) → is_listed xs a ≡ true → is_listed ys a ≡ true → ⊥) → AreOnce (xs ++ ys)
once_joined [] ys p q apart = q
once_joined (x ∷ xs) ys p q apart = (
  false_from_ne_true (is_listed (xs ++ ys) x) (λ h. ⊎_elim
      (λ (e : is_listed xs x ≡ true). true≢false (sym e ∙ p.0))
      (λ (e : is_listed ys x ≡ true). apart x (listed_here x xs) e)
      (listed_cases xs ys x h)),
  once_joined xs ys p.1 q (λ a h g. apart a (listed_later x a xs h) g),
)

-- the synths of one job
once_job : (jobs : List Job) (j : ℕ) → AreOnce (joined_synths jobs) → j < length jobs → AreOnce (job_at jobs j).synths
once_job [] j one l = absurd (omega arith)
once_job (x ∷ xs) zero one l = once_left x.synths (joined_synths xs) one
once_job (x ∷ xs) (suc j) one l = once_job xs j (once_right x.synths (joined_synths xs) one) (omega arith)

joined_has : (jobs : List Job) (j : ℕ) (a : ℤ) → j < length jobs → is_listed (job_at jobs j).synths a ≡ true → is_listed (joined_synths jobs) a ≡ true
joined_has [] j a l h = absurd (omega arith)
joined_has (x ∷ xs) zero a l h = listed_left x.synths (joined_synths xs) a h
joined_has (x ∷ xs) (suc j) a l h = listed_right x.synths (joined_synths xs) a (joined_has xs j a (omega arith) h)

-- if no synth is played twice, the job that plays it is its home
pub home_is : (jobs : List Job) (j : ℕ) (a : ℤ) → AreOnce (joined_synths jobs) → j < length jobs → is_listed (job_at jobs j).synths a ≡ true → home jobs a ≡ j
home_is [] j a one l h = absurd (omega arith)
home_is (x ∷ xs) zero a one l h = cond-true (is_listed x.synths a) 0 (1 + home xs a) h
home_is (x ∷ xs) (suc j) a one l h =
    let not_first : is_listed x.synths a ≡ false = false_from_ne_true (is_listed x.synths a) (λ e. once_both x.synths (joined_synths xs) a one e (joined_has xs j a (omega arith) h)) in
    let rest : home xs a ≡ j = home_is xs j a (once_right x.synths (joined_synths xs) one) (omega arith) h in
    let is : home (x ∷ xs) a ≡ 1 + home xs a = cond-false (is_listed x.synths a) 0 (1 + home xs a) not_first in
    omega arith

-- ---- what is in line costs no more than the greatest level

abbrev Two : List Job → List ℤ → Type 0
Two jobs ids = (a b : ℤ) → is_listed ids a ≡ true → is_listed ids b ≡ true → (home jobs a ≡ home jobs b) ⊎ (Ordered jobs (home jobs a) (home jobs b) ⊎ Ordered jobs (home jobs b) (home jobs a))

module _ (units : ℤ → ℕ) (jobs : List Job) (levels : List ℕ) (are : AreJobs jobs) (least : AreLeast units jobs (length jobs) levels) where
  rise : {i j : ℕ} → Ordered jobs i j → level_at levels i + job_cost units jobs j ≤ level_at levels j
  rise {i} {j} (direct c) = omega (arith, greatest_most levels (predecessors jobs j) i c, level_is units jobs levels least j)
  rise {i} {j} (through {k = k} o c) = omega (arith, rise o, greatest_most levels (predecessors jobs j) k c, level_is units jobs levels least j)

  -- those of one job
  here_cost : (j : ℕ) (ids : List ℤ) → j < length jobs → AreOnce ids → ((a : ℤ) → is_listed ids a ≡ true → home jobs a ≡ j) → cost_of units ids ≤ job_cost units jobs j
  here_cost j ids l one h = part_cost units (job_at jobs j).synths ids one (λ a g.
      let is : home jobs a ≡ j = h a g in
      sym (ap (λ (n : ℕ). is_listed (job_at jobs n).synths a) is) ∙ home_plays jobs a (omega arith))

  -- a job that is not above k, and not k or ordered with it
  below_other : (k : ℕ) (a : ℤ) → home jobs a < suc k → (home jobs a == k) ≡ false → home jobs a < k
  below_other k a m f = let apart = eqb-false (home jobs a) k f in ⊎_elim (λ (e : home jobs a ≡ k). absurd (apart e)) (λ (o : (home jobs a < k) ⊎ (k < home jobs a)). ⊎_elim (λ (g : home jobs a < k). g) (λ (g : k < home jobs a). omega arith) o) (cases_order (home jobs a) k)

  below_k : (k : ℕ) (a b : ℤ) → home jobs b ≡ k → home jobs a < suc k → (home jobs a ≡ home jobs b) ⊎ (Ordered jobs (home jobs a) (home jobs b) ⊎ Ordered jobs (home jobs b) (home jobs a)) → (home jobs a ≡ k) ⊎ (Ordered jobs (home jobs a) k × (home jobs a < k))
  below_k k a b e m o =
      ⊎_elim
      (λ (s : home jobs a ≡ home jobs b). inl (s ∙ e))
      (λ (s : Ordered jobs (home jobs a) (home jobs b) ⊎ Ordered jobs (home jobs b) (home jobs a)). ⊎_elim
      (λ (d : Ordered jobs (home jobs a) (home jobs b)). let up : home jobs a < home jobs b = rises jobs are d in inr (subst (λ n. Ordered jobs (home jobs a) n) e d, omega arith))
      (λ (d : Ordered jobs (home jobs b) (home jobs a)). let up : home jobs b < home jobs a = rises jobs are d in absurd (omega arith))
      s)
      o

  -- those of a job, and of jobs before it with numbers below k
  up_to : (k j : ℕ) (ids : List ℤ) → k ≤ j → j < length jobs → AreOnce ids → Two jobs ids → ((a : ℤ) → is_listed ids a ≡ true → (home jobs a ≡ j) ⊎ (Ordered jobs (home jobs a) j × (home jobs a < k))) → cost_of units ids ≤ level_at levels j
  up_to zero j ids l within one two h =
      let cost : cost_of units ids ≤ job_cost units jobs j = here_cost j ids within one (λ a g. ⊎_elim (λ (e : home jobs a ≡ j). e) (λ (p : Ordered jobs (home jobs a) j × (home jobs a < 0)). absurd (omega (arith, p.1))) (h a g)) in
      omega (arith, level_is units jobs levels least j)
  up_to (suc k) j ids l within one two h =
      ⊎_elim
      (λ (s : (b : ℤ) × (is_listed ids b ≡ true) × ((home jobs b == k) ≡ true)).
      let at_k : home jobs s.0 ≡ k = eqb-true (home jobs s.0) k s.2 in
      let test : ℤ → Bool = λ a. home jobs a == j in
      let other : ℤ → Bool = λ a. not (home jobs a == j) in
      let before : Ordered jobs k j = ⊎_elim (λ (e : home jobs s.0 ≡ j). absurd (omega arith)) (λ (p : Ordered jobs (home jobs s.0) j × (home jobs s.0 < suc k)). subst (λ n. Ordered jobs n j) at_k p.0) (h s.0 s.1) in
      let first : cost_of units (filter test ids) ≤ job_cost units jobs j = here_cost j (filter test ids) within (kept_once test ids one) (λ a g. eqb-true (home jobs a) j (kept_parts test ids a g).1) in
      let rest : cost_of units (filter other ids) ≤ level_at levels k = up_to k k (filter other ids) (omega arith) (omega arith) (kept_once other ids one)
      (λ a b g f. two a b (kept_parts other ids a g).0 (kept_parts other ids b f).0)
      (λ a g. let parts = kept_parts other ids a g in ⊎_elim
      (λ (e : home jobs a ≡ j). absurd (true≢false (sym parts.1 ∙ not_from_true (home jobs a == j) (eq-eqb (home jobs a) j e))))
      (λ (p : Ordered jobs (home jobs a) j × (home jobs a < suc k)). below_k k a s.0 at_k p.1 (two a s.0 parts.0 s.1))
      (h a parts.0)) in
      let whole : cost_of units ids ≡ cost_of units (filter test ids) + cost_of units (filter other ids) = kept_cost units test ids in
      omega (arith, rise before))
      (λ (n : (a : ℤ) → is_listed ids a ≡ true → (home jobs a == k) ≡ false).
      up_to k j ids (omega arith) within one two (λ a g. ⊎_elim
      (λ (e : home jobs a ≡ j). inl e)
      (λ (p : Ordered jobs (home jobs a) j × (home jobs a < suc k)). inr (p.0, below_other k a p.1 (n a g)))
      (h a g)))
      (some_or_none (λ a. home jobs a == k) ids)

  -- those of jobs with numbers below k
  all_up_to : (k : ℕ) (ids : List ℤ) → k ≤ length jobs → AreOnce ids → Two jobs ids → ((a : ℤ) → is_listed ids a ≡ true → home jobs a < k) → cost_of units ids ≤ greatest_of levels (below (length jobs))
  all_up_to zero [] l one two h = omega arith
  all_up_to zero (a ∷ ids) l one two h = absurd (omega (arith, h a (listed_here a ids)))
  all_up_to (suc k) ids l one two h =
      ⊎_elim
      (λ (s : (b : ℤ) × (is_listed ids b ≡ true) × ((home jobs b == k) ≡ true)).
      let cost : cost_of units ids ≤ level_at levels k = up_to k k ids (omega arith) (omega arith) one two (λ a g. below_k k a s.0 (eqb-true (home jobs s.0) k s.2) (h a g) (two a s.0 g s.1)) in
      omega (arith, all_most levels (length jobs) k (omega arith)))
      (λ (n : (a : ℤ) → is_listed ids a ≡ true → (home jobs a == k) ≡ false). all_up_to k ids (omega arith) one two (λ a g. below_other k a (h a g) (n a g)))
      (some_or_none (λ a. home jobs a == k) ids)

  pub line_most : (ids : List ℤ) → AreOnce ids → AreInLine jobs ids → cost_of units ids ≤ greatest_of levels (below (length jobs))
  line_most ids one line = all_up_to (length jobs) ids (omega arith) one line.two line.played

-- ---- a chain is in line

in_cases : {T : Type 0} (x : ℕ) (xs : List ℕ) (y : ℕ) → Contains (x ∷ xs) y → (x ≡ y → T) → (Contains xs y → T) → T
in_cases x xs y (zero, l, e) first rest = first e
in_cases x xs y (suc k, l, e) first rest = rest (k, omega arith, e)

module _ (jobs : List Job) where
  -- what comes later in a chain is ordered after what comes before
  later : (i j : ℕ) (chain : List ℕ) (k : ℕ) → Ordered jobs i j → goes_on jobs (Some j) chain ≡ true → Contains chain k → Ordered jobs i k
  later i j [] k o g c = absurd (nothing_in k c)
  later i j (x ∷ chain) k o g c =
      let parts = and_parts (may_follow jobs (Some j) x) (goes_on jobs (Some x) chain) g in
      let after_j : Ordered jobs i x = through o (from_any (predecessors jobs x) j (and_parts (nat_lt x (length jobs)) (follows jobs (Some j) x) parts.0).1) in
      in_cases x chain k c (λ e. subst (Ordered jobs i) e after_j) (λ d. later i x chain k after_j parts.1 d)

  behind : (j : ℕ) (chain : List ℕ) (k : ℕ) → goes_on jobs (Some j) chain ≡ true → Contains chain k → Ordered jobs j k
  behind j [] k g c = absurd (nothing_in k c)
  behind j (x ∷ chain) k g c =
      let parts = and_parts (may_follow jobs (Some j) x) (goes_on jobs (Some x) chain) g in
      let after_j : Ordered jobs j x = direct (from_any (predecessors jobs x) j (and_parts (nat_lt x (length jobs)) (follows jobs (Some j) x) parts.0).1) in
      in_cases x chain k c (λ e. subst (Ordered jobs j) e after_j) (λ d. later j x chain k after_j parts.1 d)

  in_chain : (before : Option ℕ) (chain : List ℕ) (j k : ℕ) → goes_on jobs before chain ≡ true → Contains chain j → Contains chain k → (j ≡ k) ⊎ (Ordered jobs j k ⊎ Ordered jobs k j)
  in_chain before [] j k g c d = absurd (nothing_in j c)
  in_chain before (x ∷ chain) j k g c d =
      let parts = and_parts (may_follow jobs before x) (goes_on jobs (Some x) chain) g in
      in_cases x chain j c
      (λ e. in_cases x chain k d (λ f. inl (sym e ∙ f)) (λ f. inr (inl (subst (λ n. Ordered jobs n k) e (behind x chain k parts.1 f)))))
      (λ e. in_cases x chain k d (λ f. inr (inr (subst (λ n. Ordered jobs n j) f (behind x chain j parts.1 e)))) (λ f. in_chain (Some x) chain j k parts.1 e f))

  -- the job of a chain that plays a synth
  plays_in : (before : Option ℕ) (chain : List ℕ) (a : ℤ) → goes_on jobs before chain ≡ true → is_listed (played jobs chain) a ≡ true → (j : ℕ) × Contains chain j × (j < length jobs) × (is_listed (job_at jobs j).synths a ≡ true)
  plays_in before [] a g h = absurd (true≢false (sym h))
  plays_in before (x ∷ chain) a g h =
      let parts = and_parts (may_follow jobs before x) (goes_on jobs (Some x) chain) g in
      ⊎_elim
      (λ (e : is_listed (job_at jobs x).synths a ≡ true). (x, (0, omega arith, refl), ltb-true x (length jobs) (and_parts (nat_lt x (length jobs)) (follows jobs before x) parts.0).0, e))
      (λ (e : is_listed (played jobs chain) a ≡ true). let rest = plays_in (Some x) chain a parts.1 e in (rest.0, in_rest x chain rest.0 rest.1, rest.2, rest.3))
      (listed_cases (job_at jobs x).synths (played jobs chain) a h)

  pub chain_in_line : (chain : List ℕ) → AreOnce (joined_synths jobs) → goes_on jobs None chain ≡ true → AreInLine jobs (played jobs chain)
  chain_in_line chain one g = record {
    played = λ a h. let p = plays_in None chain a g h in let is : home jobs a ≡ p.0 = home_is jobs p.0 a one p.2 p.3 in omega (arith, p.2);
    two = λ a b h k.
        let p = plays_in None chain a g h in
        let q = plays_in None chain b g k in
        subst (λ (x : ℕ × ℕ). (x.0 ≡ x.1) ⊎ (Ordered jobs x.0 x.1 ⊎ Ordered jobs x.1 x.0))
        (λ i. (sym (home_is jobs p.0 a one p.2 p.3) i, sym (home_is jobs q.0 b one q.2 q.3) i))
        (in_chain None chain p.0 q.0 g p.1 q.1);
  }

  -- a later job of a chain plays none of the synths of an earlier one
  once_from : AreJobs jobs → (before : Option ℕ) (chain : List ℕ) → AreOnce (joined_synths jobs) → goes_on jobs before chain ≡ true → AreOnce (played jobs chain)
  once_from are before [] one g = tt
  once_from are before (x ∷ chain) one g =
      let parts = and_parts (may_follow jobs before x) (goes_on jobs (Some x) chain) g in
      let within : x < length jobs = ltb-true x (length jobs) (and_parts (nat_lt x (length jobs)) (follows jobs before x) parts.0).0 in
      once_joined (job_at jobs x).synths (played jobs chain) (once_job jobs x one within) (once_from are (Some x) chain one parts.1) (λ a h k.
      let p = plays_in (Some x) chain a parts.1 k in
      let up : x < p.0 = rises jobs are (behind x chain p.0 parts.1 p.1) in
      let first : home jobs a ≡ x = home_is jobs x a one within h in
      let other : home jobs a ≡ p.0 = home_is jobs p.0 a one p.2 p.3 in
      omega arith)

  pub chain_once : AreJobs jobs → (chain : List ℕ) → AreOnce (joined_synths jobs) → goes_on jobs None chain ≡ true → AreOnce (played jobs chain)
  chain_once are chain one g = once_from are None chain one g
