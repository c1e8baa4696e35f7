-- Jobs that are put one after another.
use Rattle.std.proofs.Common.{◌≡◌, ◌≢◌, ⊎_elim, ℕ, zero, suc, ◌+◌, ◌<◌, ◌≤◌, ◌==◌, Bool, false, if◌then◌else◌, List, [], ◌∷◌, ◌++◌, ◌-◌, length, take, drop, get_or, refl, sym, ap, subst, ◌∙◌, arith, eq-eqb}
use Rattle.std.specs.Prelude.{Contains}
use Rattle.std.specs.List.{All}
use Rattle.std.proofs.lemmas.Bool.{cases_eq, ne_eqb}
use Rattle.std.proofs.lemmas.List.{length-append}
use Rattle.std.proofs.lemmas.List.Elements.{All-contains}
use Rattle.sn_round.specs.declared.jobs.Job.{Job}
use Rattle.sn_round.specs.Jobs.{AreJobs, job_at, times}

-- a number stands in no list of greater ones
above : (n : ℕ) (xs : List ℕ) → All (λ x. n + 1 ≤ x) xs → times n xs ≡ 0
above n [] h = refl
above n (x ∷ xs) h =
    let greater : n + 1 ≤ x = h 0 x (omega arith) in
    let no : (x == n) ≡ false = ne_eqb x n (λ (e : x ≡ n). absurd (omega (arith, e, greater))) in
    let here : (if x == n then 1 else 0) + times n xs ≡ 0 + times n xs = ap (λ (b : Bool). (if b then 1 else 0) + times n xs) no in
    omega (arith, here, above n xs (λ k d l. h (suc k) d (omega (arith, l))))

-- a number before greater ones stands once
once_more : (first : ℕ) (rest : List ℕ) → All (λ x. first + 1 ≤ x) rest → ((n : ℕ) → times n rest ≤ 1) → (n : ℕ) → times n (first ∷ rest) ≤ 1
once_more first rest h once n = ⊎_elim
    (λ (e : first ≡ n).
    let none : times n rest ≡ 0 = above n rest (subst (λ m. All (λ x. m + 1 ≤ x) rest) e h) in
    let one : (if first == n then 1 else 0) + times n rest ≡ 1 + times n rest = ap (λ (b : Bool). (if b then 1 else 0) + times n rest) (eq-eqb first n e) in
    omega (arith, none, one))
    (λ (d : first ≢ n).
    let same : (if first == n then 1 else 0) + times n rest ≡ 0 + times n rest = ap (λ (b : Bool). (if b then 1 else 0) + times n rest) (ne_eqb first n d) in
    omega (arith, same, once n))
    (cases_eq first n)

whole : (xs : List ℕ) → take (length xs) xs ≡ xs
whole [] = refl
whole (x ∷ xs) = ap (λ (ys : List ℕ). x ∷ ys) (whole xs)

pub once_split : (xs : List ℕ) → 1 ≤ length xs → All (λ x. get_or xs 0 0 + 1 ≤ x) (take (length xs - 1) (drop 1 xs)) → ((n : ℕ) → times n (take (length xs - 1) (drop 1 xs)) ≤ 1) → (n : ℕ) → times n xs ≤ 1
once_split [] l h once = absurd (omega (arith, l))
once_split (x ∷ xs) l h once =
    let few : length (x ∷ xs) - 1 ≡ length xs = omega arith in
    let same : take (length (x ∷ xs) - 1) xs ≡ xs = ap (λ n. take n xs) few ∙ whole xs in
    once_more x xs (subst (All (λ y. x + 1 ≤ y)) same h) (subst (λ (ys : List ℕ). (n : ℕ) → times n ys ≤ 1) same once)

at_front : (jobs : List Job) (x : Job) (j : ℕ) → j < length jobs → job_at (jobs ++ x ∷ []) j ≡ job_at jobs j
at_front [] x j l = absurd (omega arith)
at_front (y ∷ jobs) x zero l = refl
at_front (y ∷ jobs) x (suc j) l = at_front jobs x j (omega arith)

at_end : (jobs : List Job) (x : Job) → job_at (jobs ++ x ∷ []) (length jobs) ≡ x
at_end [] x = refl
at_end (y ∷ jobs) x = at_end jobs x

pub no_jobs_are : AreJobs []
no_jobs_are = record { few = omega arith; lower = λ i j l c. absurd (omega arith); once = λ i j l. absurd (omega arith) }

-- one job more, whose predecessors stand before it, each once
pub jobs_more : (jobs : List Job) (x : Job) → AreJobs jobs → length jobs + 1 < 4294967296 → All (λ p. p < length jobs) x.before → ((n : ℕ) → times n x.before ≤ 1) → AreJobs (jobs ++ x ∷ [])
jobs_more jobs x are short below one = record {
  few = omega (arith, short, long);
  lower = λ i j l c. ⊎_elim
      (λ (e : j ≡ length jobs). let p : i < length jobs = All-contains (λ p. p < length jobs) x.before i below (subst (λ (y : Job). Contains y.before i) (last j e) c) in omega (arith, p, e))
      (λ (d : j ≢ length jobs). let before : j < length jobs = omega (arith, l, long, d) in are.lower i j before (subst (λ (y : Job). Contains y.before i) (at_front jobs x j before) c))
      (cases_eq j (length jobs));
  once = λ i j l. ⊎_elim
      (λ (e : j ≡ length jobs). subst (λ (y : Job). times i y.before ≤ 1) (sym (last j e)) (one i))
      (λ (d : j ≢ length jobs). let before : j < length jobs = omega (arith, l, long, d) in subst (λ (y : Job). times i y.before ≤ 1) (sym (at_front jobs x j before)) (are.once i j before))
      (cases_eq j (length jobs));
}
  where
    long : length (jobs ++ x ∷ []) ≡ length jobs + 1
    long = length-append jobs (x ∷ [])

    last : (j : ℕ) → j ≡ length jobs → job_at (jobs ++ x ∷ []) j ≡ x
    last j e = subst (λ n. job_at (jobs ++ x ∷ []) n ≡ x) (sym e) (at_end jobs x)
