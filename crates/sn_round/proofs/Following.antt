-- The successors of a job are the jobs of which it is a predecessor, each once.
use Rattle.std.proofs.Common.{◌≡◌, ◌≢◌, ⊎_elim, ℕ, zero, suc, ◌+◌, ◌<◌, ◌≤◌, ◌==◌, Bool, true, false, ◌||◌, if◌then◌else◌, List, [], ◌∷◌, ◌++◌, length, refl, sym, ap, subst, arith, eq-eqb, eqb-true}
use Rattle.std.specs.Prelude.{◌↔◌, Contains}
use Rattle.std.proofs.lemmas.Bool.{cases_eq, ne_eqb, or_cases, or_right}
use Rattle.std.proofs.lemmas.List.Elements.{Contains-append_left, Contains-append_right, Contains-append_cases}
use Rattle.sn_round.specs.declared.jobs.Job.{Job}
use Rattle.sn_round.specs.Jobs.{is_in, predecessors, successors, successors_from, times}
use Rattle.sn_round.proofs.Orders.{nothing_in}

contained : (j : ℕ) (xs : List ℕ) → is_in j xs ≡ true → Contains xs j
contained j [] h = absurd cc
contained j (x ∷ xs) h = ⊎_elim
    (λ (here : (x == j) ≡ true). (0, omega arith, eqb-true x j here))
    (λ (there : is_in j xs ≡ true). let c = contained j xs there in let l = c.1 in (suc c.0, omega arith, c.2))
    (or_cases (x == j) (is_in j xs) h)

found : (j : ℕ) (xs : List ℕ) → Contains xs j → is_in j xs ≡ true
found j [] c = absurd (nothing_in j c)
found j (x ∷ xs) (zero, l, e) = ap (λ (b : Bool). b || is_in j xs) (eq-eqb x j e)
found j (x ∷ xs) (suc k, l, e) = or_right (x == j) (is_in j xs) (found j xs (k, omega arith, e))

abbrev alone : Bool → ℕ → List ℕ
alone b k = if b then k ∷ [] else []

alone_is : (b : Bool) (k j : ℕ) → Contains (alone b k) j → (b ≡ true) × (j ≡ k)
alone_is true k j (zero, l, e) = (refl, sym e)
alone_is true k j (suc n, l, e) = absurd (omega arith)
alone_is false k j (n, l, e) = absurd (omega arith)

alone_has : (b : Bool) (k j : ℕ) → b ≡ true → j ≡ k → Contains (alone b k) j
alone_has true k j h same = (0, omega arith, sym same)
alone_has false k j h same = absurd cc

-- j is the number of a job of which i is a predecessor, and the first job has the number k
abbrev Follows : ℕ → List Job → ℕ → ℕ → Type 0
Follows k jobs i j = (m : ℕ) × (m < length jobs) × (j ≡ k + m) × (is_in i (predecessors jobs m) ≡ true)

follows : (k : ℕ) (jobs : List Job) (i j : ℕ) → Contains (successors_from k jobs i) j → Follows k jobs i j
follows k [] i j c = absurd (nothing_in j c)
follows k (x ∷ jobs) i j c = ⊎_elim
    (λ (here : Contains (alone (is_in i x.before) k) j). let h = alone_is (is_in i x.before) k j here in (0, omega arith, omega (arith, h.1), h.0))
    (λ (there : Contains (successors_from (k + 1) jobs i) j). let (m, l, e, is) = follows (k + 1) jobs i j there in (suc m, omega arith, omega (arith, e), is))
    (Contains-append_cases (alone (is_in i x.before) k) (successors_from (k + 1) jobs i) j c)

followed : (k : ℕ) (jobs : List Job) (i m : ℕ) → m < length jobs → is_in i (predecessors jobs m) ≡ true → Contains (successors_from k jobs i) (k + m)
followed k [] i m l is = absurd (omega arith)
followed k (x ∷ jobs) i zero l is = Contains-append_left (alone (is_in i x.before) k) (successors_from (k + 1) jobs i) (k + 0) (alone_has (is_in i x.before) k (k + 0) is (omega arith))
followed k (x ∷ jobs) i (suc m) l is =
    let same : k + 1 + m ≡ k + suc m = omega arith in
    Contains-append_right (alone (is_in i x.before) k) (successors_from (k + 1) jobs i) (k + suc m) (subst (Contains (successors_from (k + 1) jobs i)) same (followed (k + 1) jobs i m (omega arith) is))

pub inverse : (jobs : List Job) (i j : ℕ) → Contains (successors jobs i) j ↔ ((j < length jobs) × Contains (predecessors jobs j) i)
inverse jobs i j = (
  (λ c.
      let (m, l, e, is) = follows 0 jobs i j c in
      let same : m ≡ j = omega (arith, e) in
      (omega (arith, l, same), subst (λ n. Contains (predecessors jobs n) i) same (contained i (predecessors jobs m) is))),
  (λ h.
      let same : 0 + j ≡ j = omega arith in
      subst (Contains (successors jobs i)) same (followed 0 jobs i j h.0 (found i (predecessors jobs j) h.1))),
)

times_append : (j : ℕ) (xs ys : List ℕ) → times j (xs ++ ys) ≡ times j xs + times j ys
times_append j [] ys = omega arith
times_append j (x ∷ xs) ys = omega (arith, times_append j xs ys)

one_at_most : (b : Bool) → (if b then 1 else 0) + times 0 [] ≤ 1
one_at_most true = omega arith
one_at_most false = omega arith

alone_once : (b : Bool) (k j : ℕ) → times j (alone b k) ≤ 1
alone_once true k j = one_at_most (k == j)
alone_once false k j = omega arith

alone_other : (b : Bool) (k j : ℕ) → k ≢ j → times j (alone b k) ≡ 0
alone_other true k j d = ap (λ (b : Bool). (if b then 1 else 0) + times j []) (ne_eqb k j d)
alone_other false k j d = refl

-- what stands before the first is not there
not_before : (k : ℕ) (jobs : List Job) (i j : ℕ) → j < k → times j (successors_from k jobs i) ≡ 0
not_before k [] i j l = refl
not_before k (x ∷ jobs) i j l =
    let parts = times_append j (alone (is_in i x.before) k) (successors_from (k + 1) jobs i) in
    omega (arith, parts, alone_other (is_in i x.before) k j (λ e. omega arith), not_before (k + 1) jobs i j (omega arith))

once_from : (k : ℕ) (jobs : List Job) (i j : ℕ) → times j (successors_from k jobs i) ≤ 1
once_from k [] i j = omega arith
once_from k (x ∷ jobs) i j =
    let parts = times_append j (alone (is_in i x.before) k) (successors_from (k + 1) jobs i) in
    ⊎_elim
    (λ (e : k ≡ j). omega (arith, parts, alone_once (is_in i x.before) k j, not_before (k + 1) jobs i j (omega arith)))
    (λ (d : k ≢ j). omega (arith, parts, alone_other (is_in i x.before) k j d, once_from (k + 1) jobs i j))
    (cases_eq k j)

-- no job is named twice among the successors of a job
pub once : (jobs : List Job) (i j : ℕ) → times j (successors jobs i) ≤ 1
once jobs i j = once_from 0 jobs i j
