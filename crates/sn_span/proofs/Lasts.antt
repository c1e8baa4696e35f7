-- The numbers below another that pass a test, and the jobs without successors.
use Rattle.std.proofs.Common.{◌≡◌, ◌≢◌, ⊎_elim, ℕ, zero, suc, ◌+◌, ◌<◌, ◌≤◌, ◌==◌, Bool, true, false, append-nil, cond, if◌then◌else◌, List, [], ◌∷◌, ◌++◌, length, refl, sym, ap, subst, ◌∙◌, arith}
use Rattle.std.specs.Prelude.{Contains, filter}
use Rattle.std.proofs.lemmas.Bool.{cases_eq, ne_eqb}
use Rattle.std.proofs.lemmas.List.Elements.{Contains-append_left, Contains-append_right, Contains-append_cases, filter-append}
use Rattle.sn_mem.specs.Blocks.{table}
use Rattle.sn_mem.proofs.Tables.{table_more}
use Rattle.sn_round.specs.declared.jobs.Job.{Job}
use Rattle.sn_round.specs.Jobs.{successors, times}
use Rattle.sn_round.proofs.Orders.{nothing_in}
use Rattle.sn_span.specs.Unrolling.{last_jobs}

times_append : (x : ℕ) (xs ys : List ℕ) → times x (xs ++ ys) ≡ times x xs + times x ys
times_append x [] ys = omega arith
times_append x (y ∷ xs) ys = omega (arith, times_append x xs ys)

has_alone : (b : Bool) (x : ℕ) → b ≡ true → Contains (cond b (x ∷ []) []) x
has_alone true x h = (0, omega arith, refl)
has_alone false x h = absurd cc

is_alone : (b : Bool) (x y : ℕ) → Contains (cond b (x ∷ []) []) y → y ≡ x
is_alone true x y (zero, l, e) = sym e
is_alone true x y (suc k, l, e) = absurd (omega arith)
is_alone false x y (k, l, e) = absurd (omega arith)

pub counted : (b : Bool) → (if b then 1 else 0) ≤ 1
counted true = omega arith
counted false = omega arith

alone_once : (b : Bool) (x y : ℕ) → times x (cond b (y ∷ []) []) ≤ 1
alone_once true x y = omega (arith, counted (y == x))
alone_once false x y = omega arith

alone_other : (b : Bool) (x y : ℕ) → y ≢ x → times x (cond b (y ∷ []) []) ≡ 0
alone_other true x y d = let here : ◌≡◌ {A = ℕ} (if y == x then 1 else 0) 0 = ap {B = ℕ} (λ (b : Bool). if b then 1 else 0) (ne_eqb y x d) in omega (arith, here)
alone_other false x y d = refl

module _ (p : ℕ → Bool) where
  -- the numbers below m that pass
  abbrev pub passing : ℕ → List ℕ
  passing m = filter p (table (λ i. i) m)

  pub next_passing : (m : ℕ) → passing (m + 1) ≡ passing m ++ cond (p m) (m ∷ []) []
  next_passing m = ap (λ (xs : List ℕ). filter p xs) (table_more (λ i. i) m) ∙ filter-append p (table (λ i. i) m) (m ∷ [])

  pub none_passing : passing 0 ≡ []
  unfolding table
  none_passing = refl

  pub in_passing : (m i : ℕ) → i < m → p i ≡ true → Contains (passing m) i
  in_passing zero i l h = absurd (omega arith)
  in_passing (suc m) i l h =
      let s : m + 1 ≡ suc m = omega arith in
      subst (λ k. Contains (passing k) i) s (subst (λ (xs : List ℕ). Contains xs i) (sym (next_passing m)) (⊎_elim
      (λ (e : i ≡ m). Contains-append_right (passing m) (cond (p m) (m ∷ []) []) i (subst (λ j. Contains (cond (p j) (j ∷ []) []) i) e (has_alone (p i) i h)))
      (λ (d : i ≢ m). Contains-append_left (passing m) (cond (p m) (m ∷ []) []) i (in_passing m i (omega (arith, l, d)) h))
      (cases_eq i m)))

  pub of_passing : (m x : ℕ) → Contains (passing m) x → x < m
  unfolding table
  of_passing zero x c = absurd (nothing_in x c)
  of_passing (suc m) x c =
      let s : suc m ≡ m + 1 = omega arith in
      ⊎_elim
      (λ (b : Contains (passing m) x). omega (arith, of_passing m x b))
      (λ (b : Contains (cond (p m) (m ∷ []) []) x). omega (arith, is_alone (p m) m x b))
      (Contains-append_cases (passing m) (cond (p m) (m ∷ []) []) x (subst (λ (xs : List ℕ). Contains xs x) (next_passing m) (subst (λ k. Contains (passing k) x) s c)))

  parts : (m x : ℕ) → times x (passing (suc m)) ≡ times x (passing m) + times x (cond (p m) (m ∷ []) [])
  parts m x =
      let s : suc m ≡ m + 1 = omega arith in
      ap (λ k. times x (passing k)) s ∙ (ap (times x) (next_passing m) ∙ times_append x (passing m) (cond (p m) (m ∷ []) []))

  above : (m x : ℕ) → m ≤ x → times x (passing m) ≡ 0
  unfolding table
  above zero x l = refl
  above (suc m) x l = omega (arith, parts m x, above m x (omega (arith, l)), alone_other (p m) x m (λ (e : m ≡ x). absurd (omega (arith, e, l))))

  pub once : (m x : ℕ) → times x (passing m) ≤ 1
  unfolding table
  once zero x = omega arith
  once (suc m) x = ⊎_elim
      (λ (e : m ≡ x). omega (arith, parts m x, above m x (omega (arith, e)), alone_once (p m) x m))
      (λ (d : m ≢ x). omega (arith, parts m x, once m x, alone_other (p m) x m d))
      (cases_eq m x)

  -- one number more
  pub passes_more : (m : ℕ) (xs ys : List ℕ) → xs ≡ passing m → p m ≡ true → ys ≡ xs ++ m ∷ [] → ys ≡ passing (m + 1)
  passes_more m xs ys e h put = put ∙ (ap (λ (zs : List ℕ). zs ++ m ∷ []) e ∙ (ap (λ (b : Bool). passing m ++ cond b (m ∷ []) []) (sym h) ∙ sym (next_passing m)))

  pub fails_more : (m : ℕ) (xs : List ℕ) → xs ≡ passing m → p m ≡ false → xs ≡ passing (m + 1)
  fails_more m xs e h = e ∙ (sym (append-nil (passing m)) ∙ (ap (λ (b : Bool). passing m ++ cond b (m ∷ []) []) (sym h) ∙ sym (next_passing m)))

-- ---- the jobs without successors

abbrev pub ends : List Job → ℕ → Bool
ends jobs i = length (successors jobs i) == 0

pub in_last : (jobs : List Job) (i : ℕ) → i < length jobs → ends jobs i ≡ true → Contains (last_jobs jobs) i
unfolding last_jobs
in_last jobs i l h = in_passing (ends jobs) (length jobs) i l h

pub of_last : (jobs : List Job) (x : ℕ) → Contains (last_jobs jobs) x → x < length jobs
unfolding last_jobs
of_last jobs x c = of_passing (ends jobs) (length jobs) x c

pub last_once : (jobs : List Job) (x : ℕ) → times x (last_jobs jobs) ≤ 1
unfolding last_jobs
last_once jobs x = once (ends jobs) (length jobs) x
