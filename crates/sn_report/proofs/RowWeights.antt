-- The levels of the jobs of a row, and the chain that is traced through them.
use Rattle.std.proofs.Common.{◌≡◌, ◌⊎◌, ℕ, ◌+◌, ◌-◌, ◌<◌, ◌≤◌, ℤ, List, [], ◌∷◌, ◌++◌, length, Option, Some, None, sym, refl, ap, ◌∙◌, subst, ⊎_elim, inl, inr, arith, append_assoc}
use Rattle.std.specs.Prelude.{Contains, max, nat_lt}
use Rattle.std.proofs.lemmas.Bool.{cases_lt, cond_both, cond-true, cond-false, le-ltb, lt-ltb, ltb-true, ltb-false}
use Rattle.std.proofs.lemmas.List.{append-nil}
use Rattle.sn_mem.specs.declared.moves.Moved.{Moved}
use Rattle.sn_round.specs.declared.jobs.Job.{Job}
use Rattle.sn_round.specs.Jobs.{job_at, predecessors}
use Rattle.sn_graph.specs.declared.nodes.Voice.{Voice}
use Rattle.sn_graph.specs.Voices.{ids_of}
use Rattle.sn_graph.specs.Rows.{Row, Members, done, job, split, one, more, job_of, jobs, last, lasts, size, size_all}
use Rattle.sn_graph.proofs.Shapes.{AreFull, IsFull, Stands, StandsAll}
use Rattle.sn_graph.proofs.Ordering.{Path, end, itself, last_in, next, only, path_lower, step}
use Rattle.sn_graph.proofs.Numbers.{fits}
use Rattle.sn_graph.proofs.Planning.{length-jobs, lower as row_lower, whole}
use Rattle.sn_round.proofs.Orders.{nothing_in}
use Rattle.sn_report.specs.Costs.{cost_of}
use Rattle.sn_report.specs.Certificates.{below, greatest_of, level_at, played}
use Rattle.sn_report.specs.Tracing.{AreLeast, Comes, none, after, better, ceiling, first_greatest}
use Rattle.sn_report.specs.Weights.{Weight, both, heavier, nothing}
use Rattle.sn_report.proofs.LevelLemmas.{below_ceiling, below_next, ceiling_below, found_in, found_level, greatest_most, level_is, level_of, some_is}

-- ---- weights of rows

abbrev pub run_weight : (ℤ → ℕ) → List Voice → Weight
run_weight units vs = record { cost = cost_of units (ids_of vs); chain = ids_of vs }

abbrev mutual
  pub row_weight : (ℤ → ℕ) → Row → Weight
  row_weight units done = nothing
  row_weight units (job vs rest) = both (run_weight units vs) (row_weight units rest)
  row_weight units (split lanes ms rest) = both (members_weight units ms) (row_weight units rest)

  pub members_weight : (ℤ → ℕ) → Members → Weight
  members_weight units (one r) = row_weight units r
  members_weight units (more r ms) = heavier (row_weight units r) (members_weight units ms)

pub heavier_cost : (v w : Weight) → (heavier v w).cost ≡ max v.cost w.cost
heavier_cost v w =
    cond_both (nat_lt v.cost w.cost) w v (λ (x : Weight). x.cost ≡ max v.cost w.cost)
    (λ e. let l : v.cost < w.cost = ltb-true v.cost w.cost e in omega arith)
    (λ e. let l : w.cost ≤ v.cost = ltb-false v.cost w.cost e in omega arith)

heavier_later : (v w : Weight) → v.cost < w.cost → heavier v w ≡ w
heavier_later v w l = cond-true (nat_lt v.cost w.cost) w v (lt-ltb v.cost w.cost l)

heavier_first : (v w : Weight) → w.cost ≤ v.cost → heavier v w ≡ v
heavier_first v w l = cond-false (nat_lt v.cost w.cost) w v (le-ltb v.cost w.cost l)

greatest-append : (levels is js : List ℕ) → greatest_of levels (is ++ js) ≡ max (greatest_of levels is) (greatest_of levels js)
greatest-append levels [] js = omega arith
greatest-append levels (i ∷ is) js = omega (arith, greatest-append levels is js)

pub played-append : (js : List Job) (is ks : List ℕ) → played js (is ++ ks) ≡ played js is ++ played js ks
played-append js [] ks = refl
played-append js (i ∷ is) ks = ap (λ l. (job_at js i).synths ++ l) (played-append js is ks) ∙ sym (append_assoc (job_at js i).synths (played js is) (played js ks))

-- ---- the last job of a row

last_one : (n m : ℕ) (r : Row) → (k : ℕ) × (last n (m ∷ []) r ≡ k ∷ [])
last_one n m done = (m, refl)
last_one n m (job vs rest) = last_one (n + 1) n rest
last_one n m (split lanes ms rest) = last_one (n + size_all ms + 1) (n + size_all ms) rest

last_of : (n : ℕ) (e : List ℕ) (r : Row) → 1 ≤ size r → (k : ℕ) × (last n e r ≡ k ∷ [])
last_of n e done l = absurd (omega arith)
last_of n e (job vs rest) l = last_one (n + 1) n rest
last_of n e (split lanes ms rest) l = last_one (n + size_all ms + 1) (n + size_all ms) rest

-- ---- traces

-- a trace from one job ends with it
comes_one : (js : List Job) (levels : List ℕ) (n : ℕ) (chain : List ℕ) → Comes js levels (n ∷ []) chain → (front : List ℕ) × Comes js levels (predecessors js n) front × (chain ≡ front ++ n ∷ [])
comes_one js levels n _ (after {chain = front} {j = j} e c) =
    let same : j ≡ n = sym (some_is n j e) in
    (front, subst (λ k. Comes js levels (predecessors js k) front) same c, ap (λ k. front ++ k ∷ []) same)

-- a trace from several jobs is one from the first or from the others
comes_first : (js : List Job) (levels : List ℕ) (n : ℕ) (others chain : List ℕ) → Comes js levels (n ∷ others) chain
    → ((level_at levels n < greatest_of levels others) × Comes js levels others chain) ⊎ ((greatest_of levels others ≤ level_at levels n) × Comes js levels (n ∷ []) chain)
comes_first js levels n others _ (after {chain = front} {j = j} e c) = by_best (first_greatest levels others) refl
  where
    by_best : (o : Option ℕ) → first_greatest levels others ≡ o → ((level_at levels n < greatest_of levels others) × Comes js levels others (front ++ j ∷ [])) ⊎ ((greatest_of levels others ≤ level_at levels n) × Comes js levels (n ∷ []) (front ++ j ∷ []))
    by_best None f =
        let none_is : greatest_of levels others ≡ 0 = sym (found_level levels others) ∙ ap (level_of levels) f in
        inr (omega arith, after (sym (ap (λ (o : Option ℕ). Some (better levels n o)) f) ∙ e) c)
    by_best (Some k) f =
        let best : level_at levels k ≡ greatest_of levels others = sym (ap (level_of levels) f) ∙ found_level levels others in
        let whole_is : Some (better levels n (Some k)) ≡ Some j = sym (ap (λ (o : Option ℕ). Some (better levels n o)) f) ∙ e in
        ⊎_elim
        (λ (l : level_at levels n < level_at levels k). inl (omega arith, after (f ∙ (ap Some (sym (cond-true (nat_lt (level_at levels n) (level_at levels k)) k n (lt-ltb (level_at levels n) (level_at levels k) l))) ∙ whole_is)) c))
        (λ (l : level_at levels k ≤ level_at levels n). inr (omega arith, after (ap Some (sym (cond-false (nat_lt (level_at levels n) (level_at levels k)) k n (le-ltb (level_at levels n) (level_at levels k) l))) ∙ whole_is) c))
        (cases_lt (level_at levels n) (level_at levels k))

module _ (units : ℤ → ℕ) (js : List Job) (levels : List ℕ) (least : AreLeast units js (length js) levels) where
  job_level : (n : ℕ) (j : Job) → job_at js n ≡ j → level_at levels n ≡ cost_of units j.synths + greatest_of levels j.before
  job_level n j e = level_is units js levels least n ∙ ap (λ (x : Job). cost_of units x.synths + greatest_of levels x.before) e

  -- what comes after the entry of a row costs as much as the row
  mutual
    pub row_level : (n : ℕ) (e : List ℕ) (r : Row) → Stands (job_at js) n e r → greatest_of levels (last n e r) ≡ greatest_of levels e + (row_weight units r).cost
    row_level n e done s = omega arith
    row_level n e (job vs rest) s = omega (arith, job_level n (job_of vs [] e) s.0, row_level (n + 1) (n ∷ []) rest s.1)
    row_level n e (split lanes ms rest) s = omega (arith, members_level n e ms s.0, job_level (n + size_all ms) (job_of [] lanes (lasts n e ms)) s.1, row_level (n + size_all ms + 1) ((n + size_all ms) ∷ []) rest s.2)

    pub members_level : (n : ℕ) (e : List ℕ) (ms : Members) → StandsAll (job_at js) n e ms → greatest_of levels (lasts n e ms) ≡ greatest_of levels e + (members_weight units ms).cost
    members_level n e (one r) s = row_level n e r s
    members_level n e (more r ms) s =
        omega (arith, greatest-append levels (last n e r) (lasts (n + size r) e ms), row_level n e r s.0, members_level (n + size r) e ms s.1, heavier_cost (row_weight units r) (members_weight units ms))

  -- a trace that comes through a row: what comes before the row, and then the row's chain
  abbrev pub Through : List ℕ → List ℕ → Weight → Type 0
  Through e chain w = (front : List ℕ) × Comes js levels e front × (played js chain ≡ played js front ++ w.chain)

  -- one more job after what comes before it
  behind : (n : ℕ) (e : List ℕ) (vs : List Voice) (lanes : List Moved) (chain : List ℕ) (w : Weight) → job_at js n ≡ job_of vs lanes e → Through (n ∷ []) chain w → (front : List ℕ) × Comes js levels e front × (played js chain ≡ (played js front ++ ids_of vs) ++ w.chain)
  behind n e vs lanes chain w s t =
      let (front, c, is) = comes_one js levels n t.0 t.1 in (
        front,
        subst (λ (l : List ℕ). Comes js levels l front) (ap (λ (j : Job). j.before) s) c,
        t.2 ∙ ap (λ l. l ++ w.chain) (ap (played js) is ∙ (played-append js front (n ∷ []) ∙ ap (λ l. played js front ++ l) (append-nil (job_at js n).synths ∙ ap (λ (j : Job). j.synths) s))),
      )

  mutual
    pub row_chain : (n : ℕ) (e : List ℕ) (r : Row) (chain : List ℕ) → Stands (job_at js) n e r → IsFull r → Comes js levels (last n e r) chain → Through e chain (row_weight units r)
    row_chain n e done chain s f c = (chain, c, sym (append-nil (played js chain)))
    row_chain n e (job vs rest) chain s f c =
        let (front, d, is) = behind n e vs [] chain (row_weight units rest) s.0 (row_chain (n + 1) (n ∷ []) rest chain s.1 f c) in
        (front, d, is ∙ append_assoc (played js front) (ids_of vs) (row_weight units rest).chain)
    row_chain n e (split lanes ms rest) chain s f c =
        let (joint, d, is) = behind (n + size_all ms) (lasts n e ms) [] lanes chain (row_weight units rest) s.1 (row_chain (n + size_all ms + 1) ((n + size_all ms) ∷ []) rest chain s.2 f.1 c) in
        let (front, g, was) = members_chain n e ms joint s.0 f.0 d in (
          front,
          g,
          is ∙ ap (λ l. l ++ (row_weight units rest).chain) (append-nil (played js joint) ∙ was) ∙ append_assoc (played js front) (members_weight units ms).chain (row_weight units rest).chain,
        )

    pub members_chain : (n : ℕ) (e : List ℕ) (ms : Members) (chain : List ℕ) → StandsAll (job_at js) n e ms → AreFull ms → Comes js levels (lasts n e ms) chain → Through e chain (members_weight units ms)
    members_chain n e (one r) chain s f c = row_chain n e r chain s f.1 c
    members_chain n e (more r ms) chain s f c =
        let (m, is) = last_of n e r f.0 in
        let v : Weight = row_weight units r in
        let w : Weight = members_weight units ms in
        let others : List ℕ = lasts (n + size r) e ms in
        let first : greatest_of levels (last n e r) ≡ greatest_of levels e + v.cost = row_level n e r s.0 in
        let here : greatest_of levels (last n e r) ≡ greatest_of levels (m ∷ []) = ap (greatest_of levels) is in
        let later : greatest_of levels others ≡ greatest_of levels e + w.cost = members_level (n + size r) e ms s.1 in
        ⊎_elim
        (λ (h : (level_at levels m < greatest_of levels others) × Comes js levels others chain).
        let l : level_at levels m < greatest_of levels others = h.0 in
        subst (Through e chain) (sym (heavier_later v w (omega arith))) (members_chain (n + size r) e ms chain s.1 f.2 h.1))
        (λ (h : (greatest_of levels others ≤ level_at levels m) × Comes js levels (m ∷ []) chain).
        let l : greatest_of levels others ≤ level_at levels m = h.0 in
        subst (Through e chain) (sym (heavier_first v w (omega arith))) (row_chain n e r chain s.0 f.1 (subst (λ (i : List ℕ). Comes js levels i chain) (sym is) h.1)))
        (comes_first js levels m others chain (subst (λ (i : List ℕ). Comes js levels (i ++ others) chain) is c))

  -- levels rise along a path
  path_rises : {i j : ℕ} → Path (predecessors js) i j → level_at levels i ≤ level_at levels j
  path_rises {i} {j} (step c) = omega (arith, greatest_most levels (predecessors js j) i c, level_is units js levels least j)
  path_rises {i} {j} (next {k = k} p c) = omega (arith, path_rises p, greatest_most levels (predecessors js j) k c, level_is units js levels least j)

-- of all jobs the last one is the first in the trace, if it is the greatest
found_top : (levels : List ℕ) (n : ℕ) → ((j : ℕ) → j < n → level_at levels j ≤ level_at levels n) → first_greatest levels (below (n + 1)) ≡ Some n
found_top levels n h = ap (first_greatest levels) (below_next (n + 1) (omega arith)) ∙ top (n + 1 - 1) (omega arith)
  where
    best : (k : ℕ) (o : Option ℕ) → k ≡ n → first_greatest levels (below k) ≡ o → better levels k o ≡ n
    best k None e f = e
    best k (Some j) e f =
        let l : j < k = (let c : j < ceiling (below k) = below_ceiling (below k) j (found_in levels (below k) j f) in omega (arith, ceiling_below k)) in
        let low : level_at levels j ≤ level_at levels n = h j (omega arith) in
        let same : level_at levels k ≡ level_at levels n = ap (level_at levels) e in
        cond-false (nat_lt (level_at levels k) (level_at levels j)) j k (le-ltb (level_at levels k) (level_at levels j) (omega arith)) ∙ e

    top : (k : ℕ) → k ≡ n → first_greatest levels (k ∷ below k) ≡ Some n
    top k e = ap Some (best k (first_greatest levels (below k)) e refl)

only_first : (js : List Job) (levels is : List ℕ) (m : ℕ) (chain : List ℕ) → first_greatest levels is ≡ Some m → Comes js levels is chain → Comes js levels (m ∷ []) chain
only_first js levels is m chain f none = absurd (cc)
only_first js levels is m chain f (after e c) = after (sym f ∙ e) c

no_last : (r : Row) → size r ≤ 0 → last 0 [] r ≡ []
no_last done l = refl
no_last (job vs rest) l = absurd (omega arith)
no_last (split lanes ms rest) l = absurd (omega arith)

nothing_before : (js : List Job) (levels front : List ℕ) → Comes js levels [] front → front ≡ []
nothing_before js levels front none = refl
nothing_before js levels front (after e c) = absurd (cc)

-- The trace from all jobs of a row.
module _ (units : ℤ → ℕ) (r : Row) (levels : List ℕ) (least : AreLeast units (jobs 0 [] r) (length (jobs 0 [] r)) levels) where
  abbrev all : List Job
  all = jobs 0 [] r

  -- each job is the last one, or stands before it
  before_last : (m k : ℕ) → last 0 [] r ≡ m ∷ [] → k < size r → (k ≤ m) × (level_at levels k ≤ level_at levels m)
  before_last m k is l =
      let (x, c, h) = end (predecessors all) 0 [] r k (fits (job_at all) 0 [] r (whole r)) (omega arith) (omega arith) in
      let same : m ≡ x = only m x (subst (λ (i : List ℕ). Contains i x) is c) in
      let level : level_at levels m ≡ level_at levels x = ap (level_at levels) same in
      ⊎_elim
      (λ (e : k ≡ x). let high : level_at levels k ≡ level_at levels x = ap (level_at levels) e in (omega arith, omega arith))
      (λ (p : Path (predecessors all) k x). let below_it : k < x = path_lower (predecessors all) (row_lower r) p in (omega arith, omega (arith, path_rises units all levels least p)))
      h

  -- the last one has the greatest number
  last_within : (m : ℕ) → last 0 [] r ≡ m ∷ [] → m < size r
  last_within m is =
      ⊎_elim
      (λ (h : (0 ≤ m) × (m < 0 + size r)). omega (arith, h.1))
      (λ (c : Contains [] m). absurd (nothing_in m c))
      (last_in (predecessors all) 0 [] r m (subst (λ (i : List ℕ). Contains i m) (sym is) (itself m)))

  -- so a trace from all jobs is one from the last one
  from_last : (chain : List ℕ) → Comes all levels (below (length all)) chain → Comes all levels (last 0 [] r) chain
  from_last chain c =
      ⊎_elim
      (λ (l : 0 < size r).
      let (m, is) = last_of 0 [] r (omega arith) in
      let within : m < size r = last_within m is in
      let top : size r - 1 ≤ m = (before_last m (size r - 1) is (omega arith)).0 in
      let long : length all ≡ m + 1 = omega (arith, length-jobs 0 [] r) in
      let greatest = found_top levels m (λ j h. (before_last m j is (omega arith)).1) in
      let d : Comes all levels (below (m + 1)) chain = subst (λ (n : ℕ). Comes all levels (below n) chain) long c in
      subst (λ (i : List ℕ). Comes all levels i chain) (sym is) (only_first all levels (below (m + 1)) m chain greatest d))
      (λ (l : size r ≤ 0). none_left l)
      (cases_lt 0 (size r))
    where
      none_left : size r ≤ 0 → Comes all levels (last 0 [] r) chain
      none_left l = let long : length all ≡ 0 = omega (arith, length-jobs 0 [] r) in subst (λ (i : List ℕ). Comes all levels i chain) (sym (no_last r l)) (subst (λ (n : ℕ). Comes all levels (below n) chain) long c)

  pub whole_chain : (chain : List ℕ) → IsFull r → Comes all levels (below (length all)) chain → played all chain ≡ (row_weight units r).chain
  whole_chain chain f c =
      let (front, d, is) = row_chain units all levels least 0 [] r chain (whole r) f (from_last chain c) in
      is ∙ ap (λ l. l ++ (row_weight units r).chain) (ap (played all) (nothing_before all levels front d))

  pub whole_level : greatest_of levels (below (length all)) ≡ (row_weight units r).cost
  whole_level =
      ⊎_elim
      (λ (l : 0 < size r).
      let (m, is) = last_of 0 [] r (omega arith) in
      let within : m < size r = last_within m is in
      let top : size r - 1 ≤ m = (before_last m (size r - 1) is (omega arith)).0 in
      let long : length all ≡ m + 1 = omega (arith, length-jobs 0 [] r) in
      let greatest = found_top levels m (λ j h. (before_last m j is (omega arith)).1) in
      let level : level_at levels m ≡ greatest_of levels (below (m + 1)) = sym (ap (level_of levels) greatest) ∙ found_level levels (below (m + 1)) in
      let same : greatest_of levels (below (length all)) ≡ greatest_of levels (below (m + 1)) = ap (λ n. greatest_of levels (below n)) long in
      let row : greatest_of levels (last 0 [] r) ≡ 0 + (row_weight units r).cost = row_level units all levels least 0 [] r (whole r) in
      let one_is : greatest_of levels (last 0 [] r) ≡ greatest_of levels (m ∷ []) = ap (greatest_of levels) is in
      omega arith)
      (λ (l : size r ≤ 0).
      let long : length all ≡ 0 = omega (arith, length-jobs 0 [] r) in
      let same : greatest_of levels (below (length all)) ≡ 0 = ap (λ n. greatest_of levels (below n)) long in
      let row : greatest_of levels (last 0 [] r) ≡ 0 + (row_weight units r).cost = row_level units all levels least 0 [] r (whole r) in
      let one_is : greatest_of levels (last 0 [] r) ≡ 0 = ap (greatest_of levels) (no_last r l) in
      omega arith)
      (cases_lt 0 (size r))
