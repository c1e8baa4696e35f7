-- No member is without a job, so no predecessor stands twice, and the edges are few.
use Rattle.std.proofs.Common.{◌≡◌, ◌⊎◌, ℕ, ◌+◌, ◌*◌, ◌<◌, ◌≤◌, true, false, List, [], ◌∷◌, ◌++◌, length, Some, None, refl, ap, ◌∙◌, ⊎_elim, inl, inr, arith, length-append}
use Rattle.std.specs.Prelude.{◌==◌}
use Rattle.std.proofs.lemmas.Bool.{cases_lt, cases_Bool, ne_eqb}
use Rattle.sn_mem.specs.declared.moves.Moved.{Moved}
use Rattle.sn_round.specs.declared.jobs.Job.{Job}
use Rattle.sn_round.specs.Jobs.{times}
use Rattle.sn_graph.specs.declared.nodes.Voice.{Voice}
use Rattle.sn_graph.specs.Voices.{HeardNodes, none, synth, group}
use Rattle.sn_graph.specs.Rows.{Row, Members, done, job, split, one, more, job_of, size, size_all, last, lasts, jobs, jobs_all}
use Rattle.sn_graph.specs.Plans.{close, followed, members, joined, keep, row_of, rows_of, edges}
use Rattle.sn_graph.proofs.Shapes.{Fits, FitsAll, IsFull, AreFull}

pub full-followed : (x y : Row) → IsFull x → IsFull y → IsFull (followed x y)
full-followed done y f g = g
full-followed (job ss x) y f g = full-followed x y f g
full-followed (split lanes ms x) y f g = (f.0, full-followed x y f.1 g)

pub full-close : (run : List Voice) (r : Row) → IsFull r → IsFull (close run r)
full-close [] r f = f
full-close (s ∷ ss) r f = f

abbrev pub AllFull : List Row → Type 0
AllFull [] = Unit {0}
AllFull (r ∷ rs) = (1 ≤ size r) × IsFull r × AllFull rs

pub full-members : (r : Row) (rs : List Row) → AllFull (r ∷ rs) → AreFull (members r rs)
full-members r [] f = (f.0, f.1)
full-members r (q ∷ rs) f = (f.0, f.1, full-members q rs f.2)

pub full-joined : (lanes : List Moved) (rs : List Row) → AllFull rs → IsFull (joined lanes rs)
full-joined lanes [] f = tt
full-joined lanes (r ∷ []) f = f.1
full-joined lanes (r ∷ q ∷ rs) f = (full-members r (q ∷ rs) f, tt)

pub full-keep : (r : Row) (rs : List Row) → IsFull r → AllFull rs → AllFull (keep r rs)
full-keep done rs f g = g
full-keep (job ss a) rs f g = (omega arith, f, g)
full-keep (split lanes ms a) rs f g = (omega arith, f, g)

full-after : (run : List Voice) (r rest : Row) → IsFull r → IsFull rest → IsFull (close run (followed r rest))
full-after run r rest f g = full-close run (followed r rest) (full-followed r rest f g)

mutual
  pub full-row : (run : List Voice) (nodes : HeardNodes) → IsFull (row_of run nodes)
  full-row run none = full-close run done tt
  full-row run (synth s rest) = full-row (run ++ s ∷ []) rest
  full-row run (group (Some lanes) inner rest) = full-after run (joined lanes (rows_of inner)) (row_of [] rest) (full-joined lanes (rows_of inner) (full-rows inner)) (full-row [] rest)
  full-row run (group None inner rest) = full-after run (row_of [] inner) (row_of [] rest) (full-row [] inner) (full-row [] rest)

  pub full-rows : (nodes : HeardNodes) → AllFull (rows_of nodes)
  full-rows none = tt
  full-rows (synth s rest) = (omega arith, tt, full-rows rest)
  full-rows (group (Some lanes) inner rest) = full-keep (joined lanes (rows_of inner)) (rows_of rest) (full-joined lanes (rows_of inner) (full-rows inner)) (full-rows rest)
  full-rows (group None inner rest) = full-keep (row_of [] inner) (rows_of rest) (full-row [] inner) (full-rows rest)

-- how many members
abbrev pub count : Members → ℕ
count (one r) = 1
count (more r ms) = 1 + count ms

pub length-last : (n : ℕ) (e : List ℕ) (r : Row) → length e ≤ 1 → length (last n e r) ≤ 1
length-last n e done h = h
length-last n e (job ss rest) h = length-last (n + 1) (n ∷ []) rest (omega arith)
length-last n e (split lanes ms rest) h = length-last (n + size_all ms + 1) ((n + size_all ms) ∷ []) rest (omega arith)

pub length-lasts : (n : ℕ) (e : List ℕ) (ms : Members) → length e ≤ 1 → length (lasts n e ms) ≤ count ms
length-lasts n e (one r) h = length-last n e r h
length-lasts n e (more r ms) h = omega (arith, length-append (last n e r) (lasts (n + size r) e ms), length-last n e r h, length-lasts (n + size r) e ms h)

pub edges-append : (xs ys : List Job) → edges (xs ++ ys) ≡ edges xs + edges ys
edges-append [] ys = omega arith
edges-append (x ∷ xs) ys = omega (arith, edges-append xs ys)

mutual
  pub edges-row : (n : ℕ) (e : List ℕ) (r : Row) → length e ≤ 1 → IsFull r → (edges (jobs n e r) ≤ 2 * size r) × (1 ≤ size r → edges (jobs n e r) + 1 ≤ 2 * size r)
  edges-row n e done h f = (omega arith, λ l. absurd (omega arith))
  edges-row n e (job ss rest) h f =
      let d = edges-row (n + 1) (n ∷ []) rest (omega arith) f in
      let upper : edges (jobs (n + 1) (n ∷ []) rest) ≤ 2 * size rest = d.0 in
      (omega arith, λ l. omega arith)
  edges-row n e (split lanes ms rest) h f =
      let d = edges-row (n + size_all ms + 1) ((n + size_all ms) ∷ []) rest (omega arith) f.1 in
      let upper : edges (jobs (n + size_all ms + 1) ((n + size_all ms) ∷ []) rest) ≤ 2 * size rest = d.0 in
      let within : edges (jobs_all n e ms) + count ms ≤ 2 * size_all ms = edges-all n e ms h f.0 in
      let few : length (lasts n e ms) ≤ count ms = length-lasts n e ms h in
      let sum = edges-append (jobs_all n e ms) (job_of [] lanes (lasts n e ms) ∷ jobs (n + size_all ms + 1) ((n + size_all ms) ∷ []) rest) in
      (omega (arith, sum), λ l. omega (arith, sum))

  pub edges-all : (n : ℕ) (e : List ℕ) (ms : Members) → length e ≤ 1 → AreFull ms → edges (jobs_all n e ms) + count ms ≤ 2 * size_all ms
  edges-all n e (one r) h f = (edges-row n e r h f.1).1 f.0
  edges-all n e (more r ms) h f =
      omega (arith, edges-append (jobs n e r) (jobs_all (n + size r) e ms), (edges-row n e r h f.1).1 f.0, edges-all (n + size r) e ms h f.2)

-- no predecessor stands twice
pub times-append : (x : ℕ) (xs ys : List ℕ) → times x (xs ++ ys) ≡ times x xs + times x ys
times-append x [] ys = omega arith
times-append x (y ∷ xs) ys = omega (arith, times-append x xs ys)

pub times-one : (x y : ℕ) → times x (y ∷ []) ≤ 1
times-one x y = ⊎_elim
    (λ (h : y == x ≡ true). let e : times x (y ∷ []) ≡ 1 = rw h refl in omega arith)
    (λ (h : y == x ≡ false). let e : times x (y ∷ []) ≡ 0 = rw h refl in omega arith)
    (cases_Bool (y == x))

pub times-other : (x y : ℕ) → (y ≡ x → ⊥) → times x (y ∷ []) ≡ 0
times-other x y h = let e : y == x ≡ false = ne_eqb y x h in rw e refl

abbrev pub Outside : ℕ → ℕ → ℕ → Type 0
Outside n size x = (x < n) ⊎ (n + size ≤ x)

pub last_out : (n : ℕ) (e : List ℕ) (r : Row) (x : ℕ) → Outside n (size r) x → times x e ≡ 0 → times x (last n e r) ≡ 0
last_out n e done x o h = h
last_out n e (job ss rest) x o h =
    last_out (n + 1) (n ∷ []) rest x
    (⊎_elim (λ (d : x < n). inl (omega arith)) (λ (d : n + size (job ss rest) ≤ x). inr (omega arith)) o)
    (times-other x n (λ q. ⊎_elim (λ (d : x < n). omega arith) (λ (d : n + size (job ss rest) ≤ x). omega arith) o))
last_out n e (split lanes ms rest) x o h =
    last_out (n + size_all ms + 1) ((n + size_all ms) ∷ []) rest x
    (⊎_elim (λ (d : x < n). inl (omega arith)) (λ (d : n + size (split lanes ms rest) ≤ x). inr (omega arith)) o)
    (times-other x (n + size_all ms) (λ q. ⊎_elim (λ (d : x < n). omega arith) (λ (d : n + size (split lanes ms rest) ≤ x). omega arith) o))

pub full_out : (n : ℕ) (e : List ℕ) (r : Row) (x : ℕ) → 1 ≤ size r → Outside n (size r) x → times x (last n e r) ≡ 0
full_out n e done x l o = absurd (omega arith)
full_out n e (job ss rest) x l o = last_out n [] (job ss rest) x o refl
full_out n e (split lanes ms rest) x l o = last_out n [] (split lanes ms rest) x o refl

pub last_once : (n : ℕ) (e : List ℕ) (r : Row) (x : ℕ) → times x e ≤ 1 → times x (last n e r) ≤ 1
last_once n e done x h = h
last_once n e (job ss rest) x h = last_once (n + 1) (n ∷ []) rest x (times-one x n)
last_once n e (split lanes ms rest) x h = last_once (n + size_all ms + 1) ((n + size_all ms) ∷ []) rest x (times-one x (n + size_all ms))

pub lasts_out : (n : ℕ) (e : List ℕ) (ms : Members) (x : ℕ) → AreFull ms → Outside n (size_all ms) x → times x (lasts n e ms) ≡ 0
lasts_out n e (one r) x f o = full_out n e r x f.0 o
lasts_out n e (more r ms) x f o =
    let here : times x (last n e r) ≡ 0 = full_out n e r x f.0 (⊎_elim (λ (d : x < n). inl d) (λ (d : n + size_all (more r ms) ≤ x). inr (omega arith)) o) in
    let there : times x (lasts (n + size r) e ms) ≡ 0 = lasts_out (n + size r) e ms x f.2 (⊎_elim (λ (d : x < n). inl (omega arith)) (λ (d : n + size_all (more r ms) ≤ x). inr (omega arith)) o) in
    omega (arith, times-append x (last n e r) (lasts (n + size r) e ms))

pub lasts_once : (n : ℕ) (e : List ℕ) (ms : Members) (x : ℕ) → AreFull ms → times x e ≤ 1 → times x (lasts n e ms) ≤ 1
lasts_once n e (one r) x f h = last_once n e r x h
lasts_once n e (more r ms) x f h =
    ⊎_elim
    (λ (g : x < n + size r). omega (arith, times-append x (last n e r) (lasts (n + size r) e ms), last_once n e r x h, lasts_out (n + size r) e ms x f.2 (inl g)))
    (λ (g : n + size r ≤ x). omega (arith, times-append x (last n e r) (lasts (n + size r) e ms), full_out n e r x f.0 (inr g), lasts_once (n + size r) e ms x f.2 h))
    (cases_lt x (n + size r))

module _ (b : ℕ → List ℕ) (x : ℕ) where
  mutual
    pub once : (n : ℕ) (e : List ℕ) (r : Row) (k : ℕ) → Fits b n e r → IsFull r → times x e ≤ 1 → n ≤ k → k < n + size r → times x (b k) ≤ 1
    once n e done k s f h l m = absurd (omega arith)
    once n e (job ss rest) k s f h l m =
        ⊎_elim
        (λ (g : n < k). once (n + 1) (n ∷ []) rest k s.1 f (times-one x n) (omega arith) (omega arith))
        (λ (g : k ≤ n). let q : k ≡ n = omega arith in let t : times x (b k) ≡ times x e = ap (times x) (ap b q ∙ s.0) in omega arith)
        (cases_lt n k)
    once n e (split lanes ms rest) k s f h l m =
        ⊎_elim
        (λ (g : k < n + size_all ms). once_all n e ms k s.0 f.0 h l g)
        (λ (g : n + size_all ms ≤ k). ⊎_elim
        (λ (d : n + size_all ms < k). once (n + size_all ms + 1) ((n + size_all ms) ∷ []) rest k s.2 f.1 (times-one x (n + size_all ms)) (omega arith) (omega arith))
        (λ (d : k ≤ n + size_all ms). let q : k ≡ n + size_all ms = omega arith in
        let t : times x (b k) ≡ times x (lasts n e ms) = ap (times x) (ap b q ∙ s.1) in omega (arith, lasts_once n e ms x f.0 h))
        (cases_lt (n + size_all ms) k))
        (cases_lt k (n + size_all ms))

    pub once_all : (n : ℕ) (e : List ℕ) (ms : Members) (k : ℕ) → FitsAll b n e ms → AreFull ms → times x e ≤ 1 → n ≤ k → k < n + size_all ms → times x (b k) ≤ 1
    once_all n e (one r) k s f h l m = once n e r k s f.1 h l m
    once_all n e (more r ms) k s f h l m =
        ⊎_elim
        (λ (g : k < n + size r). once n e r k s.0 f.1 h l g)
        (λ (g : n + size r ≤ k). once_all (n + size r) e ms k s.1 f.2 h g (omega arith))
        (cases_lt k (n + size r))
