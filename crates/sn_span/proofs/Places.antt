-- Where each job of an unrolled plan stands.
use Rattle.std.proofs.Common.{eq-eqb, Bool, if◌then◌else◌, ◌==◌, ◌/◌, ◌%◌, ◌≡◌, ◌≢◌, ⊎_elim, ℕ, zero, suc, ◌+◌, ◌<◌, ◌≤◌, ◌-◌, List, [], ◌∷◌, ◌++◌, length, sym, ap, ◌∙◌, arith, append-nil, append_assoc}
use Rattle.std.proofs.Math.Nat.{suc-mul}
use Rattle.std.proofs.lemmas.Bool.{cases_eq, cases_lt, ne_eqb}
use Rattle.std.proofs.lemmas.Nat.{div-mul-add, mod-mul-add}
use Rattle.sn_mem.specs.declared.extents.Extent.{Extent}
use Rattle.sn_mem.specs.Blocks.{table}
use Rattle.sn_mem.proofs.Tables.{length-table, table_none, table_more}
use Rattle.sn_mem.proofs.Windows.{table_at}
use Rattle.sn_round.specs.declared.jobs.Job.{Job}
use Rattle.sn_round.specs.Jobs.{job_at, no_job}
use Rattle.sn_span.specs.Unrolling.{by_block, start, job_in, capture_of, block_of, unrolled}

pub start_next : (n k : ℕ) → start n (suc k) ≡ start n k + (n + 1)
start_next n k = suc-mul k (n + 1)

-- a block ends before a later one begins
pub start_less : (n k m : ℕ) → k < m → start n k + n < start n m
start_less n k zero l = absurd (omega arith)
start_less n k (suc m) l = ⊎_elim
    (λ (e : k ≡ m). let same : start n k ≡ start n m = ap (start n) e in omega (arith, same, start_next n m))
    (λ (d : k ≢ m). omega (arith, start_less n k m (omega (arith, l, d)), start_next n m))
    (cases_eq k m)

-- each number below is that of a job of a block, or of its capture
pub place_of : (n blocks j : ℕ) → j < start n blocks → (k : ℕ) × (i : ℕ) × (k < blocks) × (i ≤ n) × (j ≡ start n k + i)
place_of n zero j l = absurd (omega (arith, l))
place_of n (suc b) j l = ⊎_elim
    (λ (m : j < start n b). let (k, i, p, q, e) = place_of n b j m in (k, i, omega (arith, p), q, e))
    (λ (g : start n b ≤ j). (b, j - start n b, omega arith, omega (arith, g, l, start_next n b), omega (arith, g)))
    (cases_lt j (start n b))

-- ---- by blocks

pub block_job : {A : Type 0} → (job : ℕ → ℕ → A) (capture : ℕ → A) (n k i : ℕ) → i < n → by_block job capture n (start n k + i) ≡ job k i
block_job {A} job capture n k i l =
    let d : (start n k + i) / (n + 1) ≡ k = div-mul-add k (n + 1) i (omega (arith, l)) in
    let m : (start n k + i) % (n + 1) ≡ i = mod-mul-add k (n + 1) i (omega (arith, l)) in
    let other : i ≢ n = λ (e : i ≡ n). absurd (omega (arith, e, l)) in
    ap {B = A} (λ (b : Bool). if b then capture ((start n k + i) / (n + 1)) else job ((start n k + i) / (n + 1)) ((start n k + i) % (n + 1))) (ap (λ r. r == n) m ∙ ne_eqb i n other)
    ∙ (ap (λ q. job q ((start n k + i) % (n + 1))) d ∙ ap (job k) m)

pub block_capture : {A : Type 0} → (job : ℕ → ℕ → A) (capture : ℕ → A) (n k : ℕ) → by_block job capture n (start n k + n) ≡ capture k
block_capture {A} job capture n k =
    let d : (start n k + n) / (n + 1) ≡ k = div-mul-add k (n + 1) n (omega arith) in
    let m : (start n k + n) % (n + 1) ≡ n = mod-mul-add k (n + 1) n (omega arith) in
    ap {B = A} (λ (b : Bool). if b then capture ((start n k + n) / (n + 1)) else job ((start n k + n) / (n + 1)) ((start n k + n) % (n + 1))) (eq-eqb ((start n k + n) % (n + 1)) n m)
    ∙ ap capture d

-- a table goes on with another
table_on : {A : Type 0} (f g : ℕ → A) (s m : ℕ) → ((i : ℕ) → i < m → f (s + i) ≡ g i) → table f (s + m) ≡ table f s ++ table g m
unfolding table
table_on f g s zero h = let e : s + 0 ≡ s = omega arith in ap (table f) e ∙ sym (append-nil (table f s))
table_on {A} f g s (suc m) h =
    let e : s + suc m ≡ suc (s + m) = omega arith in
    ap (table f) e
    ∙ (ap (λ (x : A). table f (s + m) ++ x ∷ []) (h m (omega arith))
    ∙ (ap (λ (xs : List A). xs ++ g m ∷ []) (table_on f g s m (λ i l. h i (omega (arith, l))))
    ∙ append_assoc (table f s) (table g m) (g m ∷ [])))

-- one more after others
pub table_behind : {A : Type 0} (f : ℕ → A) (k : ℕ) (old xs ys : List A) (y : A) → xs ≡ old ++ table f k → y ≡ f k → ys ≡ xs ++ y ∷ [] → ys ≡ old ++ table f (k + 1)
table_behind {A} f k old xs ys y e h put =
    put
    ∙ (ap (λ (zs : List A). zs ++ y ∷ []) e
    ∙ (append_assoc old (table f k) (y ∷ [])
    ∙ (ap (λ (x : A). old ++ (table f k ++ x ∷ [])) h
    ∙ ap (λ (zs : List A). old ++ zs) (sym (table_more f k)))))

module _ (jobs : List Job) (outputs : List Extent) (at : ℕ) where
  abbrev n : ℕ
  n = length jobs

  abbrev each : ℕ → Job
  each = by_block (job_in jobs) (capture_of jobs outputs at) n

  pub length-unrolled : (blocks : ℕ) → length (unrolled jobs outputs at blocks) ≡ start n blocks
  unfolding unrolled
  length-unrolled blocks = length-table each (start n blocks)

  -- the jobs of a block, and its capture
  pub at_job : (blocks k i : ℕ) → k < blocks → i < n → job_at (unrolled jobs outputs at blocks) (start n k + i) ≡ job_in jobs k i
  unfolding unrolled
  at_job blocks k i l m = table_at each (start n blocks) (start n k + i) no_job (omega (arith, start_less n k blocks l, m)) ∙ block_job (job_in jobs) (capture_of jobs outputs at) n k i m

  pub at_capture : (blocks k : ℕ) → k < blocks → job_at (unrolled jobs outputs at blocks) (start n k + n) ≡ capture_of jobs outputs at k
  unfolding unrolled
  at_capture blocks k l = table_at each (start n blocks) (start n k + n) no_job (start_less n k blocks l) ∙ block_capture (job_in jobs) (capture_of jobs outputs at) n k

  pub unrolled_none : unrolled jobs outputs at 0 ≡ []
  unfolding unrolled
  unrolled_none = let e : start n 0 ≡ 0 = omega arith in ap (table each) e ∙ table_none each

  -- one block more
  pub unrolled_more : (k : ℕ) → unrolled jobs outputs at (k + 1) ≡ unrolled jobs outputs at k ++ block_of jobs outputs at k
  unfolding unrolled
  unrolled_more k =
      let s : k + 1 ≡ suc k = omega arith in
      let e : start n (suc k) ≡ start n k + n + 1 = omega (arith, start_next n k) in
      ap (λ m. table each (start n m)) s
      ∙ (ap (table each) e
      ∙ (table_more each (start n k + n)
      ∙ (ap (λ (x : Job). table each (start n k + n) ++ x ∷ []) (block_capture (job_in jobs) (capture_of jobs outputs at) n k)
      ∙ (ap (λ (xs : List Job). xs ++ capture_of jobs outputs at k ∷ []) (table_on each (job_in jobs k) (start n k) n (λ i l. block_job (job_in jobs) (capture_of jobs outputs at) n k i l))
      ∙ append_assoc (table each (start n k)) (table (job_in jobs k) n) (capture_of jobs outputs at k ∷ [])))))
