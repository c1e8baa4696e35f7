-- The order of the jobs of an unrolled plan.
use Rattle.std.proofs.Common.{◌≡◌, ◌≢◌, ◌⊎◌, inl, inr, ⊎_elim, ℕ, zero, suc, ◌+◌, ◌<◌, ◌≤◌, List, [], ◌∷◌, length, get_or, refl, sym, ap, subst, ◌∙◌, arith, eq-eqb}
use Rattle.std.specs.Prelude.{Contains, map}
use Rattle.std.specs.List.{All}
use Rattle.std.proofs.lemmas.List.{get_or_default}
use Rattle.std.proofs.lemmas.Bool.{cases_eq, cases_lt}
use Rattle.sn_mem.specs.declared.extents.Extent.{Extent}
use Rattle.sn_mem.specs.declared.extents.Foot.{Foot}
use Rattle.sn_mem.specs.Words.{Clash}
use Rattle.sn_round.specs.declared.jobs.Job.{Job}
use Rattle.sn_round.specs.Jobs.{AreJobs, IsRaceFree, Ordered, direct, through, foot_at, predecessors, successors}
use Rattle.sn_round.proofs.Orders.{nothing_in, lower}
use Rattle.sn_round.proofs.Following.{inverse}
use Rattle.sn_span.specs.Unrolling.{start, entry, predecessors_in, last_jobs, unrolled}
use Rattle.sn_span.proofs.Places.{length-unrolled, at_job, at_capture, place_of}
use Rattle.sn_span.proofs.Lasts.{in_last, of_last}

-- ---- predecessors

in_moved : (s : ℕ) (ps : List ℕ) (p : ℕ) → Contains ps p → Contains (map (λ q. s + q) ps) (s + p)
in_moved s [] p c = absurd (nothing_in p c)
in_moved s (q ∷ ps) p (zero, l, e) = (0, omega arith, ap (λ n. s + n) e)
in_moved s (q ∷ ps) p (suc k, l, e) = let c = in_moved s ps p (k, omega arith, e) in (suc c.0, omega (arith, c.1), c.2)

pub of_moved : (s : ℕ) (ps : List ℕ) (x : ℕ) → Contains (map (λ q. s + q) ps) x → (p : ℕ) × Contains ps p × (x ≡ s + p)
of_moved s [] x c = absurd (nothing_in x c)
of_moved s (q ∷ ps) x (zero, l, e) = (q, (0, omega arith, refl), sym e)
of_moved s (q ∷ ps) x (suc k, l, e) = let (p, c, is) = of_moved s ps x (k, omega arith, e) in (p, (suc c.0, omega (arith, c.1), c.2), is)

has_own : (n k : ℕ) (before : List ℕ) (p : ℕ) → Contains before p → Contains (predecessors_in n k before) (start n k + p)
unfolding predecessors_in
has_own n k [] p c = absurd (nothing_in p c)
has_own n k (q ∷ ps) p c = in_moved (start n k) (q ∷ ps) p c

has_entry : (n k : ℕ) (before : List ℕ) → before ≡ [] → Contains (predecessors_in n (suc k) before) (start n k + n)
unfolding predecessors_in entry
has_entry n k [] e = (0, omega arith, refl)
has_entry n k (q ∷ ps) e = let long : length (q ∷ ps) ≡ length {A = ℕ} [] = ap length e in absurd (omega (arith, long))

-- each is the entry, or one of the same block
pub of_predecessors : (n k : ℕ) (before : List ℕ) (x : ℕ) → Contains (predecessors_in n k before) x → Contains (entry n k) x ⊎ ((p : ℕ) × Contains before p × (x ≡ start n k + p))
unfolding predecessors_in
of_predecessors n k [] x c = inl c
of_predecessors n k (q ∷ ps) x c = inr (of_moved (start n k) (q ∷ ps) x c)

-- a list is empty, or has a first
first_of : (xs : List ℕ) → (xs ≡ []) ⊎ ((x : ℕ) × Contains xs x)
first_of [] = inl refl
first_of (x ∷ xs) = inr (x, (0, omega arith, refl))

after_all : (jobs : List Job) {i j k : ℕ} → Ordered jobs i j → Ordered jobs j k → Ordered jobs i k
after_all jobs a (direct c) = through a c
after_all jobs a (through b c) = through (after_all jobs a b) c

-- if a block has room, so have its predecessors
pub all_lower : (jobs : List Job) (s j : ℕ) → AreJobs jobs → j < length jobs → s + length jobs < 4294967296 → All (λ p. s + p < 4294967296) (predecessors jobs j)
all_lower jobs s j are l room k d m =
    let p : ℕ = get_or (predecessors jobs j) k d in
    let down : p < j = are.lower p j l (k, m, get_or_default (predecessors jobs j) k p d m) in
    omega (arith, down, l, room)

pub all_last : (jobs : List Job) (s : ℕ) → s + length jobs < 4294967296 → All (λ p. s + p < 4294967296) (last_jobs jobs)
all_last jobs s room k d m =
    let p : ℕ = get_or (last_jobs jobs) k d in
    let down : p < length jobs = of_last jobs p (k, m, get_or_default (last_jobs jobs) k p d m) in
    omega (arith, down, room)

-- ---- the order

module _ (jobs : List Job) (outputs : List Extent) (at blocks : ℕ) (are : AreJobs jobs) where
  abbrev n : ℕ
  n = length jobs

  abbrev all : List Job
  all = unrolled jobs outputs at blocks

  -- what is a predecessor in the plan is one in each block
  before_job : (k i p : ℕ) → k < blocks → i < n → Contains (predecessors jobs i) p → Contains (predecessors all (start n k + i)) (start n k + p)
  before_job k i p l m c = subst (λ (x : Job). Contains x.before (start n k + p)) (sym (at_job jobs outputs at blocks k i l m)) (has_own n k (predecessors jobs i) p c)

  in_block : (k : ℕ) {i j : ℕ} → k < blocks → j < n → Ordered jobs i j → Ordered all (start n k + i) (start n k + j)
  in_block k {i} {j} l m (direct c) = direct (before_job k j i l m c)
  in_block k {i} {j} l m (through {k = h} o c) = let b : h < j = lower jobs are h j c in through (in_block k l (omega (arith, b, m)) o) (before_job k j h l m c)

  -- each job of a block comes before its capture, going on from job to successor
  up_to_capture : (k fuel i : ℕ) → k < blocks → i < n → n ≤ i + fuel → Ordered all (start n k + i) (start n k + n)
  up_to_capture k zero i l m f = absurd (omega arith)
  up_to_capture k (suc fuel) i l m f = ⊎_elim
      (λ (e : successors jobs i ≡ []).
      let last : Contains (last_jobs jobs) i = in_last jobs i m (eq-eqb (length (successors jobs i)) 0 (ap length e)) in
      direct (subst (λ (x : Job). Contains x.before (start n k + i)) (sym (at_capture jobs outputs at blocks k l)) (has_own n k (last_jobs jobs) i last)))
      (λ (h : (j : ℕ) × Contains (successors jobs i) j).
      let j : ℕ = h.0 in
      let is = (inverse jobs i j).0 h.1 in
      let up : i < j = are.lower i j is.0 is.1 in
      after_all all (direct (before_job k j i l is.0 is.1)) (up_to_capture k fuel j l is.0 (omega (arith, f, up))))
      (first_of (successors jobs i))

  pub before_capture : (k i : ℕ) → k < blocks → i < n → Ordered all (start n k + i) (start n k + n)
  before_capture k i l m = up_to_capture k n i l m (omega arith)

  -- and after the capture of the block before, going back from job to predecessor
  down_to_capture : (k fuel i : ℕ) → suc k < blocks → i < n → i < fuel → Ordered all (start n k + n) (start n (suc k) + i)
  down_to_capture k zero i l m f = absurd (omega arith)
  down_to_capture k (suc fuel) i l m f = ⊎_elim
      (λ (e : predecessors jobs i ≡ []). direct (subst (λ (x : Job). Contains x.before (start n k + n)) (sym (at_job jobs outputs at blocks (suc k) i l m)) (has_entry n k (predecessors jobs i) e)))
      (λ (h : (p : ℕ) × Contains (predecessors jobs i) p).
      let p : ℕ = h.0 in
      let down : p < i = are.lower p i m h.1 in
      through (down_to_capture k fuel p l (omega (arith, down, m)) (omega (arith, down, f))) (before_job (suc k) i p l m h.1))
      (first_of (predecessors jobs i))

  -- a capture follows the last job of its block, or the capture before if there is none
  capture_next : (k : ℕ) → suc k < blocks → Ordered all (start n k + n) (start n (suc k) + n)
  capture_next k l = ⊎_elim
      (λ (e : last_jobs jobs ≡ []). direct (subst (λ (x : Job). Contains x.before (start n k + n)) (sym (at_capture jobs outputs at blocks (suc k) l)) (has_entry n k (last_jobs jobs) e)))
      (λ (h : (i : ℕ) × Contains (last_jobs jobs) i).
      let i : ℕ = h.0 in
      let m : i < n = of_last jobs i h.1 in
      after_all all (down_to_capture k (suc i) i l m (omega arith)) (before_capture (suc k) i l m))
      (first_of (last_jobs jobs))

  next_block : (k i : ℕ) → suc k < blocks → i ≤ n → Ordered all (start n k + n) (start n (suc k) + i)
  next_block k i l m = ⊎_elim
      (λ (b : i < n). down_to_capture k (suc i) i l b (omega arith))
      (λ (g : n ≤ i). let e : n ≡ i = omega (arith, g, m) in subst (λ j. Ordered all (start n k + n) (start n (suc k) + j)) e (capture_next k l))
      (cases_lt i n)

  pub after_capture : (k h i : ℕ) → k < h → h < blocks → i ≤ n → Ordered all (start n k + n) (start n h + i)
  after_capture k zero i u l m = absurd (omega arith)
  after_capture k (suc h) i u l m = ⊎_elim
      (λ (e : k ≡ h). subst (λ j. Ordered all (start n j + n) (start n (suc h) + i)) (sym e) (next_block h i l m))
      (λ (d : k ≢ h). after_all all (after_capture k h n (omega (arith, u, d)) (omega (arith, l)) (omega arith)) (next_block h i l m))
      (cases_eq k h)

  -- a job of a block and one of a later block
  across : (k i h j : ℕ) → k < h → h < blocks → i ≤ n → j ≤ n → Ordered all (start n k + i) (start n h + j)
  across k i h j u l a b = ⊎_elim
      (λ (m : i < n). after_all all (before_capture k i (omega (arith, u, l)) m) (after_capture k h j u l b))
      (λ (g : n ≤ i). let e : n ≡ i = omega (arith, g, a) in subst (λ m. Ordered all (start n k + m) (start n h + j)) e (after_capture k h j u l b))
      (cases_lt i n)

  abbrev Either : ℕ → ℕ → Type 0
  Either a b = Ordered all a b ⊎ Ordered all b a

  same_foot : (k i : ℕ) → k < blocks → i < n → foot_at all (start n k + i) ≡ foot_at jobs i
  same_foot k i l m = ap (λ (x : Job). x.foot) (at_job jobs outputs at blocks k i l m)

  in_one_block : (k i j : ℕ) → IsRaceFree jobs → k < blocks → i ≤ n → j ≤ n → i ≢ j → Clash (foot_at all (start n k + i)) (foot_at all (start n k + j)) → Either (start n k + i) (start n k + j)
  in_one_block k i j free l a b d clash = ⊎_elim
      (λ (m : i < n). ⊎_elim
      (λ (o : j < n). ⊎_elim
      (λ (r : Ordered jobs i j). inl (in_block k l o r))
      (λ (r : Ordered jobs j i). inr (in_block k l m r))
      (free i j m o d (subst (λ (f : Foot). Clash f (foot_at jobs j)) (same_foot k i l m) (subst (λ (f : Foot). Clash (foot_at all (start n k + i)) f) (same_foot k j l o) clash))))
      (λ (g : n ≤ j). let e : n ≡ j = omega (arith, g, b) in inl (subst (λ p. Ordered all (start n k + i) (start n k + p)) e (before_capture k i l m)))
      (cases_lt j n))
      (λ (g : n ≤ i). let e : n ≡ i = omega (arith, g, a) in inr (subst (λ p. Ordered all (start n k + j) (start n k + p)) e (before_capture k j l (omega (arith, d, e, b)))))
      (cases_lt i n)

  pub race_free : IsRaceFree jobs → IsRaceFree all
  race_free free x y l m d clash =
      let long : length all ≡ start n blocks = length-unrolled jobs outputs at blocks in
      let (k, i, p, a, e) = place_of n blocks x (omega (arith, l, long)) in
      let (h, j, q, b, f) = place_of n blocks y (omega (arith, m, long)) in
      subst (λ u. Either u y) (sym e) (subst (λ v. Either (start n k + i) v) (sym f)
      (⊎_elim
      (λ (u : k < h). inl (across k i h j u q a b))
      (λ (u : h ≤ k). ⊎_elim
      (λ (v : h < k). inr (across h j k i v p b a))
      (λ (v : k ≤ h).
      let s : h ≡ k = omega (arith, u, v) in
      subst (λ t. Either (start n k + i) (start n t + j)) (sym s)
      (in_one_block k i j free p a b
      (λ (same : i ≡ j). d (e ∙ (ap (λ t. start n k + t) same ∙ (ap (λ t. start n t + j) (sym s) ∙ sym f))))
      (subst (λ t. Clash (foot_at all (start n k + i)) (foot_at all (start n t + j))) s (subst (λ v. Clash (foot_at all (start n k + i)) (foot_at all v)) f (subst (λ u. Clash (foot_at all u) (foot_at all y)) e clash)))))
      (cases_lt h k))
      (cases_lt k h)))
