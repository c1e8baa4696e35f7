-- The successors of the jobs of an unrolled plan.
use Rattle.std.proofs.Common.{◌≡◌, ◌≢◌, ⊎_elim, ℕ, zero, suc, ◌+◌, ◌<◌, ◌≤◌, ◌==◌, Bool, true, false, ◌||◌, cond, List, [], ◌∷◌, ◌++◌, length, refl, sym, ap, ◌∙◌, arith, append-nil, append_assoc, eq-eqb}
use Rattle.std.specs.Prelude.{Contains, map}
use Rattle.std.proofs.lemmas.Bool.{cases_eq, cases_lt, ne_eqb}
use Rattle.std.proofs.lemmas.List.{map-append}
use Rattle.sn_mem.specs.declared.extents.Extent.{Extent}
use Rattle.sn_round.specs.declared.jobs.Job.{Job}
use Rattle.sn_round.specs.Jobs.{AreJobs, is_in, predecessors, successors, successors_from}
use Rattle.sn_span.specs.Unrolling.{entries, entry, last_jobs, predecessors_in, start, unrolled}
use Rattle.sn_span.proofs.Lasts.{ends, next_passing, none_passing, of_last, of_passing, passing}
use Rattle.sn_span.proofs.Listing.{entry_below}
use Rattle.sn_span.proofs.Orders.{of_moved}
use Rattle.sn_span.proofs.Places.{at_capture, at_job, length-unrolled, start_less, start_next}

-- ---- the numbers below another that pass a test, each as a function gives it

unfoldable hits : (ℕ → ℕ) → (ℕ → Bool) → ℕ → List ℕ
hits f t zero = []
hits f t (suc n) = hits f t n ++ cond (t n) (f n ∷ []) []

hits_same : (f g : ℕ → ℕ) (t u : ℕ → Bool) (n : ℕ) → ((i : ℕ) → i < n → f i ≡ g i) → ((i : ℕ) → i < n → t i ≡ u i) → hits f t n ≡ hits g u n
unfolding hits
hits_same f g t u zero p q = refl
hits_same f g t u (suc n) p q =
    ap (λ (xs : List ℕ). xs ++ cond (t n) (f n ∷ []) []) (hits_same f g t u n (λ i l. p i (omega (arith, l))) (λ i l. q i (omega (arith, l))))
    ∙ (ap (λ x. hits g u n ++ cond (t n) (x ∷ []) []) (p n (omega arith))
    ∙ ap (λ (b : Bool). hits g u n ++ cond b (g n ∷ []) []) (q n (omega arith)))

-- the first, and then the others
hits_front : (f : ℕ → ℕ) (t : ℕ → Bool) (n : ℕ) → hits f t (suc n) ≡ cond (t 0) (f 0 ∷ []) [] ++ hits (λ i. f (suc i)) (λ i. t (suc i)) n
unfolding hits
hits_front f t zero = sym (append-nil (cond (t 0) (f 0 ∷ []) []))
hits_front f t (suc n) =
    ap (λ (xs : List ℕ). xs ++ cond (t (suc n)) (f (suc n) ∷ []) []) (hits_front f t n)
    ∙ append_assoc (cond (t 0) (f 0 ∷ []) []) (hits (λ i. f (suc i)) (λ i. t (suc i)) n) (cond (t (suc n)) (f (suc n) ∷ []) [])

-- so many, and then more
hits_on : (f : ℕ → ℕ) (t : ℕ → Bool) (a m : ℕ) → hits f t (a + m) ≡ hits f t a ++ hits (λ i. f (a + i)) (λ i. t (a + i)) m
unfolding hits
hits_on f t a zero = let e : a + 0 ≡ a = omega arith in ap (hits f t) e ∙ sym (append-nil (hits f t a))
hits_on f t a (suc m) =
    let e : a + suc m ≡ suc (a + m) = omega arith in
    ap (hits f t) e
    ∙ (ap (λ (xs : List ℕ). xs ++ cond (t (a + m)) (f (a + m) ∷ []) []) (hits_on f t a m)
    ∙ append_assoc (hits f t a) (hits (λ i. f (a + i)) (λ i. t (a + i)) m) (cond (t (a + m)) (f (a + m) ∷ []) []))

hits_none : (f : ℕ → ℕ) (t : ℕ → Bool) (n : ℕ) → ((i : ℕ) → i < n → t i ≡ false) → hits f t n ≡ []
unfolding hits
hits_none f t zero q = refl
hits_none f t (suc n) q =
    ap (λ (xs : List ℕ). xs ++ cond (t n) (f n ∷ []) []) (hits_none f t n (λ i l. q i (omega (arith, l))))
    ∙ ap {B = List ℕ} (λ (b : Bool). cond b (f n ∷ []) []) (q n (omega arith))

moved_one : (s n : ℕ) (b : Bool) → cond b ((s + n) ∷ []) [] ≡ map (λ q. s + q) (cond b (n ∷ []) [])
moved_one s n true = refl
moved_one s n false = refl

hits_moved : (s : ℕ) (t : ℕ → Bool) (n : ℕ) → hits (λ i. s + i) t n ≡ map (λ q. s + q) (hits (λ i. i) t n)
unfolding hits
hits_moved s t zero = refl
hits_moved s t (suc n) =
    ap (λ (xs : List ℕ). xs ++ cond (t n) ((s + n) ∷ []) []) (hits_moved s t n)
    ∙ (ap (λ (ys : List ℕ). map (λ q. s + q) (hits (λ i. i) t n) ++ ys) (moved_one s n (t n))
    ∙ sym (map-append (λ q. s + q) (hits (λ i. i) t n) (cond (t n) (n ∷ []) [])))

passing_are : (p : ℕ → Bool) (n : ℕ) → passing p n ≡ hits (λ i. i) p n
unfolding hits
passing_are p zero = none_passing p
passing_are p (suc n) =
    let s : suc n ≡ n + 1 = omega arith in
    ap (passing p) s ∙ (next_passing p n ∙ ap (λ (xs : List ℕ). xs ++ cond (p n) (n ∷ []) []) (passing_are p n))

-- ---- successors are the jobs that have a job as a predecessor

from_are : (k : ℕ) (jobs : List Job) (j : ℕ) → successors_from k jobs j ≡ hits (λ i. k + i) (λ i. is_in j (predecessors jobs i)) (length jobs)
unfolding hits
from_are k [] j = refl
from_are k (job ∷ jobs) j =
    let own : ℕ → List ℕ = λ m. cond (is_in j job.before) (m ∷ []) [] in
    let test : ℕ → Bool = λ i. is_in j (predecessors jobs i) in
    let first : k ≡ k + 0 = omega arith in
    ap (λ (xs : List ℕ). own k ++ xs) (from_are (k + 1) jobs j ∙ hits_same (λ i. k + 1 + i) (λ i. k + suc i) test test (length jobs) (λ i l. omega arith) (λ i l. refl))
    ∙ (ap (λ m. own m ++ hits (λ i. k + suc i) test (length jobs)) first
    ∙ sym (hits_front (λ i. k + i) (λ i. is_in j (predecessors (job ∷ jobs) i)) (length jobs)))

successors_are : (jobs : List Job) (j : ℕ) → successors jobs j ≡ hits (λ i. i) (λ i. is_in j (predecessors jobs i)) (length jobs)
successors_are jobs j =
    let test : ℕ → Bool = λ i. is_in j (predecessors jobs i) in
    from_are 0 jobs j ∙ hits_same (λ i. 0 + i) (λ i. i) test test (length jobs) (λ i l. omega arith) (λ i l. refl)

-- ---- whether a number is in a list

or_assoc : (a b c : Bool) → ((a || b) || c) ≡ (a || (b || c))
or_assoc true b c = refl
or_assoc false b c = refl

in_append : (x : ℕ) (xs ys : List ℕ) → is_in x (xs ++ ys) ≡ (is_in x xs || is_in x ys)
in_append x [] ys = refl
in_append x (z ∷ xs) ys = ap (λ b. (z == x) || b) (in_append x xs ys) ∙ sym (or_assoc (z == x) (is_in x xs) (is_in x ys))

none_in : (x : ℕ) (xs : List ℕ) → ((y : ℕ) → Contains xs y → y ≢ x) → is_in x xs ≡ false
none_in x [] h = refl
none_in x (y ∷ xs) h = ap (λ b. b || is_in x xs) (ne_eqb y x (h y (0, omega arith, refl))) ∙ none_in x xs (λ z c. h z (suc c.0, omega (arith, c.1), c.2))

moved_equal : (s p x : ℕ) → (s + p == s + x) ≡ (p == x)
moved_equal s p x = ⊎_elim
    (λ (e : p ≡ x). eq-eqb (s + p) (s + x) (ap (λ n. s + n) e) ∙ sym (eq-eqb p x e))
    (λ (d : p ≢ x). ne_eqb (s + p) (s + x) (λ (e : s + p ≡ s + x). d (omega (arith, e))) ∙ sym (ne_eqb p x d))
    (cases_eq p x)

in_shifted : (s x : ℕ) (ps : List ℕ) → is_in (s + x) (map (λ q. s + q) ps) ≡ is_in x ps
in_shifted s x [] = refl
in_shifted s x (p ∷ ps) = ap (λ b. b || is_in (s + x) (map (λ q. s + q) ps)) (moved_equal s p x) ∙ ap (λ b. (p == x) || b) (in_shifted s x ps)

in_alone : (x m : ℕ) (b : Bool) → x ≢ m → is_in x (cond b (m ∷ []) []) ≡ false
in_alone x m true d = ap (λ c. c || false) (ne_eqb m x (λ (e : m ≡ x). d (sym e)))
in_alone x m false d = refl

own_alone : (m : ℕ) (b : Bool) → is_in m (cond b (m ∷ []) []) ≡ b
own_alone m true = ap (λ c. c || false) (eq-eqb m m refl)
own_alone m false = refl

or_false : (b : Bool) → (b || false) ≡ b
or_false true = refl
or_false false = refl

-- a number below another is among those that pass exactly if it passes
in_passing_is : (p : ℕ → Bool) (m i : ℕ) → i < m → is_in i (passing p m) ≡ p i
in_passing_is p zero i l = absurd (omega (arith, l))
in_passing_is p (suc m) i l =
    let s : suc m ≡ m + 1 = omega arith in
    ap (λ k. is_in i (passing p k)) s
    ∙ (ap (is_in i) (next_passing p m)
    ∙ (in_append i (passing p m) (cond (p m) (m ∷ []) [])
    ∙ ⊎_elim
    (λ (e : i ≡ m).
    ap (λ b. b || is_in i (cond (p m) (m ∷ []) [])) (none_in i (passing p m) (λ y c (same : y ≡ i). let low : y < m = of_passing p m y c in absurd (omega (arith, low, same, e))))
    ∙ (ap (λ k. is_in k (cond (p m) (m ∷ []) [])) e ∙ (own_alone m (p m) ∙ ap p (sym e))))
    (λ (d : i ≢ m).
    ap (λ b. is_in i (passing p m) || b) (in_alone i m (p m) d) ∙ (or_false (is_in i (passing p m)) ∙ in_passing_is p m i (omega (arith, l, d))))
    (cases_eq i m)))

-- ---- numbers of different places differ

apart : (n h k i j : ℕ) → h ≢ k → i ≤ n → j ≤ n → start n h + i ≢ start n k + j
apart n h k i j d p q e = ⊎_elim
    (λ (l : h < k). absurd (omega (arith, start_less n h k l, e, p)))
    (λ (g : k ≤ h). absurd (omega (arith, start_less n k h (omega (arith, g, d)), e, q)))
    (cases_lt h k)

-- the entry of a block is the capture of the one before
of_entry : (n h y : ℕ) → Contains (entry n h) y → (g : ℕ) × (h ≡ suc g) × (y ≡ start n g + n)
unfolding entry
of_entry n zero y (k, l, e) = absurd (omega (arith, l))
of_entry n (suc g) y (zero, l, e) = (g, refl, sym e)
of_entry n (suc g) y (suc k, l, e) = absurd (omega (arith, l))

-- ---- tests of predecessors

AllBelow : ℕ → List ℕ → Type 0
AllBelow n ps = (p : ℕ) → Contains ps p → p < n

own_test : (n k i : ℕ) (ps : List ℕ) → is_in (start n k + i) (predecessors_in n k ps) ≡ is_in i ps
unfolding predecessors_in
own_test n k i [] = none_in (start n k + i) (entry n k) (λ y c (e : y ≡ start n k + i). let low : y < start n k = entry_below n k y c in absurd (omega (arith, low, e)))
own_test n k i (p ∷ ps) = in_shifted (start n k) i (p ∷ ps)

other_test : (n h k i : ℕ) (ps : List ℕ) → h ≢ k → i < n → AllBelow n ps → is_in (start n k + i) (predecessors_in n h ps) ≡ false
unfolding predecessors_in AllBelow
other_test n h k i [] d l below = none_in (start n k + i) (entry n h) (λ y c (e : y ≡ start n k + i).
    let (g, is, at) = of_entry n h y c in ⊎_elim
    (λ (same : g ≡ k). let here : start n g ≡ start n k = ap (start n) same in absurd (omega (arith, at, e, here, l)))
    (λ (other : g ≢ k). apart n g k n i other (omega arith) (omega (arith, l)) (sym at ∙ e))
    (cases_eq g k))
other_test n h k i (p ∷ ps) d l below = none_in (start n k + i) (map (λ q. start n h + q) (p ∷ ps)) (λ y c (e : y ≡ start n k + i).
    let (q, m, at) = of_moved (start n h) (p ∷ ps) y c in
    let low : q < n = below q m in
    apart n h k q i d (omega (arith, low)) (omega (arith, l)) (sym at ∙ e))

capture_other : (n h k : ℕ) (ps : List ℕ) → h ≢ suc k → AllBelow n ps → is_in (start n k + n) (predecessors_in n h ps) ≡ false
unfolding predecessors_in AllBelow
capture_other n h k [] d below = none_in (start n k + n) (entry n h) (λ y c (e : y ≡ start n k + n).
    let (g, is, at) = of_entry n h y c in ⊎_elim
    (λ (same : g ≡ k). absurd (d (is ∙ ap suc same)))
    (λ (other : g ≢ k). apart n g k n n other (omega arith) (omega arith) (sym at ∙ e))
    (cases_eq g k))
capture_other n h k (p ∷ ps) d below = none_in (start n k + n) (map (λ q. start n h + q) (p ∷ ps)) (λ y c (e : y ≡ start n k + n).
    let (q, m, at) = of_moved (start n h) (p ∷ ps) y c in
    let low : q < n = below q m in ⊎_elim
    (λ (same : h ≡ k). let here : start n h ≡ start n k = ap (start n) same in absurd (omega (arith, at, e, here, low)))
    (λ (other : h ≢ k). apart n h k q n other (omega (arith, low)) (omega arith) (sym at ∙ e))
    (cases_eq h k))

capture_next : (n k : ℕ) (ps : List ℕ) → AllBelow n ps → is_in (start n k + n) (predecessors_in n (suc k) ps) ≡ (length ps == 0)
unfolding predecessors_in entry AllBelow
capture_next n k [] below = ap (λ b. b || false) (eq-eqb (start n k + n) (start n k + n) refl)
capture_next n k (p ∷ ps) below = none_in (start n k + n) (map (λ q. start n (suc k) + q) (p ∷ ps)) (λ y c (e : y ≡ start n k + n).
    let (q, m, at) = of_moved (start n (suc k)) (p ∷ ps) y c in absurd (omega (arith, at, e, start_next n k)))
    ∙ sym (ne_eqb (length (p ∷ ps)) 0 (λ (e : length (p ∷ ps) ≡ 0). absurd (omega (arith, e))))

-- ---- one block alone has what passes

module _ (n : ℕ) (test : ℕ → Bool) where
  abbrev in_block : ℕ → List ℕ
  in_block h = hits (λ i. start n h + i) (λ i. test (start n h + i)) (n + 1)

  block_more : (b : ℕ) → hits (λ m. m) test (start n (suc b)) ≡ hits (λ m. m) test (start n b) ++ in_block b
  block_more b = ap (hits (λ m. m) test) (start_next n b) ∙ hits_on (λ m. m) test (start n b) (n + 1)

  none_before : (b : ℕ) → ((h : ℕ) → h < b → in_block h ≡ []) → hits (λ m. m) test (start n b) ≡ []
  unfolding hits
  none_before zero none = let z : start n 0 ≡ 0 = omega arith in ap (hits (λ m. m) test) z
  none_before (suc b) none =
      block_more b
      ∙ (ap (λ (xs : List ℕ). xs ++ in_block b) (none_before b (λ h l. none h (omega (arith, l))))
      ∙ none b (omega arith))

  one_block : (k b : ℕ) → k < b → ((h : ℕ) → h < b → h ≢ k → in_block h ≡ []) → hits (λ m. m) test (start n b) ≡ in_block k
  one_block k zero l none = absurd (omega (arith, l))
  one_block k (suc b) l none = block_more b ∙ ⊎_elim
      (λ (e : b ≡ k).
      ap (λ (xs : List ℕ). xs ++ in_block b) (none_before b (λ h m. none h (omega (arith, m)) (λ (same : h ≡ k). absurd (omega (arith, m, e, same)))))
      ∙ ap in_block e)
      (λ (d : b ≢ k).
      ap (λ (xs : List ℕ). xs ++ in_block b) (one_block k b (omega (arith, l, d)) (λ h m ne. none h (omega (arith, m)) ne))
      ∙ (ap (λ (xs : List ℕ). in_block k ++ xs) (none b (omega arith) d) ∙ append-nil (in_block k)))
      (cases_eq b k)

-- ---- the successors

module _ (jobs : List Job) (outputs : List Extent) (at blocks : ℕ) (are : AreJobs jobs) where
  abbrev n : ℕ
  n = length jobs

  abbrev all : List Job
  all = unrolled jobs outputs at blocks

  abbrev test : ℕ → ℕ → Bool
  test j m = is_in j (predecessors all m)

  below_job : (i : ℕ) → i < n → AllBelow n (predecessors jobs i)
  unfolding AllBelow
  below_job i l p c = let low : p < i = are.lower p i l c in omega (arith, low, l)

  below_last : AllBelow n (last_jobs jobs)
  unfolding AllBelow
  below_last p c = of_last jobs p c

  -- what a test tells of a job of a block, and of its capture
  test_job : (j h i : ℕ) → h < blocks → i < n → test j (start n h + i) ≡ is_in j (predecessors_in n h (predecessors jobs i))
  test_job j h i l m = ap (λ (x : Job). is_in j x.before) (at_job jobs outputs at blocks h i l m)

  test_capture : (j h : ℕ) → h < blocks → test j (start n h + n) ≡ is_in j (predecessors_in n h (last_jobs jobs))
  test_capture j h l = ap (λ (x : Job). is_in j x.before) (at_capture jobs outputs at blocks h l)

  -- a block in which none passes, and one in which these pass
  none_there : (j h : ℕ) → h < blocks → ((ps : List ℕ) → AllBelow n ps → is_in j (predecessors_in n h ps) ≡ false) → in_block n (test j) h ≡ []
  none_there j h l none = hits_none (λ i. start n h + i) (λ i. test j (start n h + i)) (n + 1) (λ i m. ⊎_elim
      (λ (low : i < n). test_job j h i l low ∙ none (predecessors jobs i) (below_job i low))
      (λ (high : n ≤ i).
      let last : i ≡ n = omega (arith, m, high) in
      ap (λ k. test j (start n h + k)) last ∙ (test_capture j h l ∙ none (last_jobs jobs) below_last))
      (cases_lt i n))

  some_there : (j h : ℕ) (of : List ℕ → Bool) → h < blocks → ((ps : List ℕ) → AllBelow n ps → is_in j (predecessors_in n h ps) ≡ of ps)
      → in_block n (test j) h ≡ map (λ q. start n h + q) (hits (λ i. i) (λ i. of (predecessors jobs i)) n) ++ cond (of (last_jobs jobs)) ((start n h + n) ∷ []) []
  unfolding hits
  some_there j h of l is =
      let s : n + 1 ≡ suc n = omega arith in
      let f : ℕ → ℕ = λ i. start n h + i in
      ap (hits f (λ i. test j (start n h + i))) s
      ∙ (ap (λ (xs : List ℕ). xs ++ cond (test j (start n h + n)) (f n ∷ []) [])
      (hits_same f f (λ i. test j (start n h + i)) (λ i. of (predecessors jobs i)) n (λ i m. refl) (λ i m. test_job j h i l m ∙ is (predecessors jobs i) (below_job i m)) ∙ hits_moved (start n h) (λ i. of (predecessors jobs i)) n)
      ∙ ap (λ (b : Bool). map (λ q. start n h + q) (hits (λ i. i) (λ i. of (predecessors jobs i)) n) ++ cond b (f n ∷ []) []) (test_capture j h l ∙ is (last_jobs jobs) below_last))

  all_are : (j : ℕ) → successors all j ≡ hits (λ m. m) (test j) (start n blocks)
  all_are j = successors_are all j ∙ ap (hits (λ m. m) (test j)) (length-unrolled jobs outputs at blocks)

  in_last_is : (i : ℕ) → i < n → is_in i (last_jobs jobs) ≡ ends jobs i
  unfolding last_jobs
  in_last_is i l = in_passing_is (ends jobs) n i l

  -- those of a job are those of the plan in its block, or the capture if there are none
  pub job_successors : (k i : ℕ) → k < blocks → i < n → successors all (start n k + i) ≡ map (λ q. start n k + q) (successors jobs i) ++ cond (ends jobs i) ((start n k + n) ∷ []) []
  job_successors k i l m =
      let j : ℕ = start n k + i in
      all_are j
      ∙ (one_block n (test j) k blocks l (λ h low d. none_there j h low (λ ps below. other_test n h k i ps d m below))
      ∙ (some_there j k (is_in i) l (λ ps below. own_test n k i ps)
      ∙ (ap (λ (xs : List ℕ). map (λ q. start n k + q) xs ++ cond (is_in i (last_jobs jobs)) ((start n k + n) ∷ []) []) (sym (successors_are jobs i))
      ∙ ap (λ (b : Bool). map (λ q. start n k + q) (successors jobs i) ++ cond b ((start n k + n) ∷ []) []) (in_last_is i m))))

  -- those of a capture are the jobs without predecessors of the next block, or its capture if there are no jobs
  pub capture_successors : (k : ℕ) → suc k < blocks → successors all (start n k + n) ≡ map (λ q. start n (suc k) + q) (entries jobs) ++ cond (length (last_jobs jobs) == 0) ((start n (suc k) + n) ∷ []) []
  unfolding entries
  capture_successors k l =
      let j : ℕ = start n k + n in
      let of : List ℕ → Bool = λ ps. length ps == 0 in
      all_are j
      ∙ (one_block n (test j) (suc k) blocks l (λ h low d. none_there j h low (λ ps below. capture_other n h k ps d below))
      ∙ (some_there j (suc k) of l (λ ps below. capture_next n k ps below)
      ∙ ap (λ (xs : List ℕ). map (λ q. start n (suc k) + q) xs ++ cond (of (last_jobs jobs)) ((start n (suc k) + n) ∷ []) []) (sym (passing_are (λ i. of (predecessors jobs i)) n))))

  -- the last capture has none
  pub last_successors : (k : ℕ) → suc k ≡ blocks → successors all (start n k + n) ≡ []
  last_successors k e =
      let j : ℕ = start n k + n in
      all_are j ∙ none_before n (test j) blocks (λ h low. none_there j h low (λ ps below. capture_other n h k ps (λ (same : h ≡ suc k). absurd (omega (arith, low, same, e))) below))
