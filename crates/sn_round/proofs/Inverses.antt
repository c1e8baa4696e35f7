-- Successors, found by putting each job in the lists of its predecessors.
use Rattle.std.proofs.Common.{◌≡◌, ◌≢◌, ⊎_elim, ℕ, zero, suc, ◌+◌, ◌<◌, ◌≤◌, ◌==◌, Bool, true, false, ◌||◌, if◌then◌else◌, List, [], ◌∷◌, ◌++◌, length, drop, get_or, set, refl, sym, ap, ◌∙◌, subst, arith, append-nil, append_assoc, length-set, get_or-set_same, get_or-set_other, length-append}
use Rattle.std.specs.Prelude.{Contains}
use Rattle.std.specs.List.{All}
use Rattle.std.proofs.Math.Seq.{drop-cons}
use Rattle.std.proofs.lemmas.List.{drop_all, ext_get_or, get_or_default}
use Rattle.std.proofs.lemmas.Bool.{cases_eq, ne_eqb, eq-eqb}
use Rattle.sn_mem.specs.Blocks.{table}
use Rattle.sn_round.specs.declared.jobs.Job.{Job}
use Rattle.sn_round.specs.Jobs.{AreJobs, job_at, no_job, times, is_in, successors_from, successors, all_successors}
use Rattle.sn_round.specs.Inverting.{put_in_each}

-- a job is there once if at all
pub only_if : Bool → ℕ → List ℕ
only_if b k = if b then k ∷ [] else []

pub length-put : (k : ℕ) (ps : List ℕ) (lists : List (List ℕ)) → length (put_in_each k ps lists) ≡ length lists
unfolding put_in_each
length-put k [] lists = refl
length-put k (p ∷ ps) lists = length-put k ps (set lists p (get_or lists p [] ++ k ∷ [])) ∙ length-set lists p (get_or lists p [] ++ k ∷ [])

not_in : (j : ℕ) (ps : List ℕ) → times j ps ≡ 0 → is_in j ps ≡ false
not_in j [] h = refl
not_in j (p ∷ ps) h = ⊎_elim
    (λ (e : p ≡ j). let one : (if p == j then 1 else 0) + times j ps ≡ 1 + times j ps = ap (λ (b : Bool). (if b then 1 else 0) + times j ps) (eq-eqb p j e) in absurd (omega (arith, h, one)))
    (λ (d : p ≢ j).
    let no : (p == j) ≡ false = ne_eqb p j d in
    let same : (if p == j then 1 else 0) + times j ps ≡ 0 + times j ps = ap (λ (b : Bool). (if b then 1 else 0) + times j ps) no in
    ap (λ (b : Bool). b || is_in j ps) no ∙ not_in j ps (omega (arith, same, h)))
    (cases_eq p j)

put_one : (k p j : ℕ) (ps : List ℕ) (lists : List (List ℕ)) → p < length lists → times j (p ∷ ps) ≤ 1
    → get_or (set lists p (get_or lists p [] ++ k ∷ [])) j [] ++ only_if (is_in j ps) k ≡ get_or lists j [] ++ only_if (is_in j (p ∷ ps)) k
unfolding only_if
put_one k p j ps lists lt once = ⊎_elim
    (λ (e : p ≡ j).
    let yes : (p == j) ≡ true = eq-eqb p j e in
    let one : (if p == j then 1 else 0) + times j ps ≡ 1 + times j ps = ap (λ (b : Bool). (if b then 1 else 0) + times j ps) yes in
    let none : times j ps ≡ 0 = omega (arith, once, one) in
    let long : p < length lists = lt in
    let here : get_or (set lists p (get_or lists p [] ++ k ∷ [])) p [] ≡ get_or lists p [] ++ k ∷ [] = rw get_or-set_same refl in
    ap (λ (b : Bool). get_or (set lists p (get_or lists p [] ++ k ∷ [])) j [] ++ only_if b k) (not_in j ps none)
    ∙ append-nil (get_or (set lists p (get_or lists p [] ++ k ∷ [])) j [])
    ∙ subst (λ n. get_or (set lists p (get_or lists p [] ++ k ∷ [])) n [] ≡ get_or lists n [] ++ k ∷ []) e here
    ∙ sym (ap (λ (b : Bool). get_or lists j [] ++ only_if (b || is_in j ps) k) yes))
    (λ (d : p ≢ j).
    let no : (p == j) ≡ false = ne_eqb p j d in
    let other : j ≢ p = λ q. d (sym q) in
    let there : get_or (set lists p (get_or lists p [] ++ k ∷ [])) j [] ≡ get_or lists j [] = rw get_or-set_other refl in
    ap (λ (xs : List ℕ). xs ++ only_if (is_in j ps) k) there ∙ sym (ap (λ (b : Bool). get_or lists j [] ++ only_if (b || is_in j ps) k) no))
    (cases_eq p j)

fewer : (p j : ℕ) (ps : List ℕ) → times j (p ∷ ps) ≤ 1 → times j ps ≤ 1
fewer p j ps h = omega (arith, h)

pub put_gives : (n k : ℕ) (ps : List ℕ) (lists : List (List ℕ)) (j : ℕ) → length lists ≡ n → All (λ p. p < n) ps → times j ps ≤ 1 → get_or (put_in_each k ps lists) j [] ≡ get_or lists j [] ++ only_if (is_in j ps) k
unfolding put_in_each only_if
put_gives n k [] lists j long in_range once = sym (append-nil (get_or lists j []))
put_gives n k (p ∷ ps) lists j long in_range once =
    put_gives n k ps (set lists p (get_or lists p [] ++ k ∷ [])) j (length-set lists p (get_or lists p [] ++ k ∷ []) ∙ long) (λ i d l. in_range (suc i) d (omega (arith, l))) (fewer p j ps once)
    ∙ put_one k p j ps lists (subst (λ m. p < m) (sym long) (in_range 0 0 (omega arith))) once

at_append : (xs : List (List ℕ)) (x : List ℕ) (k : ℕ) → k < length xs → get_or (xs ++ x ∷ []) k [] ≡ get_or xs k []
at_append [] x k lt = absurd (omega arith)
at_append (y ∷ xs) x zero lt = refl
at_append (y ∷ xs) x (suc k) lt = at_append xs x k (omega arith)

at_end : (xs : List (List ℕ)) (x : List ℕ) (k : ℕ) → k ≡ length xs → get_or (xs ++ x ∷ []) k [] ≡ x
at_end [] x k e = ap (λ n. get_or (x ∷ []) n []) e
at_end (y ∷ xs) x k e = ap (λ n. get_or (y ∷ (xs ++ x ∷ [])) n []) e ∙ at_end xs x (length xs) refl

pub length-table : (f : ℕ → List ℕ) (n : ℕ) → length (table f n) ≡ n
unfolding table
length-table f zero = refl
length-table f (suc n) = omega (arith, length-append (table f n) (f n ∷ []), length-table f n)

pub get_or-table : (f : ℕ → List ℕ) (n k : ℕ) → k < n → get_or (table f n) k [] ≡ f k
unfolding table
get_or-table f zero k lt = absurd (omega arith)
get_or-table f (suc n) k lt = ⊎_elim
    (λ (e : k ≡ n). at_end (table f n) (f n) k (e ∙ sym (length-table f n)) ∙ ap f (sym e))
    (λ (d : k ≢ n). at_append (table f n) (f n) k (omega (arith, length-table f n, d)) ∙ get_or-table f n k (omega (arith, d)))
    (cases_eq k n)

-- the successors so far, and those among the jobs that are left
pub record Inverts (jobs : List Job) (k : ℕ) (rest : List Job) (lists : List (List ℕ)) : Type 0 where
  pub long : length lists ≡ length jobs
  pub each : (j : ℕ) → j < length jobs → get_or lists j [] ++ successors_from k rest j ≡ successors jobs j

pub inverts_next : (jobs : List Job) (k : ℕ) (x : Job) (rest : List Job) (lists : List (List ℕ)) → All (λ p. p < length jobs) x.before → ((j : ℕ) → times j x.before ≤ 1) → Inverts jobs k (x ∷ rest) lists → Inverts jobs (k + 1) rest (put_in_each k x.before lists)
unfolding only_if
inverts_next jobs k x rest lists in_range once i = record {
  long = length-put k x.before lists ∙ i.long;
  each = λ j l. ap (λ (xs : List ℕ). xs ++ successors_from (k + 1) rest j) (put_gives (length jobs) k x.before lists j i.long in_range (once j))
      ∙ append_assoc (get_or lists j []) (only_if (is_in j x.before) k) (successors_from (k + 1) rest j)
      ∙ i.each j l;
}

pub inverts_all : (jobs : List Job) (k : ℕ) (lists : List (List ℕ)) → Inverts jobs k [] lists → lists ≡ all_successors jobs
inverts_all jobs k lists i = ext_get_or [] lists (all_successors jobs) (i.long ∙ sym (length-table (successors jobs) (length jobs)))
    (λ j m. let l : j < length jobs = omega (arith, m, i.long) in sym (append-nil (get_or lists j [])) ∙ i.each j l ∙ sym (get_or-table (successors jobs) (length jobs) j l))

-- what is left to be put after one more
pub put_left : (k : ℕ) (ps : List ℕ) (i : ℕ) (lists : List (List ℕ)) → i < length ps
    → put_in_each k (drop i ps) lists ≡ put_in_each k (drop (i + 1) ps) (set lists (get_or ps i 0) (get_or lists (get_or ps i 0) [] ++ k ∷ []))
unfolding put_in_each
put_left k ps i lists l =
    let next : drop i ps ≡ get_or ps i 0 ∷ drop (suc i) ps = drop-cons ps i 0 l in
    let s : suc i ≡ i + 1 = omega arith in
    ap (λ (qs : List ℕ). put_in_each k qs lists) next ∙ ap (λ n. put_in_each k (drop n ps) (set lists (get_or ps i 0) (get_or lists (get_or ps i 0) [] ++ k ∷ []))) s

pub put_all : (k : ℕ) (ps : List ℕ) (i : ℕ) (lists : List (List ℕ)) → length ps ≤ i → put_in_each k (drop i ps) lists ≡ lists
unfolding put_in_each
put_all k ps i lists l = ap (λ (qs : List ℕ). put_in_each k qs lists) (drop_all i ps l)

-- one more job is in the lists of its predecessors
pub inverts_more : (jobs : List Job) (k : ℕ) (x : Job) (lists : List (List ℕ)) → k < length jobs → x ≡ get_or jobs k x → AreJobs jobs → Inverts jobs k (drop k jobs) lists
    → All (λ p. p < length jobs) x.before × Inverts jobs (k + 1) (drop (k + 1) jobs) (put_in_each k x.before lists)
inverts_more jobs k x lists l is are i =
    let s : suc k ≡ k + 1 = omega arith in
    let next : drop k jobs ≡ x ∷ drop (suc k) jobs = drop-cons jobs k x l ∙ ap (λ (y : Job). y ∷ drop (suc k) jobs) (sym is) in
    let this : job_at jobs k ≡ x = get_or_default jobs k no_job x l ∙ sym is in
    let inside : (p : ℕ) → Contains x.before p → p < k = λ p c. are.lower p k l (subst (λ (y : Job). Contains y.before p) (sym this) c) in
    let once : (j : ℕ) → times j x.before ≤ 1 = λ j. subst (λ (y : Job). times j y.before ≤ 1) this (are.once j k l) in
    let range : All (λ p. p < length jobs) x.before = λ n d m. let q : get_or x.before n d < k = inside (get_or x.before n d) (n, m, get_or_default x.before n (get_or x.before n d) d m) in omega (arith, q, l) in (
      range,
      subst (λ m. Inverts jobs (k + 1) (drop m jobs) (put_in_each k x.before lists)) s
          (inverts_next jobs k x (drop (suc k) jobs) lists range once (subst (λ (rest : List Job). Inverts jobs k rest lists) next i)),
    )
