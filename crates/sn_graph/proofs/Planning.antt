-- The jobs of a row as a list, and the plan of nodes.
use Rattle.std.proofs.Common.{◌≡◌, ◌⊎◌, ℕ, suc, ◌+◌, ◌*◌, ◌^◌, ◌<◌, ◌≤◌, ℤ, true, false, List, [], ◌∷◌, ◌++◌, length, sym, refl, ap, ◌∙◌, subst, ⊎_elim, arith, true≢false, length-append, append_assoc}
use Rattle.std.specs.Prelude.{Contains}
use Rattle.std.proofs.lemmas.Bool.{cases_lt, or_left, or_right, false_from_ne_true}
use Rattle.std.proofs.Math.ListN.{get_or-append}
use Rattle.std.proofs.lemmas.List.{get_or-append-add}
use Rattle.sn_mem.specs.declared.moves.Moved.{Moved}
use Rattle.sn_round.specs.declared.jobs.Job.{Job}
use Rattle.sn_round.specs.Jobs.{no_job, job_at, predecessors, AreJobs, Ordered, direct, through}
use Rattle.sn_round.proofs.Orders.{past_end, nothing_in}
use Rattle.sn_graph.specs.declared.nodes.Voice.{Voice}
use Rattle.sn_graph.specs.Voices.{ids_of, HeardNodes, voices, has, Once}
use Rattle.sn_graph.specs.Rows.{Row, Members, done, job, split, one, more, job_of, size, size_all, lasts, jobs, jobs_all}
use Rattle.sn_graph.specs.Plans.{is_listed, row_of, joined_synths, plan_of, Plays, edges}
use Rattle.sn_graph.proofs.Shapes.{IsPlan, Apart, is_parted, Stands, StandsAll, heard, heard_all, Among}
use Rattle.sn_graph.proofs.Ordering.{Path, step, next, order, apart, IsLower, stays, path_lower}
use Rattle.sn_graph.proofs.Parting.{heard-row, parts-row}
use Rattle.sn_graph.proofs.Numbers as numbers
use Rattle.sn_graph.proofs.Filling as filling
use Rattle.std.specs.Ordering.{int_eq}
use Rattle.std.proofs.lemmas.Bool.Decides.{Decides-int_eq}

mutual
  pub length-jobs : (n : ℕ) (e : List ℕ) (r : Row) → length (jobs n e r) ≡ size r
  length-jobs n e done = refl
  length-jobs n e (job ss rest) = omega (arith, length-jobs (n + 1) (n ∷ []) rest)
  length-jobs n e (split lanes ms rest) =
      omega (arith, length-append (jobs_all n e ms) (job_of [] lanes (lasts n e ms) ∷ jobs (n + size_all ms + 1) ((n + size_all ms) ∷ []) rest), length-jobs-all n e ms, length-jobs (n + size_all ms + 1) ((n + size_all ms) ∷ []) rest)

  pub length-jobs-all : (n : ℕ) (e : List ℕ) (ms : Members) → length (jobs_all n e ms) ≡ size_all ms
  length-jobs-all n e (one r) = length-jobs n e r
  length-jobs-all n e (more r ms) = omega (arith, length-append (jobs n e r) (jobs_all (n + size r) e ms), length-jobs n e r, length-jobs-all (n + size r) e ms)

-- the list has these jobs from n on
abbrev pub Lies : List Job → ℕ → List Job → Type 0
Lies all n xs = (k : ℕ) → k < length xs → job_at all (n + k) ≡ job_at xs k

pub lies_left : (all : List Job) (n : ℕ) (xs ys : List Job) → Lies all n (xs ++ ys) → Lies all n xs
lies_left all n xs ys h k l = h k (omega (arith, length-append xs ys)) ∙ get_or-append xs ys no_job k l

pub lies_right : (all : List Job) (n m : ℕ) (xs ys : List Job) → length xs ≡ m → Lies all n (xs ++ ys) → Lies all (n + m) ys
lies_right all n m xs ys e h k l =
    let q : n + m + k ≡ n + (length xs + k) = omega arith in
    ap (job_at all) q ∙ (h (length xs + k) (omega (arith, length-append xs ys)) ∙ get_or-append-add xs ys k no_job)

pub lies_head : (all : List Job) (n : ℕ) (x : Job) (xs : List Job) → Lies all n (x ∷ xs) → job_at all n ≡ x
lies_head all n x xs h = let q : n ≡ n + 0 = omega arith in ap (job_at all) q ∙ h 0 (omega arith)

pub lies_tail : (all : List Job) (n : ℕ) (x : Job) (xs : List Job) → Lies all n (x ∷ xs) → Lies all (n + 1) xs
lies_tail all n x xs h k l = let q : n + 1 + k ≡ n + suc k = omega arith in ap (job_at all) q ∙ h (suc k) (omega arith)

mutual
  pub stands : (all : List Job) (n : ℕ) (e : List ℕ) (r : Row) → Lies all n (jobs n e r) → Stands (job_at all) n e r
  stands all n e done h = tt
  stands all n e (job ss rest) h = (lies_head all n (job_of ss [] e) (jobs (n + 1) (n ∷ []) rest) h, stands all (n + 1) (n ∷ []) rest (lies_tail all n (job_of ss [] e) (jobs (n + 1) (n ∷ []) rest) h))
  stands all n e (split lanes ms rest) h =
      let joint : Job = job_of [] lanes (lasts n e ms) in
      let others : List Job = jobs (n + size_all ms + 1) ((n + size_all ms) ∷ []) rest in
      let tail : Lies all (n + size_all ms) (joint ∷ others) = lies_right all n (size_all ms) (jobs_all n e ms) (joint ∷ others) (length-jobs-all n e ms) h in
      (stands_all all n e ms (lies_left all n (jobs_all n e ms) (joint ∷ others) h), lies_head all (n + size_all ms) joint others tail, stands all (n + size_all ms + 1) ((n + size_all ms) ∷ []) rest (lies_tail all (n + size_all ms) joint others tail))

  pub stands_all : (all : List Job) (n : ℕ) (e : List ℕ) (ms : Members) → Lies all n (jobs_all n e ms) → StandsAll (job_at all) n e ms
  stands_all all n e (one r) h = stands all n e r h
  stands_all all n e (more r ms) h =
      (stands all n e r (lies_left all n (jobs n e r) (jobs_all (n + size r) e ms) h), stands_all all (n + size r) e ms (lies_right all n (size r) (jobs n e r) (jobs_all (n + size r) e ms) (length-jobs n e r) h))

pub whole : (r : Row) → Stands (job_at (jobs 0 [] r)) 0 [] r
whole r = stands (jobs 0 [] r) 0 [] r (λ k l. let q : 0 + k ≡ k = omega arith in ap (job_at (jobs 0 [] r)) q)

pub from_path : (js : List Job) {i j : ℕ} → Path (predecessors js) i j → Ordered js i j
from_path js (step c) = direct c
from_path js (next p c) = through (from_path js p) c

pub to_path : (js : List Job) {i j : ℕ} → Ordered js i j → Path (predecessors js) i j
to_path js (direct c) = step c
to_path js (through p c) = next (to_path js p) c

pub lower : (r : Row) → IsLower (predecessors (jobs 0 [] r))
lower r k m c =
    ⊎_elim
    (λ (g : k < size r). ⊎_elim (λ (d : (0 ≤ m) × (m < k)). d.1) (λ (d : Contains [] m). absurd (nothing_in m d)) (stays (predecessors (jobs 0 [] r)) 0 [] r k m (numbers.fits (job_at (jobs 0 [] r)) 0 [] r (whole r)) (omega arith) (omega arith) c))
    (λ (g : size r ≤ k). absurd (nothing_in m (subst (λ (j : Job). Contains j.before m) (past_end (jobs 0 [] r) k (omega (arith, length-jobs 0 [] r))) c)))
    (cases_lt k (size r))

pub ids-append : (xs ys : List Voice) → ids_of (xs ++ ys) ≡ ids_of xs ++ ids_of ys
ids-append [] ys = refl
ids-append (x ∷ xs) ys = ap (λ (l : List ℤ). x.id ∷ l) (ids-append xs ys)

pub synths-append : (xs ys : List Job) → joined_synths (xs ++ ys) ≡ joined_synths xs ++ joined_synths ys
synths-append [] ys = refl
synths-append (x ∷ xs) ys = rw (synths-append xs ys) (sym (append_assoc x.synths (joined_synths xs) (joined_synths ys)))

mutual
  pub synths-jobs : (n : ℕ) (e : List ℕ) (r : Row) → joined_synths (jobs n e r) ≡ ids_of (heard r)
  synths-jobs n e done = refl
  synths-jobs n e (job ss rest) = ap (λ (l : List ℤ). ids_of ss ++ l) (synths-jobs (n + 1) (n ∷ []) rest) ∙ sym (ids-append ss (heard rest))
  synths-jobs n e (split lanes ms rest) =
      synths-append (jobs_all n e ms) (job_of [] lanes (lasts n e ms) ∷ jobs (n + size_all ms + 1) ((n + size_all ms) ∷ []) rest)
      ∙ rw (synths-jobs-all n e ms, synths-jobs (n + size_all ms + 1) ((n + size_all ms) ∷ []) rest) (sym (ids-append (heard_all ms) (heard rest)))

  pub synths-jobs-all : (n : ℕ) (e : List ℕ) (ms : Members) → joined_synths (jobs_all n e ms) ≡ ids_of (heard_all ms)
  synths-jobs-all n e (one r) = synths-jobs n e r
  synths-jobs-all n e (more r ms) =
      synths-append (jobs n e r) (jobs_all (n + size r) e ms)
      ∙ rw (synths-jobs n e r, synths-jobs-all (n + size r) e ms) (sym (ids-append (heard r) (heard_all ms)))

-- two jobs with synths
module _ (nodes : HeardNodes) (only_once : Once (voices nodes)) where
  abbrev pub js : List Job
  js = plan_of nodes

  abbrev pub row : Row
  row = row_of [] nodes

  pub few_jobs : length js ≡ size row
  few_jobs = length-jobs 0 [] row

  pub heard_once : Once (heard row)
  heard_once = subst Once (sym (heard-row [] nodes)) only_once

  pub played : (k : ℕ) (a : ℤ) → Plays js k a → k < 0 + size row
  played k a p =
      ⊎_elim
      (λ (h : k < size row). omega arith)
      (λ (h : size row ≤ k). absurd (true≢false (sym p ∙ ap (λ (j : Job). is_listed j.synths a) (past_end js k (omega (arith, few_jobs))))))
      (cases_lt k (size row))

  pub ordered_is : (i j : ℕ) (a b : ℤ) → Plays js i a → Plays js j b → Ordered js i j → (i < j) × (is_parted false nodes a b ≡ false)
  ordered_is i j a b p q o =
      let path : Path (predecessors js) i j = to_path js o in (
        path_lower (predecessors js) (lower row) path,
        false_from_ne_true (is_parted false nodes a b) (λ h.
            apart (predecessors js) 0 [] row i j (lower row) (numbers.fits (job_at js) 0 [] row (whole row)) (λ x c. absurd (nothing_in x c))
            (numbers.parts_apart (job_at js) 0 [] row i j a b (whole row) heard_once (omega arith) (played i a p) (omega arith) (played j b q) p q (parts-row [] nodes a b ∙ h))
            path),
      )

  pub is_ordered : (i j : ℕ) (a b : ℤ) → Plays js i a → Plays js j b → i < j → is_parted false nodes a b ≡ false → Ordered js i j
  is_ordered i j a b p q l h =
      ⊎_elim
      (λ (d : Path (predecessors js) i j). from_path js d)
      (λ (d : Apart 0 row i j). absurd (true≢false (sym (numbers.apart_parts (job_at js) 0 [] row i j a b (whole row) p q d) ∙ (parts-row [] nodes a b ∙ h))))
      (order (predecessors js) 0 [] row i j (numbers.fits (job_at js) 0 [] row (whole row)) (omega arith) l (played j b q))

pub among_has : (xs : List Voice) (s : Voice) → Among xs s → has xs s.id ≡ true
among_has [] s h = absurd h
among_has (x ∷ xs) s h = ⊎_elim
    (λ (e : x ≡ s). or_left (int_eq x.id s.id) (has xs s.id) ((Decides-int_eq x.id s.id).1 (ap (λ (y : Voice). y.id) e)))
    (λ (g : Among xs s). or_right (int_eq x.id s.id) (has xs s.id) (among_has xs s g))
    h

-- what a job plays, which stands together among all synths
abbrev pub Made : (ℕ → Job) → ℕ → List Voice → Type 0
Made at k all = (ss : List Voice) × (lanes : List Moved) × (f : List ℕ) × (at k ≡ job_of ss lanes f) × (before : List Voice) × (after : List Voice) × (all ≡ before ++ (ss ++ after))

made_left : (at : ℕ → Job) (k : ℕ) (xs ys : List Voice) → Made at k xs → Made at k (xs ++ ys)
made_left at k xs ys m = (m.0, m.1, m.2, m.3, m.4, m.5 ++ ys, ap (λ (l : List Voice). l ++ ys) m.6 ∙ (append_assoc m.4 (m.0 ++ m.5) ys ∙ ap (λ (l : List Voice). m.4 ++ l) (append_assoc m.0 m.5 ys)))

made_right : (at : ℕ → Job) (k : ℕ) (xs ys : List Voice) → Made at k ys → Made at k (xs ++ ys)
made_right at k xs ys m = (m.0, m.1, m.2, m.3, xs ++ m.4, m.5, ap (λ (l : List Voice). xs ++ l) m.6 ∙ sym (append_assoc xs m.4 (m.0 ++ m.5)))

mutual
  pub job_is : (at : ℕ → Job) (n : ℕ) (e : List ℕ) (r : Row) (k : ℕ) → Stands at n e r → n ≤ k → k < n + size r → Made at k (heard r)
  job_is at n e done k s l m = absurd (omega arith)
  job_is at n e (job ss rest) k s l m =
      ⊎_elim
      (λ (g : n < k). made_right at k ss (heard rest) (job_is at (n + 1) (n ∷ []) rest k s.1 (omega arith) (omega arith)))
      (λ (g : k ≤ n). let q : k ≡ n = omega arith in (ss, [], e, ap at q ∙ s.0, [], heard rest, refl))
      (cases_lt n k)
  job_is at n e (split lanes ms rest) k s l m =
      ⊎_elim
      (λ (g : k < n + size_all ms). made_left at k (heard_all ms) (heard rest) (jobs_are at n e ms k s.0 l g))
      (λ (g : n + size_all ms ≤ k). ⊎_elim
      (λ (d : n + size_all ms < k). made_right at k (heard_all ms) (heard rest) (job_is at (n + size_all ms + 1) ((n + size_all ms) ∷ []) rest k s.2 (omega arith) (omega arith)))
      (λ (d : k ≤ n + size_all ms). let q : k ≡ n + size_all ms = omega arith in ([], lanes, lasts n e ms, ap at q ∙ s.1, heard_all ms, heard rest, refl))
      (cases_lt (n + size_all ms) k))
      (cases_lt k (n + size_all ms))

  pub jobs_are : (at : ℕ → Job) (n : ℕ) (e : List ℕ) (ms : Members) (k : ℕ) → StandsAll at n e ms → n ≤ k → k < n + size_all ms → Made at k (heard_all ms)
  jobs_are at n e (one r) k s l m = job_is at n e r k s l m
  jobs_are at n e (more r ms) k s l m =
      ⊎_elim
      (λ (g : k < n + size r). made_left at k (heard r) (heard_all ms) (job_is at n e r k s.0 l g))
      (λ (g : n + size r ≤ k). made_right at k (heard r) (heard_all ms) (jobs_are at (n + size r) e ms k s.1 g (omega arith)))
      (cases_lt k (n + size r))

-- the whole law of the plan
module _ (nodes : HeardNodes) (only_once : Once (voices nodes)) where
  pub in_order : length (plan_of nodes) < 2 ^ 32 → AreJobs (plan_of nodes)
  in_order short =
      let row : Row = row_of [] nodes in
      let long : length (plan_of nodes) ≡ size row = length-jobs 0 [] row in
      record {
        few = short;
        lower = λ i j l c. lower row j i c;
        once = λ i j l. filling.once (predecessors (plan_of nodes)) i 0 [] row j (numbers.fits (job_at (plan_of nodes)) 0 [] row (whole row)) (filling.full-row [] nodes) (omega arith) (omega arith) (omega arith);
      }

  pub is_plan : IsPlan nodes (plan_of nodes)
  is_plan = record {
    synths = synths-jobs 0 [] (row_of [] nodes) ∙ ap ids_of (heard-row [] nodes);
    ordered = λ i j a b p q. (ordered_is nodes only_once i j a b p q, λ (d : (i < j) × (is_parted false nodes a b ≡ false)). is_ordered nodes only_once i j a b p q d.0 d.1);
    few = let few : edges (plan_of nodes) ≤ 2 * size (row_of [] nodes) = (filling.edges-row 0 [] (row_of [] nodes) (omega arith) (filling.full-row [] nodes)).0 in omega (arith, length-jobs 0 [] (row_of [] nodes));
  }
