-- What the jobs of a plan do, one after the other, is what its nodes do in the order of the walk.
use Rattle.std.proofs.Common.{◌≡◌, ℕ, ◌+◌, ◌≤◌, List, [], ◌∷◌, ◌++◌, length, map, Some, None, sym, refl, ap, ◌∙◌, append_assoc, arith}
use Rattle.std.proofs.lemmas.List.{append-nil}
use Rattle.sn_mem.specs.declared.moves.Moved.{Moved}
use Rattle.sn_round.specs.declared.jobs.Job.{Job}
use Rattle.sn_graph.specs.declared.nodes.Voice.{Voice}
use Rattle.sn_graph.specs.Voices.{HeardNodes, none, synth, group, ids_of}
use Rattle.sn_graph.specs.Rows.{Row, Members, done, job, split, one, more, size, size_all, lasts, jobs, jobs_all, job_of, moves_of}
use Rattle.sn_graph.specs.Plans.{close, followed, members, joined, keep, row_of, rows_of, plan_of, Step, renders, adds_lane, steps_of, runs_of, joined_steps, AreJoined}

abbrev pub voice_steps : List Voice → List Step
voice_steps [] = []
voice_steps (v ∷ vs) = renders v.id v.moves ∷ voice_steps vs

abbrev adds : List Moved → List Step
adds lanes = map adds_lane lanes

abbrev mutual
  pub row_steps : Row → List Step
  row_steps done = []
  row_steps (job vs rest) = voice_steps vs ++ row_steps rest
  row_steps (split lanes ms rest) = all_steps ms ++ (adds lanes ++ row_steps rest)

  pub all_steps : Members → List Step
  all_steps (one r) = row_steps r
  all_steps (more r ms) = row_steps r ++ all_steps ms

abbrev pub list_steps : List Row → List Step
list_steps [] = []
list_steps (r ∷ rs) = row_steps r ++ list_steps rs

-- ---- jobs

runs-voices : (vs : List Voice) → runs_of (ids_of vs) (moves_of vs) ≡ voice_steps vs
runs-voices [] = refl
runs-voices (v ∷ vs) = ap (λ (l : List Step). renders v.id v.moves ∷ l) (runs-voices vs)

steps-append : (xs ys : List Job) → joined_steps (xs ++ ys) ≡ joined_steps xs ++ joined_steps ys
steps-append [] ys = refl
steps-append (j ∷ xs) ys =
    let runs : List Step = runs_of j.synths j.moves in
    ap (λ (l : List Step). runs ++ (adds j.lanes ++ l)) (steps-append xs ys)
    ∙ ap (λ (l : List Step). runs ++ l) (sym (append_assoc (adds j.lanes) (joined_steps xs) (joined_steps ys)))
    ∙ sym (append_assoc runs (adds j.lanes ++ joined_steps xs) (joined_steps ys))

mutual
  steps-jobs : (n : ℕ) (e : List ℕ) (r : Row) → joined_steps (jobs n e r) ≡ row_steps r
  steps-jobs n e done = refl
  steps-jobs n e (job vs rest) = (λ i. runs-voices vs i ++ steps-jobs (n + 1) (n ∷ []) rest i)
  steps-jobs n e (split lanes ms rest) =
      let m : ℕ = n + size_all ms in
      steps-append (jobs_all n e ms) (job_of [] lanes (lasts n e ms) ∷ jobs (m + 1) (m ∷ []) rest)
      ∙ (λ i. steps-jobs-all n e ms i ++ (adds lanes ++ steps-jobs (m + 1) (m ∷ []) rest i))

  steps-jobs-all : (n : ℕ) (e : List ℕ) (ms : Members) → joined_steps (jobs_all n e ms) ≡ all_steps ms
  steps-jobs-all n e (one r) = steps-jobs n e r
  steps-jobs-all n e (more r ms) = steps-append (jobs n e r) (jobs_all (n + size r) e ms) ∙ (λ i. steps-jobs n e r i ++ steps-jobs-all (n + size r) e ms i)

-- ---- rows

steps-close : (run : List Voice) (r : Row) → row_steps (close run r) ≡ voice_steps run ++ row_steps r
steps-close [] r = refl
steps-close (v ∷ vs) r = refl

steps-followed : (r q : Row) → row_steps (followed r q) ≡ row_steps r ++ row_steps q
steps-followed done q = refl
steps-followed (job vs r) q = ap (λ (l : List Step). voice_steps vs ++ l) (steps-followed r q) ∙ sym (append_assoc (voice_steps vs) (row_steps r) (row_steps q))
steps-followed (split lanes ms r) q =
    ap (λ (l : List Step). all_steps ms ++ (adds lanes ++ l)) (steps-followed r q)
    ∙ ap (λ (l : List Step). all_steps ms ++ l) (sym (append_assoc (adds lanes) (row_steps r) (row_steps q)))
    ∙ sym (append_assoc (all_steps ms) (adds lanes ++ row_steps r) (row_steps q))

steps-members : (r : Row) (rs : List Row) → all_steps (members r rs) ≡ list_steps (r ∷ rs)
steps-members r [] = sym (append-nil (row_steps r))
steps-members r (q ∷ rs) = ap (λ (l : List Step). row_steps r ++ l) (steps-members q rs)

steps-keep : (r : Row) (rs : List Row) → list_steps (keep r rs) ≡ row_steps r ++ list_steps rs
steps-keep done rs = refl
steps-keep (job vs a) rs = refl
steps-keep (split lanes ms a) rs = refl

steps-joined : (lanes : List Moved) (rs : List Row) → (length rs ≤ 1 → lanes ≡ []) → row_steps (joined lanes rs) ≡ list_steps rs ++ adds lanes
steps-joined lanes [] h = ap adds (sym (h (omega arith)))
steps-joined lanes (r ∷ []) h =
    sym (ap (λ (l : List Moved). (row_steps r ++ []) ++ adds l) (h (omega arith)) ∙ append-nil (row_steps r ++ []) ∙ append-nil (row_steps r))
steps-joined lanes (r ∷ q ∷ rs) h = (λ i. steps-members r (q ∷ rs) i ++ append-nil (adds lanes) i)

steps-after : (run : List Voice) (r rest : Row) → row_steps (close run (followed r rest)) ≡ voice_steps run ++ (row_steps r ++ row_steps rest)
steps-after run r rest = steps-close run (followed r rest) ∙ ap (λ (l : List Step). voice_steps run ++ l) (steps-followed r rest)

steps-snoc : (run : List Voice) (v : Voice) → voice_steps (run ++ v ∷ []) ≡ voice_steps run ++ renders v.id v.moves ∷ []
steps-snoc [] v = refl
steps-snoc (u ∷ us) v = ap (λ (l : List Step). renders u.id u.moves ∷ l) (steps-snoc us v)

-- a group that is split
steps-split : (lanes : List Moved) (inner : HeardNodes) → (length (rows_of inner) ≤ 1 → lanes ≡ []) → list_steps (rows_of inner) ≡ steps_of inner → row_steps (joined lanes (rows_of inner)) ≡ steps_of inner ++ adds lanes
steps-split lanes inner h e = steps-joined lanes (rows_of inner) h ∙ ap (λ (l : List Step). l ++ adds lanes) e

mutual
  steps-row : (run : List Voice) (nodes : HeardNodes) → AreJoined nodes → row_steps (row_of run nodes) ≡ voice_steps run ++ steps_of nodes
  steps-row run none j = steps-close run done
  steps-row run (synth v rest) j =
      steps-row (run ++ v ∷ []) rest j
      ∙ ap (λ (l : List Step). l ++ steps_of rest) (steps-snoc run v)
      ∙ append_assoc (voice_steps run) (renders v.id v.moves ∷ []) (steps_of rest)
  steps-row run (group None inner rest) j =
      steps-after run (row_of [] inner) (row_of [] rest)
      ∙ (λ i. voice_steps run ++ (steps-row [] inner j.1.0 i ++ steps-row [] rest j.1.1 i))
  steps-row run (group (Some lanes) inner rest) j =
      steps-after run (joined lanes (rows_of inner)) (row_of [] rest)
      ∙ (λ i. voice_steps run ++ (steps-split lanes inner j.0 (steps-rows inner j.1.0) i ++ steps-row [] rest j.1.1 i))
      ∙ ap (λ (l : List Step). voice_steps run ++ l) (append_assoc (steps_of inner) (adds lanes) (steps_of rest))

  steps-rows : (nodes : HeardNodes) → AreJoined nodes → list_steps (rows_of nodes) ≡ steps_of nodes
  steps-rows none j = refl
  steps-rows (synth v rest) j = ap (λ (l : List Step). renders v.id v.moves ∷ l) (steps-rows rest j)
  steps-rows (group None inner rest) j =
      steps-keep (row_of [] inner) (rows_of rest)
      ∙ (λ i. steps-row [] inner j.1.0 i ++ steps-rows rest j.1.1 i)
  steps-rows (group (Some lanes) inner rest) j =
      steps-keep (joined lanes (rows_of inner)) (rows_of rest)
      ∙ (λ i. steps-split lanes inner j.0 (steps-rows inner j.1.0) i ++ steps-rows rest j.1.1 i)
      ∙ append_assoc (steps_of inner) (adds lanes) (steps_of rest)

pub steps_are : (nodes : HeardNodes) → AreJoined nodes → joined_steps (plan_of nodes) ≡ steps_of nodes
steps_are nodes j = steps-jobs 0 [] (row_of [] nodes) ∙ steps-row [] nodes j
