-- Jobs that stand apart do not clash, if nothing below a member of a split group clashes with what is below another.
use Rattle.std.proofs.Common.{◌≡◌, ◌⊎◌, ℕ, ◌+◌, ◌<◌, ◌≤◌, true, List, [], ◌∷◌, ◌++◌, length, Some, None, sym, refl, ap, ◌∙◌, subst, ⊎_elim, inl, inr, arith, true≢false}
use Rattle.std.proofs.lemmas.Bool.{cases_lt, cases_order, or_cases, or_left, or_right}
use Rattle.sn_mem.specs.declared.extents.Foot.{Foot}
use Rattle.sn_mem.specs.declared.moves.Moved.{Moved}
use Rattle.sn_mem.specs.Words.{has as covered, writes, touches, Clash}
use Rattle.sn_round.specs.declared.jobs.Job.{Job}
use Rattle.sn_round.specs.Jobs.{job_at, foot_at, predecessors, Ordered, IsRaceFree}
use Rattle.sn_foot.proofs.Runs.{has_append, has_canonical}
use Rattle.sn_graph.specs.declared.nodes.Voice.{Voice}
use Rattle.sn_graph.specs.Voices.{all_reads, all_writes, foot_of, HeardNodes, none, synth, group, own_foot}
use Rattle.sn_graph.specs.Rows.{Row, Members, done, job, split, one, more, size, size_all}
use Rattle.sn_graph.specs.Plans.{close, followed, members, joined, keep, row_of, rows_of, plan_of, joint_feet, feet_below, IsAmong, AreClear, MembersAreClear, SplitsAreClear}
use Rattle.sn_graph.proofs.Shapes.{Apart, ApartAll, Across, Stands, StandsAll}
use Rattle.sn_graph.proofs.Ordering.{Path, order}
use Rattle.sn_graph.proofs.Numbers as numbers
use Rattle.sn_graph.proofs.Planning.{from_path, length-jobs, whole}

-- ---- lists of feet

pub among_left : (fs gs : List Foot) (f : Foot) → IsAmong fs f → IsAmong (fs ++ gs) f
among_left [] gs f h = absurd h
among_left (e ∷ fs) gs f h = ⊎_elim (λ (q : e ≡ f). inl q) (λ (k : IsAmong fs f). inr (among_left fs gs f k)) h

pub among_right : (fs gs : List Foot) (f : Foot) → IsAmong gs f → IsAmong (fs ++ gs) f
among_right [] gs f h = h
among_right (e ∷ fs) gs f h = inr (among_right fs gs f h)

pub among_cases : (fs gs : List Foot) (f : Foot) → IsAmong (fs ++ gs) f → IsAmong fs f ⊎ IsAmong gs f
among_cases [] gs f h = inr h
among_cases (e ∷ fs) gs f h = ⊎_elim
    (λ (q : e ≡ f). inl (inl q))
    (λ (k : IsAmong (fs ++ gs) f). ⊎_elim (λ (l : IsAmong fs f). inl (inr l)) (λ (l : IsAmong gs f). inr l) (among_cases fs gs f k))
    h

abbrev pub own_feet : List Voice → List Foot
own_feet [] = []
own_feet (v ∷ vs) = own_foot v ∷ own_feet vs

-- ---- feet of rows

abbrev mutual
  pub row_feet : Row → List Foot
  row_feet done = []
  row_feet (job vs rest) = own_feet vs ++ row_feet rest
  row_feet (split lanes ms rest) = all_feet ms ++ (foot_of [] lanes ∷ row_feet rest)

  pub all_feet : Members → List Foot
  all_feet (one r) = row_feet r
  all_feet (more r ms) = row_feet r ++ all_feet ms

abbrev pub list_feet : List Row → List Foot
list_feet [] = []
list_feet (r ∷ rs) = row_feet r ++ list_feet rs

abbrev mutual
  pub IsClearRow : Row → Type 0
  IsClearRow done = Unit {0}
  IsClearRow (job vs rest) = IsClearRow rest
  IsClearRow (split lanes ms rest) = AreAllClear ms × IsClearRow rest

  pub AreAllClear : Members → Type 0
  AreAllClear (one r) = IsClearRow r
  AreAllClear (more r ms) = AreClear (row_feet r) (all_feet ms) × (IsClearRow r × AreAllClear ms)

abbrev pub AreRowsClear : List Row → Type 0
AreRowsClear [] = Unit {0}
AreRowsClear (r ∷ rs) = AreClear (row_feet r) (list_feet rs) × (IsClearRow r × AreRowsClear rs)

-- ---- the foot of a job has the words of such feet

pub record StemsFrom (fs : List Foot) (f : Foot) : Type 0 where
  pub written : (x : ℕ) → writes f x ≡ true → (g : Foot) × (IsAmong fs g × (writes g x ≡ true))
  pub touched : (x : ℕ) → touches f x ≡ true → (g : Foot) × (IsAmong fs g × (touches g x ≡ true))

stems_more : (fs gs : List Foot) (f : Foot) → StemsFrom fs f → ((g : Foot) → IsAmong fs g → IsAmong gs g) → StemsFrom gs f
stems_more fs gs f s h = record {
  written = λ x w. let p = s.written x w in (p.0, (h p.0 p.1.0, p.1.1));
  touched = λ x t. let p = s.touched x t in (p.0, (h p.0 p.1.0, p.1.1));
}

writes_from : (vs : List Voice) (x : ℕ) → covered (all_writes vs) x ≡ true → (g : Foot) × (IsAmong (own_feet vs) g × (writes g x ≡ true))
writes_from [] x h = absurd (true≢false (sym h))
writes_from (v ∷ vs) x h = ⊎_elim
    (λ (k : covered (own_foot v).writes x ≡ true). (own_foot v, (inl refl, k)))
    (λ (k : covered (all_writes vs) x ≡ true). let p = writes_from vs x k in (p.0, (inr p.1.0, p.1.1)))
    (or_cases (covered (own_foot v).writes x) (covered (all_writes vs) x) (sym (has_append (own_foot v).writes (all_writes vs) x) ∙ h))

reads_from : (vs : List Voice) (x : ℕ) → covered (all_reads vs) x ≡ true → (g : Foot) × (IsAmong (own_feet vs) g × (covered g.reads x ≡ true))
reads_from [] x h = absurd (true≢false (sym h))
reads_from (v ∷ vs) x h = ⊎_elim
    (λ (k : covered (own_foot v).reads x ≡ true). (own_foot v, (inl refl, k)))
    (λ (k : covered (all_reads vs) x ≡ true). let p = reads_from vs x k in (p.0, (inr p.1.0, p.1.1)))
    (or_cases (covered (own_foot v).reads x) (covered (all_reads vs) x) (sym (has_append (own_foot v).reads (all_reads vs) x) ∙ h))

stems_job : (vs : List Voice) → StemsFrom (own_feet vs) (foot_of vs [])
stems_job vs = record {
  written = λ x w. writes_from vs x (sym (has_canonical (all_writes vs) x) ∙ w);
  touched = λ x t. ⊎_elim
      (λ (w : covered (foot_of vs []).writes x ≡ true). let p = writes_from vs x (sym (has_canonical (all_writes vs) x) ∙ w) in (p.0, (p.1.0, or_left (covered p.0.writes x) (covered p.0.reads x) p.1.1)))
      (λ (r : covered (foot_of vs []).reads x ≡ true). let p = reads_from vs x (sym (has_canonical (all_reads vs) x) ∙ r) in (p.0, (p.1.0, or_right (covered p.0.writes x) (covered p.0.reads x) p.1.1)))
      (or_cases (covered (foot_of vs []).writes x) (covered (foot_of vs []).reads x) t);
}

stems_joint : (f : Foot) → StemsFrom (f ∷ []) f
stems_joint f = record { written = λ x w. (f, (inl refl, w)); touched = λ x t. (f, (inl refl, t)) }

clear_stems : (fs gs : List Foot) (f g : Foot) → StemsFrom fs f → StemsFrom gs g → AreClear fs gs → Clash f g → ⊥
clear_stems fs gs f g s t clear (x, c) = ⊎_elim
    (λ (d : (writes f x ≡ true) × (touches g x ≡ true)). let p = s.written x d.0 in let q = t.touched x d.1 in clear p.0 q.0 p.1.0 q.1.0 (x, inl (p.1.1, q.1.1)))
    (λ (d : (writes g x ≡ true) × (touches f x ≡ true)). let p = s.touched x d.1 in let q = t.written x d.0 in clear p.0 q.0 p.1.0 q.1.0 (x, inr (q.1.1, p.1.1)))
    c

module _ (at : ℕ → Job) where
  mutual
    stems_in : (n : ℕ) (e : List ℕ) (r : Row) (k : ℕ) → Stands at n e r → n ≤ k → k < n + size r → StemsFrom (row_feet r) ((at k).foot)
    stems_in n e done k s l m = absurd (omega arith)
    stems_in n e (job vs rest) k s l m =
        ⊎_elim
        (λ (g : n < k). stems_more (row_feet rest) (own_feet vs ++ row_feet rest) ((at k).foot) (stems_in (n + 1) (n ∷ []) rest k s.1 (omega arith) (omega arith)) (λ f a. among_right (own_feet vs) (row_feet rest) f a))
        (λ (g : k ≤ n). let q : k ≡ n = omega arith in
        subst (λ (f : Foot). StemsFrom (own_feet vs ++ row_feet rest) f) (sym (ap (λ (j : Job). j.foot) (ap at q ∙ s.0)))
        (stems_more (own_feet vs) (own_feet vs ++ row_feet rest) (foot_of vs []) (stems_job vs) (λ f a. among_left (own_feet vs) (row_feet rest) f a)))
        (cases_lt n k)
    stems_in n e (split lanes ms rest) k s l m =
        let joint : Foot = foot_of [] lanes in
        let all : List Foot = all_feet ms ++ (joint ∷ row_feet rest) in
        ⊎_elim
        (λ (g : k < n + size_all ms). stems_more (all_feet ms) all ((at k).foot) (stems_all n e ms k s.0 l g) (λ f a. among_left (all_feet ms) (joint ∷ row_feet rest) f a))
        (λ (g : n + size_all ms ≤ k). ⊎_elim
        (λ (d : n + size_all ms < k). stems_more (row_feet rest) all ((at k).foot) (stems_in (n + size_all ms + 1) ((n + size_all ms) ∷ []) rest k s.2 (omega arith) (omega arith)) (λ f a. among_right (all_feet ms) (joint ∷ row_feet rest) f (inr a)))
        (λ (d : k ≤ n + size_all ms). let q : k ≡ n + size_all ms = omega arith in
        subst (λ (f : Foot). StemsFrom all f) (sym (ap (λ (j : Job). j.foot) (ap at q ∙ s.1)))
        (stems_more (joint ∷ []) all joint (stems_joint joint) (λ f a. among_right (all_feet ms) (joint ∷ row_feet rest) f (among_left (joint ∷ []) (row_feet rest) f a))))
        (cases_lt (n + size_all ms) k))
        (cases_lt k (n + size_all ms))

    stems_all : (n : ℕ) (e : List ℕ) (ms : Members) (k : ℕ) → StandsAll at n e ms → n ≤ k → k < n + size_all ms → StemsFrom (all_feet ms) ((at k).foot)
    stems_all n e (one r) k s l m = stems_in n e r k s l m
    stems_all n e (more r ms) k s l m =
        ⊎_elim
        (λ (g : k < n + size r). stems_more (row_feet r) (row_feet r ++ all_feet ms) ((at k).foot) (stems_in n e r k s.0 l g) (λ f a. among_left (row_feet r) (all_feet ms) f a))
        (λ (g : n + size r ≤ k). stems_more (all_feet ms) (row_feet r ++ all_feet ms) ((at k).foot) (stems_all (n + size r) e ms k s.1 g (omega arith)) (λ f a. among_right (row_feet r) (all_feet ms) f a))
        (cases_lt k (n + size r))

  -- jobs that stand apart do not clash
  mutual
    apart_clear : (n : ℕ) (e : List ℕ) (r : Row) (i j : ℕ) → Stands at n e r → IsClearRow r → Apart n r i j → Clash ((at i).foot) ((at j).foot) → ⊥
    apart_clear n e done i j s c a k = absurd a
    apart_clear n e (job vs rest) i j s c a k = apart_clear (n + 1) (n ∷ []) rest i j s.1 c a k
    apart_clear n e (split lanes ms rest) i j s c a k =
        ⊎_elim
        (λ (d : ApartAll n ms i j). apart_clear_all n e ms i j s.0 c.0 d k)
        (λ (d : Apart (n + size_all ms + 1) rest i j). apart_clear (n + size_all ms + 1) ((n + size_all ms) ∷ []) rest i j s.2 c.1 d k)
        a

    apart_clear_all : (n : ℕ) (e : List ℕ) (ms : Members) (i j : ℕ) → StandsAll at n e ms → AreAllClear ms → ApartAll n ms i j → Clash ((at i).foot) ((at j).foot) → ⊥
    apart_clear_all n e (one r) i j s c a k = apart_clear n e r i j s c a k
    apart_clear_all n e (more r ms) i j s c a k =
        ⊎_elim
        (λ (d : Across n (size r) (size_all ms) i j).
        clear_stems (row_feet r) (all_feet ms) ((at i).foot) ((at j).foot) (stems_in n e r i s.0 d.0 d.1) (stems_all (n + size r) e ms j s.1 d.2 d.3) c.0 k)
        (λ (d : Apart n r i j ⊎ ApartAll (n + size r) ms i j). ⊎_elim
        (λ (g : Apart n r i j). apart_clear n e r i j s.0 c.1.0 g k)
        (λ (g : ApartAll (n + size r) ms i j). apart_clear_all (n + size r) e ms i j s.1 c.1.1 g k)
        d)
        a

-- ---- the row of nodes

abbrev IsWithin : List Foot → List Foot → Type 0
IsWithin fs gs = (f : Foot) → IsAmong fs f → IsAmong gs f

within_both : (fs gs hs : List Foot) → IsWithin fs hs → IsWithin gs hs → IsWithin (fs ++ gs) hs
within_both fs gs hs a b f h = ⊎_elim (λ (k : IsAmong fs f). a f k) (λ (k : IsAmong gs f). b f k) (among_cases fs gs f h)

within_close : (run : List Voice) (r : Row) → IsWithin (row_feet (close run r)) (own_feet run ++ row_feet r)
within_close [] r f h = h
within_close (v ∷ vs) r f h = h

within_followed : (r q : Row) → IsWithin (row_feet (followed r q)) (row_feet r ++ row_feet q)
within_followed done q f h = h
within_followed (job vs r) q f h =
    let all : List Foot = (own_feet vs ++ row_feet r) ++ row_feet q in
    within_both (own_feet vs) (row_feet (followed r q)) all
    (λ g k. among_left (own_feet vs ++ row_feet r) (row_feet q) g (among_left (own_feet vs) (row_feet r) g k))
    (λ g k. ⊎_elim
    (λ (l : IsAmong (row_feet r) g). among_left (own_feet vs ++ row_feet r) (row_feet q) g (among_right (own_feet vs) (row_feet r) g l))
    (λ (l : IsAmong (row_feet q) g). among_right (own_feet vs ++ row_feet r) (row_feet q) g l)
    (among_cases (row_feet r) (row_feet q) g (within_followed r q g k)))
    f h
within_followed (split lanes ms r) q f h =
    let joint : Foot = foot_of [] lanes in
    let here : List Foot = all_feet ms ++ (joint ∷ row_feet r) in
    within_both (all_feet ms) (joint ∷ row_feet (followed r q)) (here ++ row_feet q)
    (λ g k. among_left here (row_feet q) g (among_left (all_feet ms) (joint ∷ row_feet r) g k))
    (λ g k. ⊎_elim
    (λ (e : joint ≡ g). among_left here (row_feet q) g (among_right (all_feet ms) (joint ∷ row_feet r) g (inl e)))
    (λ (l : IsAmong (row_feet (followed r q)) g). ⊎_elim
    (λ (m : IsAmong (row_feet r) g). among_left here (row_feet q) g (among_right (all_feet ms) (joint ∷ row_feet r) g (inr m)))
    (λ (m : IsAmong (row_feet q) g). among_right here (row_feet q) g m)
    (among_cases (row_feet r) (row_feet q) g (within_followed r q g l)))
    k)
    f h

within_members : (r : Row) (rs : List Row) → IsWithin (all_feet (members r rs)) (list_feet (r ∷ rs))
within_members r [] f h = among_left (row_feet r) [] f h
within_members r (q ∷ rs) f h =
    within_both (row_feet r) (all_feet (members q rs)) (list_feet (r ∷ q ∷ rs))
    (λ g k. among_left (row_feet r) (list_feet (q ∷ rs)) g k)
    (λ g k. among_right (row_feet r) (list_feet (q ∷ rs)) g (within_members q rs g k))
    f h

within_joined : (lanes : List Moved) (rs : List Row) → IsWithin (row_feet (joined lanes rs)) (list_feet rs ++ joint_feet (Some lanes))
within_joined lanes [] f h = absurd h
within_joined lanes (r ∷ []) f h = among_left (list_feet (r ∷ [])) (joint_feet (Some lanes)) f (among_left (row_feet r) [] f h)
within_joined lanes (r ∷ q ∷ rs) f h =
    let all : List Foot = list_feet (r ∷ q ∷ rs) in
    within_both (all_feet (members r (q ∷ rs))) (foot_of [] lanes ∷ []) (all ++ joint_feet (Some lanes))
    (λ g k. among_left all (joint_feet (Some lanes)) g (within_members r (q ∷ rs) g k))
    (λ g k. among_right all (joint_feet (Some lanes)) g k)
    f h

within_keep : (r : Row) (rs : List Row) → IsWithin (list_feet (keep r rs)) (row_feet r ++ list_feet rs)
within_keep done rs f h = h
within_keep (job vs a) rs f h = h
within_keep (split lanes ms a) rs f h = h

-- a group's row, and the rows of what follows
within_after : (run : List Voice) (r rest : Row) (inner after : List Foot) → IsWithin (row_feet r) inner → IsWithin (row_feet rest) after → IsWithin (row_feet (close run (followed r rest))) (own_feet run ++ (inner ++ after))
within_after run r rest inner after a b f h = ⊎_elim
    (λ (k : IsAmong (own_feet run) f). among_left (own_feet run) (inner ++ after) f k)
    (λ (k : IsAmong (row_feet (followed r rest)) f). among_right (own_feet run) (inner ++ after) f (⊎_elim
    (λ (l : IsAmong (row_feet r) f). among_left inner after f (a f l))
    (λ (l : IsAmong (row_feet rest) f). among_right inner after f (b f l))
    (among_cases (row_feet r) (row_feet rest) f (within_followed r rest f k))))
    (among_cases (own_feet run) (row_feet (followed r rest)) f (within_close run (followed r rest) f h))

snoc_feet : (run : List Voice) (v : Voice) (fs : List Foot) → IsWithin (own_feet (run ++ v ∷ []) ++ fs) (own_feet run ++ (own_foot v ∷ fs))
snoc_feet [] v fs f h = h
snoc_feet (u ∷ us) v fs f h = ⊎_elim (λ (e : own_foot u ≡ f). inl e) (λ (k : IsAmong (own_feet (us ++ v ∷ []) ++ fs) f). inr (snoc_feet us v fs f k)) h

-- a group that is split
within_split : (lanes : List Moved) (inner : HeardNodes) → IsWithin (list_feet (rows_of inner)) (feet_below inner) → IsWithin (row_feet (joined lanes (rows_of inner))) (feet_below inner ++ joint_feet (Some lanes))
within_split lanes inner w f h = ⊎_elim
    (λ (k : IsAmong (list_feet (rows_of inner)) f). among_left (feet_below inner) (joint_feet (Some lanes)) f (w f k))
    (λ (k : IsAmong (joint_feet (Some lanes)) f). among_right (feet_below inner) (joint_feet (Some lanes)) f k)
    (among_cases (list_feet (rows_of inner)) (joint_feet (Some lanes)) f (within_joined lanes (rows_of inner) f h))

mutual
  within_row : (run : List Voice) (nodes : HeardNodes) → IsWithin (row_feet (row_of run nodes)) (own_feet run ++ feet_below nodes)
  within_row run none f h = within_close run done f h
  within_row run (synth v rest) f h = snoc_feet run v (feet_below rest) f (within_row (run ++ v ∷ []) rest f h)
  within_row run (group None inner rest) f h =
      within_after run (row_of [] inner) (row_of [] rest) (feet_below inner ++ []) (feet_below rest) (λ g k. among_left (feet_below inner) [] g (within_row [] inner g k)) (λ g k. within_row [] rest g k) f h
  within_row run (group (Some lanes) inner rest) f h =
      within_after run (joined lanes (rows_of inner)) (row_of [] rest) (feet_below inner ++ joint_feet (Some lanes)) (feet_below rest) (λ g k. within_split lanes inner (within_rows inner) g k) (λ g k. within_row [] rest g k) f h

  within_rows : (nodes : HeardNodes) → IsWithin (list_feet (rows_of nodes)) (feet_below nodes)
  within_rows none f h = h
  within_rows (synth v rest) f h = ⊎_elim (λ (e : own_foot v ≡ f). inl e) (λ (k : IsAmong (list_feet (rows_of rest)) f). inr (within_rows rest f k)) h
  within_rows (group None inner rest) f h = ⊎_elim
      (λ (k : IsAmong (row_feet (row_of [] inner)) f). among_left (feet_below inner ++ []) (feet_below rest) f (among_left (feet_below inner) [] f (within_row [] inner f k)))
      (λ (k : IsAmong (list_feet (rows_of rest)) f). among_right (feet_below inner ++ []) (feet_below rest) f (within_rows rest f k))
      (among_cases (row_feet (row_of [] inner)) (list_feet (rows_of rest)) f (within_keep (row_of [] inner) (rows_of rest) f h))
  within_rows (group (Some lanes) inner rest) f h = ⊎_elim
      (λ (k : IsAmong (row_feet (joined lanes (rows_of inner))) f). among_left (feet_below inner ++ joint_feet (Some lanes)) (feet_below rest) f (within_split lanes inner (within_rows inner) f k))
      (λ (k : IsAmong (list_feet (rows_of rest)) f). among_right (feet_below inner ++ joint_feet (Some lanes)) (feet_below rest) f (within_rows rest f k))
      (among_cases (row_feet (joined lanes (rows_of inner))) (list_feet (rows_of rest)) f (within_keep (joined lanes (rows_of inner)) (rows_of rest) f h))

-- ---- clear nodes make clear rows

clear_close : (run : List Voice) (r : Row) → IsClearRow r → IsClearRow (close run r)
clear_close [] r c = c
clear_close (v ∷ vs) r c = c

clear_followed : (r q : Row) → IsClearRow r → IsClearRow q → IsClearRow (followed r q)
clear_followed done q a b = b
clear_followed (job vs r) q a b = clear_followed r q a b
clear_followed (split lanes ms r) q a b = (a.0, clear_followed r q a.1 b)

clear_keep : (r : Row) (rs : List Row) → AreClear (row_feet r) (list_feet rs) → IsClearRow r → AreRowsClear rs → AreRowsClear (keep r rs)
clear_keep done rs a b c = c
clear_keep (job vs r) rs a b c = (a, (b, c))
clear_keep (split lanes ms r) rs a b c = (a, (b, c))

clear_all : (r : Row) (rs : List Row) → AreRowsClear (r ∷ rs) → AreAllClear (members r rs)
clear_all r [] c = c.1.0
clear_all r (q ∷ rs) c = ((λ f g a b. c.0 f g a (within_members q rs g b)), (c.1.0, clear_all q rs c.1.1))

clear_joined : (lanes : List Moved) (rs : List Row) → AreRowsClear rs → IsClearRow (joined lanes rs)
clear_joined lanes [] c = tt
clear_joined lanes (r ∷ []) c = c.1.0
clear_joined lanes (r ∷ q ∷ rs) c = (clear_all r (q ∷ rs) c, tt)

mutual
  pub clear_row : (run : List Voice) (nodes : HeardNodes) → SplitsAreClear nodes → IsClearRow (row_of run nodes)
  clear_row run none c = clear_close run done tt
  clear_row run (synth v rest) c = clear_row (run ++ v ∷ []) rest c
  clear_row run (group None inner rest) c =
      clear_close run (followed (row_of [] inner) (row_of [] rest)) (clear_followed (row_of [] inner) (row_of [] rest) (clear_row [] inner c.1.0) (clear_row [] rest c.1.1))
  clear_row run (group (Some lanes) inner rest) c =
      clear_close run (followed (joined lanes (rows_of inner)) (row_of [] rest))
      (clear_followed (joined lanes (rows_of inner)) (row_of [] rest) (clear_joined lanes (rows_of inner) (clear_rows inner (c.0 refl) c.1.0)) (clear_row [] rest c.1.1))

  pub clear_rows : (nodes : HeardNodes) → MembersAreClear nodes → SplitsAreClear nodes → AreRowsClear (rows_of nodes)
  clear_rows none m s = tt
  clear_rows (synth v rest) m s = ((λ f g a b. m.0 f g a (within_rows rest g b)), (tt, clear_rows rest m.1 s))
  clear_rows (group None inner rest) m s =
      clear_keep (row_of [] inner) (rows_of rest)
      (λ f g a b. m.0 f g (among_left (feet_below inner) [] f (within_row [] inner f a)) (within_rows rest g b))
      (clear_row [] inner s.1.0) (clear_rows rest m.1 s.1.1)
  clear_rows (group (Some lanes) inner rest) m s =
      clear_keep (joined lanes (rows_of inner)) (rows_of rest)
      (λ f g a b. m.0 f g (within_split lanes inner (within_rows inner) f a) (within_rows rest g b))
      (clear_joined lanes (rows_of inner) (clear_rows inner (s.0 refl) s.1.0)) (clear_rows rest m.1 s.1.1)

-- ---- no races

module _ (nodes : HeardNodes) (clear : SplitsAreClear nodes) where
  abbrev js : List Job
  js = plan_of nodes

  abbrev row : Row
  row = row_of [] nodes

  rising : (i j : ℕ) → i < j → j < length js → Clash (foot_at js i) (foot_at js j) → Ordered js i j
  rising i j l m clash =
      let long : length js ≡ size row = length-jobs 0 [] row in
      ⊎_elim
      (λ (d : Path (predecessors js) i j). from_path js d)
      (λ (d : Apart 0 row i j). absurd (apart_clear (job_at js) 0 [] row i j (whole row) (clear_row [] nodes clear) d clash))
      (order (predecessors js) 0 [] row i j (numbers.fits (job_at js) 0 [] row (whole row)) (omega arith) l (omega (arith, long, m)))

  turned : (f g : Foot) → Clash f g → Clash g f
  turned f g c = (c.0, ⊎_elim (λ h. inr h) (λ h. inl h) c.1)

  pub race_free : IsRaceFree js
  race_free i j l m other clash =
      ⊎_elim
      (λ (e : i ≡ j). absurd (other e))
      (λ (o : (i < j) ⊎ (j < i)). ⊎_elim (λ (h : i < j). inl (rising i j h m clash)) (λ (h : j < i). inr (rising j i h l (turned (foot_at js i) (foot_at js j) clash))) o)
      (cases_order i j)
