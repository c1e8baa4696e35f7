-- What a lower job plays comes first, and the whole law of the plan.
use Rattle.std.proofs.Common.{◌≡◌, ℕ, ◌+◌, ◌<◌, ◌≤◌, ℤ, true, false, ◌&&◌, List, [], ◌∷◌, ◌++◌, sym, ap, ◌∙◌, subst, ⊎_elim, arith, true≢false}
use Rattle.std.proofs.lemmas.Bool.{cases_lt, or_cases, or_left, or_right, and_parts, and_from}
use Rattle.std.specs.Ordering.{int_eq}
use Rattle.sn_round.specs.declared.jobs.Job.{Job}
use Rattle.sn_round.specs.Jobs.{job_at, Ordered}
use Rattle.sn_graph.specs.declared.nodes.Voice.{Voice}
use Rattle.sn_graph.specs.Voices.{HeardNodes, voices, has, Once}
use Rattle.sn_graph.specs.Rows.{Row, Members, done, job, split, one, more, size, size_all}
use Rattle.sn_graph.specs.Plans.{is_listed, row_of, plan_of, Plays, lowest_is_split, IsPlanned}
use Rattle.sn_graph.proofs.Shapes.{IsPlan, Stands, StandsAll, heard, heard_all, comes}
use Rattle.sn_graph.proofs.Numbers.{listed-ids, has-left, has-right, plays_in, plays_all}
use Rattle.sn_graph.proofs.Parting.{heard-row}
use Rattle.sn_graph.proofs.Planning.{is_plan, whole, played}
use Rattle.sn_graph.proofs.Lowest.{parted_is_lowest}
use Rattle.sn_graph.proofs.Jobwise.{feet_are}
use Rattle.sn_graph.proofs.Stepping.{steps_are}

pub comes_left : (xs ys : List Voice) (a b : ℤ) → comes xs a b ≡ true → comes (xs ++ ys) a b ≡ true
comes_left [] ys a b h = absurd (true≢false (sym h))
comes_left (s ∷ ss) ys a b h =
    ⊎_elim
    (λ (k : (int_eq s.id a && has ss b) ≡ true). let d = and_parts (int_eq s.id a) (has ss b) k in or_left (int_eq s.id a && has (ss ++ ys) b) (comes (ss ++ ys) a b) (and_from (int_eq s.id a) (has (ss ++ ys) b) d.0 (has-left ss ys b d.1)))
    (λ (k : comes ss a b ≡ true). or_right (int_eq s.id a && has (ss ++ ys) b) (comes (ss ++ ys) a b) (comes_left ss ys a b k))
    (or_cases (int_eq s.id a && has ss b) (comes ss a b) h)

pub comes_across : (xs ys : List Voice) (a b : ℤ) → has xs a ≡ true → has ys b ≡ true → comes (xs ++ ys) a b ≡ true
comes_across [] ys a b h k = absurd (true≢false (sym h))
comes_across (s ∷ ss) ys a b h k =
    ⊎_elim
    (λ (e : int_eq s.id a ≡ true). or_left (int_eq s.id a && has (ss ++ ys) b) (comes (ss ++ ys) a b) (and_from (int_eq s.id a) (has (ss ++ ys) b) e (has-right ss ys b k)))
    (λ (e : has ss a ≡ true). or_right (int_eq s.id a && has (ss ++ ys) b) (comes (ss ++ ys) a b) (comes_across ss ys a b e k))
    (or_cases (int_eq s.id a) (has ss a) h)

pub comes_right : (xs ys : List Voice) (a b : ℤ) → comes ys a b ≡ true → comes (xs ++ ys) a b ≡ true
comes_right [] ys a b h = h
comes_right (s ∷ ss) ys a b h = or_right (int_eq s.id a && has (ss ++ ys) b) (comes (ss ++ ys) a b) (comes_right ss ys a b h)

module _ (at : ℕ → Job) where
  abbrev Plays_at : ℕ → ℤ → Type 0
  Plays_at k a = is_listed ((at k).synths) a ≡ true

  mutual
    pub comes_in : (n : ℕ) (e : List ℕ) (r : Row) (i j : ℕ) (a b : ℤ) → Stands at n e r → n ≤ i → i < j → j < n + size r → Plays_at i a → Plays_at j b → comes (heard r) a b ≡ true
    comes_in n e done i j a b s l m h p q = absurd (omega arith)
    comes_in n e (job ss rest) i j a b s l m h p q =
        ⊎_elim
        (λ (g : n < i). comes_right ss (heard rest) a b (comes_in (n + 1) (n ∷ []) rest i j a b s.1 (omega arith) m (omega arith) p q))
        (λ (g : i ≤ n). let k : i ≡ n = omega arith in
        comes_across ss (heard rest) a b (sym (listed-ids ss a) ∙ (sym (ap (λ (x : Job). is_listed x.synths a) (ap at k ∙ s.0)) ∙ p)) (plays_in at (n + 1) (n ∷ []) rest j b s.1 (omega arith) (omega arith) q))
        (cases_lt n i)
    comes_in n e (split lanes ms rest) i j a b s l m h p q =
        let mute : (k : ℕ) (c : ℤ) → k ≡ n + size_all ms → Plays_at k c → ⊥ = λ k c u t. true≢false (sym t ∙ ap (λ (x : Job). is_listed x.synths c) (ap at u ∙ s.1)) in
        ⊎_elim
        (λ (g : j < n + size_all ms). comes_left (heard_all ms) (heard rest) a b (comes_all n e ms i j a b s.0 l m g p q))
        (λ (g : n + size_all ms ≤ j). ⊎_elim
        (λ (d : n + size_all ms < j). ⊎_elim
        (λ (k : i < n + size_all ms). comes_across (heard_all ms) (heard rest) a b (plays_all at n e ms i a s.0 l k p) (plays_in at (n + size_all ms + 1) ((n + size_all ms) ∷ []) rest j b s.2 (omega arith) (omega arith) q))
        (λ (k : n + size_all ms ≤ i). ⊎_elim
        (λ (u : n + size_all ms < i). comes_right (heard_all ms) (heard rest) a b (comes_in (n + size_all ms + 1) ((n + size_all ms) ∷ []) rest i j a b s.2 (omega arith) m (omega arith) p q))
        (λ (u : i ≤ n + size_all ms). absurd (mute i a (omega arith) p))
        (cases_lt (n + size_all ms) i))
        (cases_lt i (n + size_all ms)))
        (λ (d : j ≤ n + size_all ms). absurd (mute j b (omega arith) q))
        (cases_lt (n + size_all ms) j))
        (cases_lt j (n + size_all ms))

    pub comes_all : (n : ℕ) (e : List ℕ) (ms : Members) (i j : ℕ) (a b : ℤ) → StandsAll at n e ms → n ≤ i → i < j → j < n + size_all ms → Plays_at i a → Plays_at j b → comes (heard_all ms) a b ≡ true
    comes_all n e (one r) i j a b s l m h p q = comes_in n e r i j a b s l m h p q
    comes_all n e (more r ms) i j a b s l m h p q =
        ⊎_elim
        (λ (g : j < n + size r). comes_left (heard r) (heard_all ms) a b (comes_in n e r i j a b s.0 l m g p q))
        (λ (g : n + size r ≤ j). ⊎_elim
        (λ (k : i < n + size r). comes_across (heard r) (heard_all ms) a b (plays_in at n e r i a s.0 l k p) (plays_all at (n + size r) e ms j b s.1 g (omega arith) q))
        (λ (k : n + size r ≤ i). comes_right (heard r) (heard_all ms) a b (comes_all (n + size r) e ms i j a b s.1 k m (omega arith) p q))
        (cases_lt i (n + size r)))
        (cases_lt j (n + size r))

module _ (nodes : HeardNodes) (once : Once (voices nodes)) where
  pub comes_first : (i j : ℕ) (a b : ℤ) → i < j → Plays (plan_of nodes) i a → Plays (plan_of nodes) j b → comes (voices nodes) a b ≡ true
  comes_first i j a b l p q =
      subst (λ (ss : List Voice). comes ss a b ≡ true) (heard-row [] nodes)
      (comes_in (job_at (plan_of nodes)) 0 [] (row_of [] nodes) i j a b (whole (row_of [] nodes)) (omega arith) l (played nodes once j b q) p q)

  pub is_planned : IsPlanned nodes (plan_of nodes)
  is_planned =
      let p : IsPlan nodes (plan_of nodes) = is_plan nodes once in
      record {
        synths = p.synths;
        ordered = λ i j a b u v. (
          λ (o : Ordered (plan_of nodes) i j). let d = (p.ordered i j a b u v).0 o in (d.0, sym (parted_is_lowest false nodes a b once (comes_first i j a b d.0 u v)) ∙ d.1),
          λ (d : (i < j) × (lowest_is_split false nodes a b ≡ false)). (p.ordered i j a b u v).1 (d.0, parted_is_lowest false nodes a b once (comes_first i j a b d.0 u v) ∙ d.1),
        );
        feet = feet_are nodes once;
        steps = λ j. steps_are nodes j;
        few = p.few;
      }
