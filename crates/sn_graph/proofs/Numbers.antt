-- The jobs of a row by their numbers.
use Rattle.std.proofs.Common.{◌≡◌, ◌⊎◌, ℕ, ◌+◌, ◌<◌, ◌≤◌, ℤ, Bool, true, false, ◌&&◌, ◌||◌, List, [], ◌∷◌, ◌++◌, sym, refl, ap, ◌∙◌, ⊎_elim, inl, inr, arith, true≢false}
use Rattle.std.proofs.lemmas.Bool.{cases_lt, or_cases, or_parts, or_left, or_right, and_parts, and_from}
use Rattle.std.specs.Ordering.{int_eq}
use Rattle.std.proofs.lemmas.Bool.Decides.{Decides-int_eq}
use Rattle.sn_mem.specs.declared.moves.Moved.{Moved}
use Rattle.sn_round.specs.declared.jobs.Job.{Job}
use Rattle.sn_graph.specs.declared.nodes.Voice.{Voice}
use Rattle.sn_graph.specs.Voices.{ids_of, has, Once}
use Rattle.sn_graph.specs.Rows.{Row, Members, done, job, split, one, more, size, size_all}
use Rattle.sn_graph.specs.Plans.{is_listed}
use Rattle.sn_graph.proofs.Shapes.{Fits, FitsAll, Apart, ApartAll, Stands, StandsAll, heard, heard_all, parts, parts_all}
use Rattle.sn_graph.proofs.Parting.{has-append}

-- equal numbers are the same
pub same : (x y : ℤ) → int_eq x y ≡ true → x ≡ y
same x y h = (Decides-int_eq x y).0 h

pub listed-ids : (ss : List Voice) (a : ℤ) → is_listed (ids_of ss) a ≡ has ss a
listed-ids [] a = refl
listed-ids (s ∷ ss) a = ap (λ (t : Bool). int_eq s.id a || t) (listed-ids ss a)

pub has-left : (xs ys : List Voice) (a : ℤ) → has xs a ≡ true → has (xs ++ ys) a ≡ true
has-left xs ys a h = has-append xs ys a ∙ or_left (has xs a) (has ys a) h

pub has-right : (xs ys : List Voice) (a : ℤ) → has ys a ≡ true → has (xs ++ ys) a ≡ true
has-right xs ys a h = has-append xs ys a ∙ or_right (has xs a) (has ys a) h

pub once-left : (xs ys : List Voice) → Once (xs ++ ys) → Once xs
once-left [] ys o = tt
once-left (x ∷ xs) ys o = ((or_parts (has xs x.id) (has ys x.id) (sym (has-append xs ys x.id) ∙ o.0)).0, once-left xs ys o.1)

pub once-right : (xs ys : List Voice) → Once (xs ++ ys) → Once ys
once-right [] ys o = o
once-right (x ∷ xs) ys o = once-right xs ys o.1

pub once-both : (xs ys : List Voice) (a : ℤ) → Once (xs ++ ys) → has xs a ≡ true → has ys a ≡ true → ⊥
once-both [] ys a o h g = true≢false (sym h)
once-both (x ∷ xs) ys a o h g =
    ⊎_elim
    (λ (e : int_eq x.id a ≡ true). let q : has ys x.id ≡ false = (or_parts (has xs x.id) (has ys x.id) (sym (has-append xs ys x.id) ∙ o.0)).1 in true≢false (sym g ∙ (sym (ap (has ys) (same x.id a e)) ∙ q)))
    (λ (e : has xs a ≡ true). once-both xs ys a o.1 e g)
    (or_cases (int_eq x.id a) (has xs a) h)

module _ (at : ℕ → Job) where
  abbrev pub before : ℕ → List ℕ
  before k = (at k).before

  abbrev pub Plays : ℕ → ℤ → Type 0
  Plays k a = is_listed ((at k).synths) a ≡ true

  mutual
    pub fits : (n : ℕ) (e : List ℕ) (r : Row) → Stands at n e r → Fits before n e r
    fits n e done s = tt
    fits n e (job ss rest) s = (ap (λ (j : Job). j.before) s.0, fits (n + 1) (n ∷ []) rest s.1)
    fits n e (split lanes ms rest) s = (fits_all n e ms s.0, ap (λ (j : Job). j.before) s.1, fits (n + size_all ms + 1) ((n + size_all ms) ∷ []) rest s.2)

    pub fits_all : (n : ℕ) (e : List ℕ) (ms : Members) → StandsAll at n e ms → FitsAll before n e ms
    fits_all n e (one r) s = fits n e r s
    fits_all n e (more r ms) s = (fits n e r s.0, fits_all (n + size r) e ms s.1)

  -- what a job of the row plays is heard in it
  mutual
    pub plays_in : (n : ℕ) (e : List ℕ) (r : Row) (k : ℕ) (a : ℤ) → Stands at n e r → n ≤ k → k < n + size r → Plays k a → has (heard r) a ≡ true
    plays_in n e done k a s l m p = absurd (omega arith)
    plays_in n e (job ss rest) k a s l m p =
        ⊎_elim
        (λ (g : n < k). has-right ss (heard rest) a (plays_in (n + 1) (n ∷ []) rest k a s.1 (omega arith) (omega arith) p))
        (λ (g : k ≤ n). let q : k ≡ n = omega arith in has-left ss (heard rest) a (sym (listed-ids ss a) ∙ (sym (ap (λ (j : Job). is_listed j.synths a) (ap at q ∙ s.0)) ∙ p)))
        (cases_lt n k)
    plays_in n e (split lanes ms rest) k a s l m p =
        ⊎_elim
        (λ (g : k < n + size_all ms). has-left (heard_all ms) (heard rest) a (plays_all n e ms k a s.0 l g p))
        (λ (g : n + size_all ms ≤ k). ⊎_elim
        (λ (d : n + size_all ms < k). has-right (heard_all ms) (heard rest) a (plays_in (n + size_all ms + 1) ((n + size_all ms) ∷ []) rest k a s.2 (omega arith) (omega arith) p))
        (λ (d : k ≤ n + size_all ms). let q : k ≡ n + size_all ms = omega arith in absurd (true≢false (sym p ∙ ap (λ (j : Job). is_listed j.synths a) (ap at q ∙ s.1))))
        (cases_lt (n + size_all ms) k))
        (cases_lt k (n + size_all ms))

    pub plays_all : (n : ℕ) (e : List ℕ) (ms : Members) (k : ℕ) (a : ℤ) → StandsAll at n e ms → n ≤ k → k < n + size_all ms → Plays k a → has (heard_all ms) a ≡ true
    plays_all n e (one r) k a s l m p = plays_in n e r k a s l m p
    plays_all n e (more r ms) k a s l m p =
        ⊎_elim
        (λ (g : k < n + size r). has-left (heard r) (heard_all ms) a (plays_in n e r k a s.0 l g p))
        (λ (g : n + size r ≤ k). has-right (heard r) (heard_all ms) a (plays_all (n + size r) e ms k a s.1 g (omega arith) p))
        (cases_lt k (n + size r))

  -- two jobs that are apart play synths that are parted
  mutual
    pub apart_parts : (n : ℕ) (e : List ℕ) (r : Row) (i j : ℕ) (a b : ℤ) → Stands at n e r → Plays i a → Plays j b → Apart n r i j → parts r a b ≡ true
    apart_parts n e done i j a b s p q h = absurd h
    apart_parts n e (job ss rest) i j a b s p q h = apart_parts (n + 1) (n ∷ []) rest i j a b s.1 p q h
    apart_parts n e (split lanes ms rest) i j a b s p q h =
        ⊎_elim
        (λ (d : ApartAll n ms i j). or_left (parts_all ms a b) (parts rest a b) (apart_parts_all n e ms i j a b s.0 p q d))
        (λ (d : Apart (n + size_all ms + 1) rest i j). or_right (parts_all ms a b) (parts rest a b) (apart_parts (n + size_all ms + 1) ((n + size_all ms) ∷ []) rest i j a b s.2 p q d))
        h

    pub apart_parts_all : (n : ℕ) (e : List ℕ) (ms : Members) (i j : ℕ) (a b : ℤ) → StandsAll at n e ms → Plays i a → Plays j b → ApartAll n ms i j → parts_all ms a b ≡ true
    apart_parts_all n e (one r) i j a b s p q h = apart_parts n e r i j a b s p q h
    apart_parts_all n e (more r ms) i j a b s p q h =
        let across : Bool = has (heard r) a && has (heard_all ms) b in
        let deeper : Bool = parts r a b || parts_all ms a b in
        ⊎_elim
        (λ d. or_left across deeper (and_from (has (heard r) a) (has (heard_all ms) b) (plays_in n e r i a s.0 d.0 d.1 p) (plays_all (n + size r) e ms j b s.1 d.2 d.3 q)))
        (λ (d : Apart n r i j ⊎ ApartAll (n + size r) ms i j). or_right across deeper (⊎_elim
        (λ (g : Apart n r i j). or_left (parts r a b) (parts_all ms a b) (apart_parts n e r i j a b s.0 p q g))
        (λ (g : ApartAll (n + size r) ms i j). or_right (parts r a b) (parts_all ms a b) (apart_parts_all (n + size r) e ms i j a b s.1 p q g))
        d))
        h

-- what is parted is heard
mutual
  pub parts_heard : (r : Row) (a b : ℤ) → parts r a b ≡ true → (has (heard r) a ≡ true) × (has (heard r) b ≡ true)
  parts_heard done a b h = absurd (true≢false (sym h))
  parts_heard (job ss rest) a b h = let d = parts_heard rest a b h in (has-right ss (heard rest) a d.0, has-right ss (heard rest) b d.1)
  parts_heard (split lanes ms rest) a b h =
      ⊎_elim
      (λ (g : parts_all ms a b ≡ true). let d = parts_heard_all ms a b g in (has-left (heard_all ms) (heard rest) a d.0, has-left (heard_all ms) (heard rest) b d.1))
      (λ (g : parts rest a b ≡ true). let d = parts_heard rest a b g in (has-right (heard_all ms) (heard rest) a d.0, has-right (heard_all ms) (heard rest) b d.1))
      (or_cases (parts_all ms a b) (parts rest a b) h)

  pub parts_heard_all : (ms : Members) (a b : ℤ) → parts_all ms a b ≡ true → (has (heard_all ms) a ≡ true) × (has (heard_all ms) b ≡ true)
  parts_heard_all (one r) a b h = parts_heard r a b h
  parts_heard_all (more r ms) a b h =
      ⊎_elim
      (λ (g : (has (heard r) a && has (heard_all ms) b) ≡ true). let d = and_parts (has (heard r) a) (has (heard_all ms) b) g in (has-left (heard r) (heard_all ms) a d.0, has-right (heard r) (heard_all ms) b d.1))
      (λ (g : (parts r a b || parts_all ms a b) ≡ true). ⊎_elim
      (λ (k : parts r a b ≡ true). let d = parts_heard r a b k in (has-left (heard r) (heard_all ms) a d.0, has-left (heard r) (heard_all ms) b d.1))
      (λ (k : parts_all ms a b ≡ true). let d = parts_heard_all ms a b k in (has-right (heard r) (heard_all ms) a d.0, has-right (heard r) (heard_all ms) b d.1))
      (or_cases (parts r a b) (parts_all ms a b) g))
      (or_cases (has (heard r) a && has (heard_all ms) b) (parts r a b || parts_all ms a b) h)

module _ (at : ℕ → Job) where
  -- a job of a split that plays what its members have, or what the rest has
  pub in_members : (n : ℕ) (e : List ℕ) (lanes : List Moved) (ms : Members) (rest : Row) (k : ℕ) (a : ℤ) → Stands at n e (split lanes ms rest) → Once (heard_all ms ++ heard rest) → n ≤ k → k < n + size (split lanes ms rest)
      → Plays at k a → has (heard_all ms) a ≡ true → k < n + size_all ms
  in_members n e lanes ms rest k a s o l m p h =
      ⊎_elim
      (λ (g : k < n + size_all ms). g)
      (λ (g : n + size_all ms ≤ k). ⊎_elim
      (λ (d : n + size_all ms < k). absurd (once-both (heard_all ms) (heard rest) a o h (plays_in at (n + size_all ms + 1) ((n + size_all ms) ∷ []) rest k a s.2 (omega arith) (omega arith) p)))
      (λ (d : k ≤ n + size_all ms). let q : k ≡ n + size_all ms = omega arith in absurd (true≢false (sym p ∙ ap (λ (j : Job). is_listed j.synths a) (ap at q ∙ s.1))))
      (cases_lt (n + size_all ms) k))
      (cases_lt k (n + size_all ms))

  pub in_rest : (n : ℕ) (e : List ℕ) (lanes : List Moved) (ms : Members) (rest : Row) (k : ℕ) (a : ℤ) → Stands at n e (split lanes ms rest) → Once (heard_all ms ++ heard rest) → n ≤ k → k < n + size (split lanes ms rest)
      → Plays at k a → has (heard rest) a ≡ true → n + size_all ms + 1 ≤ k
  in_rest n e lanes ms rest k a s o l m p h =
      ⊎_elim
      (λ (g : k < n + size_all ms). absurd (once-both (heard_all ms) (heard rest) a o (plays_all at n e ms k a s.0 l g p) h))
      (λ (g : n + size_all ms ≤ k). ⊎_elim
      (λ (d : n + size_all ms < k). omega arith)
      (λ (d : k ≤ n + size_all ms). let q : k ≡ n + size_all ms = omega arith in absurd (true≢false (sym p ∙ ap (λ (j : Job). is_listed j.synths a) (ap at q ∙ s.1))))
      (cases_lt (n + size_all ms) k))
      (cases_lt k (n + size_all ms))

  pub past_first : (n : ℕ) (e : List ℕ) (ss : List Voice) (rest : Row) (k : ℕ) (a : ℤ) → Stands at n e (job ss rest) → Once (ss ++ heard rest) → n ≤ k → Plays at k a → has (heard rest) a ≡ true → n + 1 ≤ k
  past_first n e ss rest k a s o l p h =
      ⊎_elim
      (λ (g : n < k). omega arith)
      (λ (g : k ≤ n). let q : k ≡ n = omega arith in absurd (once-both ss (heard rest) a o (sym (listed-ids ss a) ∙ (sym (ap (λ (j : Job). is_listed j.synths a) (ap at q ∙ s.0)) ∙ p)) h))
      (cases_lt n k)

  pub in_member : (n : ℕ) (e : List ℕ) (r : Row) (ms : Members) (k : ℕ) (a : ℤ) → StandsAll at n e (more r ms) → Once (heard r ++ heard_all ms) → n ≤ k → k < n + size_all (more r ms)
      → Plays at k a → has (heard r) a ≡ true → k < n + size r
  in_member n e r ms k a s o l m p h =
      ⊎_elim
      (λ (g : k < n + size r). g)
      (λ (g : n + size r ≤ k). absurd (once-both (heard r) (heard_all ms) a o h (plays_all at (n + size r) e ms k a s.1 g (omega arith) p)))
      (cases_lt k (n + size r))

  pub in_others : (n : ℕ) (e : List ℕ) (r : Row) (ms : Members) (k : ℕ) (a : ℤ) → StandsAll at n e (more r ms) → Once (heard r ++ heard_all ms) → n ≤ k → k < n + size_all (more r ms)
      → Plays at k a → has (heard_all ms) a ≡ true → n + size r ≤ k
  in_others n e r ms k a s o l m p h =
      ⊎_elim
      (λ (g : k < n + size r). absurd (once-both (heard r) (heard_all ms) a o (plays_in at n e r k a s.0 l g p) h))
      (λ (g : n + size r ≤ k). g)
      (cases_lt k (n + size r))

  -- jobs that play parted synths are apart
  mutual
    pub parts_apart : (n : ℕ) (e : List ℕ) (r : Row) (i j : ℕ) (a b : ℤ) → Stands at n e r → Once (heard r) → n ≤ i → i < n + size r → n ≤ j → j < n + size r → Plays at i a → Plays at j b → parts r a b ≡ true → Apart n r i j
    parts_apart n e done i j a b s o l m u v p q h = absurd (true≢false (sym h))
    parts_apart n e (job ss rest) i j a b s o l m u v p q h =
        let d : (has (heard rest) a ≡ true) × (has (heard rest) b ≡ true) = parts_heard rest a b h in
        parts_apart (n + 1) (n ∷ []) rest i j a b s.1 (once-right ss (heard rest) o) (past_first n e ss rest i a s o l p d.0) (omega arith) (past_first n e ss rest j b s o u q d.1) (omega arith) p q h
    parts_apart n e (split lanes ms rest) i j a b s o l m u v p q h =
        ⊎_elim
        (λ (g : parts_all ms a b ≡ true). let d : (has (heard_all ms) a ≡ true) × (has (heard_all ms) b ≡ true) = parts_heard_all ms a b g in
        inl (parts_apart_all n e ms i j a b s.0 (once-left (heard_all ms) (heard rest) o) l (in_members n e lanes ms rest i a s o l m p d.0) u (in_members n e lanes ms rest j b s o u v q d.1) p q g))
        (λ (g : parts rest a b ≡ true). let d : (has (heard rest) a ≡ true) × (has (heard rest) b ≡ true) = parts_heard rest a b g in
        inr (parts_apart (n + size_all ms + 1) ((n + size_all ms) ∷ []) rest i j a b s.2 (once-right (heard_all ms) (heard rest) o) (in_rest n e lanes ms rest i a s o l m p d.0) (omega arith) (in_rest n e lanes ms rest j b s o u v q d.1) (omega arith) p q g))
        (or_cases (parts_all ms a b) (parts rest a b) h)

    pub parts_apart_all : (n : ℕ) (e : List ℕ) (ms : Members) (i j : ℕ) (a b : ℤ) → StandsAll at n e ms → Once (heard_all ms) → n ≤ i → i < n + size_all ms → n ≤ j → j < n + size_all ms → Plays at i a → Plays at j b → parts_all ms a b ≡ true → ApartAll n ms i j
    parts_apart_all n e (one r) i j a b s o l m u v p q h = parts_apart n e r i j a b s o l m u v p q h
    parts_apart_all n e (more r ms) i j a b s o l m u v p q h =
        ⊎_elim
        (λ (g : (has (heard r) a && has (heard_all ms) b) ≡ true). let d = and_parts (has (heard r) a) (has (heard_all ms) b) g in
        inl (l, in_member n e r ms i a s o l m p d.0, in_others n e r ms j b s o u v q d.1, omega arith))
        (λ (g : (parts r a b || parts_all ms a b) ≡ true). ⊎_elim
        (λ (k : parts r a b ≡ true). let d : (has (heard r) a ≡ true) × (has (heard r) b ≡ true) = parts_heard r a b k in
        inr (inl (parts_apart n e r i j a b s.0 (once-left (heard r) (heard_all ms) o) l (in_member n e r ms i a s o l m p d.0) u (in_member n e r ms j b s o u v q d.1) p q k)))
        (λ (k : parts_all ms a b ≡ true). let d : (has (heard_all ms) a ≡ true) × (has (heard_all ms) b ≡ true) = parts_heard_all ms a b k in
        inr (inr (parts_apart_all (n + size r) e ms i j a b s.1 (once-right (heard r) (heard_all ms) o) (in_others n e r ms i a s o l m p d.0) (omega arith) (in_others n e r ms j b s o u v q d.1) (omega arith) p q k)))
        (or_cases (parts r a b) (parts_all ms a b) g))
        (or_cases (has (heard r) a && has (heard_all ms) b) (parts r a b || parts_all ms a b) h)
