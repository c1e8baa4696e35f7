-- Each lane is given to one pair of a synth and a bus.
use Rattle.std.proofs.Common.{◌≡◌, ◌<◌, ◌≤◌, ⊎_elim, ℕ, ◌+◌, ◌*◌, ◌==◌, Bool, true, false, ◌&&◌, if◌then◌else◌, List, [], ◌∷◌, ◌++◌, length, sym, refl, ap, ◌∙◌, arith}
use Rattle.std.specs.Prelude.{nat_le, nat_lt}
use Rattle.std.proofs.lemmas.Bool.{cases_eq, cases_lt, eq-eqb, le-leb, lt-ltb, le-ltb, lt-leb, ne_eqb}
use Rattle.sn_mem.specs.declared.moves.Moved.{Moved}
use Rattle.sn_graph.specs.declared.nodes.Voice.{Voice}
use Rattle.sn_graph.specs.Voices.{HeardNodes, none, synth, group, voices}
use Rattle.sn_graph.specs.Lanes.{Laned, given, laned, mixed_of, onto, pairs, shared_by, with_shared}
use Rattle.sn_graph.proofs.Alike.{alike_laned, by_ways, pairs_alike, pairs-append}
use Rattle.sn_graph.proofs.Laning.{ArePlain, all_moves, all-moves-append}

-- ---- how often a lane is among moves

abbrev one_where : Bool → ℕ
one_where b = if b then 1 else 0

-- how many of these moves are onto lane k
abbrev pub times : ℕ → ℕ → List Moved → ℕ
times first k [] = 0
times first k (m ∷ ms) = one_where (m.lane.at == first + 65 * k) + times first k ms

-- 1 if k is at least a and below b, and 0 otherwise
abbrev pub within : ℕ → ℕ → ℕ → ℕ
within a b k = one_where (nat_le a k && nat_lt k b)

within_it : (a b k : ℕ) → a ≤ k → k < b → within a b k ≡ 1
within_it a b k l m = ap one_where (ap (λ t. t && nat_lt k b) (le-leb a k l) ∙ lt-ltb k b m)

below_it : (a b k : ℕ) → k < a → within a b k ≡ 0
below_it a b k l = ap one_where (ap (λ t. t && nat_lt k b) (lt-leb a k l))

past_it : (a b k : ℕ) → b ≤ k → within a b k ≡ 0
past_it a b k l = ap one_where (ap (λ t. nat_le a k && t) (le-ltb k b l) ∙ no (nat_le a k))
  where
    no : (t : Bool) → (t && false) ≡ false
    no true = refl
    no false = refl

pub at_most_one : (a b k : ℕ) → within a b k ≤ 1
at_most_one a b k = by (nat_le a k && nat_lt k b)
  where
    by : (t : Bool) → one_where t ≤ 1
    by true = omega arith
    by false = omega arith

within_join : (a b c k : ℕ) → a ≤ b → b ≤ c → within a b k + within b c k ≡ within a c k
within_join a b c k l m = ⊎_elim
    (λ (h : k < a). omega (arith, below_it a b k h, below_it b c k (omega (arith, h, l)), below_it a c k h))
    (λ (h : a ≤ k). ⊎_elim
    (λ (i : k < b). omega (arith, within_it a b k h i, below_it b c k i, within_it a c k h (omega (arith, i, m))))
    (λ (i : b ≤ k). ⊎_elim
    (λ (j : k < c). omega (arith, past_it a b k i, within_it b c k i j, within_it a c k h j))
    (λ (j : c ≤ k). omega (arith, past_it a b k i, past_it b c k j, past_it a c k j))
    (cases_lt k c))
    (cases_lt k b))
    (cases_lt k a)

within_none : (a k : ℕ) → within a a k ≡ 0
within_none a k = ⊎_elim (λ (h : k < a). below_it a a k h) (λ (h : a ≤ k). past_it a a k h) (cases_lt k a)

within_next : (a k : ℕ) → within a (a + 1) k ≡ one_where (a == k)
within_next a k = ⊎_elim
    (λ (e : a ≡ k). within_it a (a + 1) k (omega (arith, e)) (omega (arith, e)) ∙ sym (ap one_where (eq-eqb a k e)))
    (λ (d : a ≡ k → ⊥). ⊎_elim
    (λ (h : k < a). below_it a (a + 1) k h)
    (λ (h : a ≤ k). ⊎_elim
    (λ (i : k < a + 1). absurd (d (omega (arith, h, i))))
    (λ (i : a + 1 ≤ k). past_it a (a + 1) k i)
    (cases_lt k (a + 1)))
    (cases_lt k a)
    ∙ sym (ap one_where (ne_eqb a k d)))
    (cases_eq a k)

same_lane : (first j k : ℕ) → ((first + 65 * j) == (first + 65 * k)) ≡ (j == k)
same_lane first j k = ⊎_elim
    (λ (e : j ≡ k). eq-eqb (first + 65 * j) (first + 65 * k) (ap (λ n. first + 65 * n) e) ∙ sym (eq-eqb j k e))
    (λ (d : j ≡ k → ⊥). ne_eqb (first + 65 * j) (first + 65 * k) (λ e. d (omega (arith, e))) ∙ sym (ne_eqb j k d))
    (cases_eq j k)

pub times-append : (first k : ℕ) (ms ns : List Moved) → times first k (ms ++ ns) ≡ times first k ms + times first k ns
times-append first k [] ns = omega arith
times-append first k (m ∷ ms) ns = omega (arith, times-append first k ms ns)

times_onto : (first j k : ℕ) (ns : List ℕ) → times first k (onto first j ns) ≡ within j (j + length ns) k
times_onto first j k [] = let e : j ≡ j + 0 = omega arith in sym (within_none j k) ∙ ap (λ b. within j b k) e
times_onto first j k (n ∷ ns) =
    let e : (j + 1) + length ns ≡ j + length (n ∷ ns) = omega arith in
    let here : one_where ((first + 65 * j) == (first + 65 * k)) ≡ within j (j + 1) k = ap one_where (same_lane first j k) ∙ sym (within_next j k) in
    (λ i. here i + (times_onto first (j + 1) k ns ∙ ap (λ b. within (j + 1) b k) e) i)
    ∙ within_join j (j + 1) (j + length (n ∷ ns)) k (omega arith) (omega (arith, e))

-- ---- nodes that are given lanes

times_given : (first j k : ℕ) (ns : List ℕ) (t : HeardNodes) → times first k (all_moves (voices (given first j ns t))) ≡ times first k (all_moves (voices t)) + within j (j + pairs ns (voices t)) k
times_given first j k ns none =
    let e : j ≡ j + 0 = omega arith in
    let w : within j (j + 0) k ≡ 0 = sym (ap (λ b. within j b k) e) ∙ within_none j k in
    omega (arith, w)
times_given first j k ns (synth v rest) =
    let own : List Moved = onto first j (mixed_of ns v) in
    let m : ℕ = length (mixed_of ns v) in
    let p : ℕ = pairs ns (voices rest) in
    let e : (j + m) + p ≡ j + (m + p) = omega arith in
    omega (
      arith,
      times-append first k (v.moves ++ own) (all_moves (voices (given first (j + m) ns rest))),
      times-append first k v.moves own,
      times_onto first j k (mixed_of ns v),
      times_given first (j + m) k ns rest,
      times-append first k v.moves (all_moves (voices rest)),
      ap (λ b. within (j + m) b k) e,
      within_join j (j + m) (j + (m + p)) k (omega arith) (omega arith),
    )
times_given first j k ns (group lanes inner rest) =
    let m : ℕ = pairs ns (voices inner) in
    let p : ℕ = pairs ns (voices rest) in
    let one : List Voice = voices (given first j ns inner) in
    let two : List Voice = voices (given first (j + m) ns rest) in
    let e : (j + m) + p ≡ j + pairs ns (voices inner ++ voices rest) = omega (arith, pairs-append ns (voices inner) (voices rest)) in
    omega (
      arith,
      ap (times first k) (all-moves-append one two),
      times-append first k (all_moves one) (all_moves two),
      times_given first j k ns inner,
      times_given first (j + m) k ns rest,
      ap (times first k) (all-moves-append (voices inner) (voices rest)),
      times-append first k (all_moves (voices inner)) (all_moves (voices rest)),
      ap (λ b. within (j + m) b k) e,
      within_join j (j + m) (j + pairs ns (voices inner ++ voices rest)) k (omega arith) (omega (arith, e)),
    )

times_plain : (first k : ℕ) (v : Voice) → v.moves ≡ [] → times first k v.moves ≡ 0
times_plain first k v e = ap (times first k) e

module _ (first most : ℕ) where
  -- lanes are taken one after the other
  taken_more : (above : List Bool) (taken : ℕ) (t : HeardNodes) → taken ≤ (laned first most above taken t).taken
  taken_more above taken none = omega arith
  taken_more above taken (synth v rest) = taken_more above taken rest
  taken_more above taken (group may inner rest) =
      let ns : List ℕ = shared_by above inner in
      let end : ℕ = taken + pairs ns (voices inner) in
      let a : Laned = laned first most (with_shared above ns) end inner in
      let b : Laned = laned first most above taken inner in
      by_ways first most (λ (l : Laned). taken ≤ l.taken) above taken may inner rest
      (λ s. omega (arith, taken_more (with_shared above ns) end inner, taken_more above a.taken rest))
      (λ s. omega (arith, taken_more above taken inner, taken_more above b.taken rest))

  -- each lane that is taken is given once
  times_laned : (k : ℕ) (above : List Bool) (taken : ℕ) (t : HeardNodes) → ArePlain t → times first k (all_moves (voices (laned first most above taken t).nodes)) ≡ within taken (laned first most above taken t).taken k
  times_laned k above taken none p = sym (within_none taken k)
  times_laned k above taken (synth v rest) p =
      omega (arith, times-append first k v.moves (all_moves (voices (laned first most above taken rest).nodes)), times_plain first k v p.0, times_laned k above taken rest p.1)
  times_laned k above taken (group may inner rest) p =
      let ns : List ℕ = shared_by above inner in
      let end : ℕ = taken + pairs ns (voices inner) in
      let a : Laned = laned first most (with_shared above ns) end inner in
      let b : Laned = laned first most above taken inner in
      let ra : Laned = laned first most above a.taken rest in
      let rb : Laned = laned first most above b.taken rest in
      by_ways first most (λ (l : Laned). times first k (all_moves (voices l.nodes)) ≡ within taken l.taken k) above taken may inner rest
      (λ s.
      let one : List Voice = voices (given first taken ns a.nodes) in
      let e : taken + pairs ns (voices a.nodes) ≡ end = ap (λ n. taken + n) (sym (pairs_alike ns (voices inner) (voices a.nodes) (alike_laned first most (with_shared above ns) end inner))) in
      omega (
        arith,
        ap (times first k) (all-moves-append one (voices ra.nodes)),
        times-append first k (all_moves one) (all_moves (voices ra.nodes)),
        times_given first taken k ns a.nodes,
        ap (λ n. within taken n k) e,
        times_laned k (with_shared above ns) end inner p.0,
        times_laned k above a.taken rest p.1,
        within_join taken end a.taken k (omega arith) (taken_more (with_shared above ns) end inner),
        within_join taken a.taken ra.taken k (omega (arith, taken_more (with_shared above ns) end inner)) (taken_more above a.taken rest),
      ))
      (λ s. omega (
        arith,
        ap (times first k) (all-moves-append (voices b.nodes) (voices rb.nodes)),
        times-append first k (all_moves (voices b.nodes)) (all_moves (voices rb.nodes)),
        times_laned k above taken inner p.0,
        times_laned k above b.taken rest p.1,
        within_join taken b.taken rb.taken k (taken_more above taken inner) (taken_more above b.taken rest),
      ))

  pub given_once : (k : ℕ) (above : List Bool) (taken : ℕ) (t : HeardNodes) → ArePlain t → times first k (all_moves (voices (laned first most above taken t).nodes)) ≤ 1
  given_once k above taken t p = omega (arith, times_laned k above taken t p, at_most_one taken (laned first most above taken t).taken k)

  -- a lane that is given is one of those that are taken
  pub given_below : (k : ℕ) (above : List Bool) (taken : ℕ) (t : HeardNodes) → ArePlain t → 1 ≤ times first k (all_moves (voices (laned first most above taken t).nodes)) → k < (laned first most above taken t).taken
  given_below k above taken t p l =
      let end : ℕ = (laned first most above taken t).taken in
      ⊎_elim
      (λ (h : k < end). h)
      (λ (h : end ≤ k). absurd (omega (arith, l, times_laned k above taken t p, past_it taken end k h)))
      (cases_lt k end)
