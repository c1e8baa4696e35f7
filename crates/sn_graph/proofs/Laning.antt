-- What lanes are given: each synth moves just the buses that it mixes and that a split group above shares, each onto
-- one lane; and a joint has the lanes of the synths below it, in the order of the walk.
use Rattle.std.proofs.Common.{◌≡◌, ◌<◌, ◌≤◌, ◌⊎◌, ⊎_elim, ℕ, zero, suc, ◌+◌, ◌*◌, ◌==◌, Bool, true, false, not, ◌&&◌, ◌||◌, if◌then◌else◌, List, [], ◌∷◌, ◌++◌, length, Some, None, sym, refl, ap, ◌∙◌, subst, arith, true≢false, append-nil, append_assoc}
use Rattle.std.specs.Prelude.{nat_lt, slice_index_or}
use Rattle.std.specs.List.{filter}
use Rattle.std.proofs.lemmas.Bool.{and_from, cases_Bool, cases_eq, cases_lt, cond-false, cond-true, eq-eqb, eqb-true, le-ltb, lt-ltb, ne_eqb, or_from, or_left, or_parts, or_right, false_from_ne_true}
use Rattle.std.proofs.Math.Bool.{or-false}
use Rattle.std.proofs.lemmas.List.Elements.{filter-append}
use Rattle.std.proofs.lemmas.List.Folds.{list_any-append}
use Rattle.sn_mem.specs.declared.moves.Moved.{Moved}
use Rattle.sn_mem.specs.Blocks.{table}
use Rattle.sn_mem.specs.Layout.{audio_place, lane_place}
use Rattle.sn_mem.proofs.Windows.{table_at}
use Rattle.sn_graph.specs.declared.nodes.Voice.{Voice}
use Rattle.sn_graph.specs.Voices.{HeardNodes, none, synth, group, voices}
use Rattle.sn_graph.specs.Sharing.{mixes, two_mix}
use Rattle.sn_graph.specs.Lanes.{Laned, given, is_in, laned, lanes_from, mixed_of, moving, onto, pairs, shared_by, with_shared}
use Rattle.sn_graph.specs.Fitting.{on}
use Rattle.sn_graph.proofs.Alike.{Alike, alike_laned, by_ways, lanes-append, lanes_alike, two_given, two_laned}

-- ---- lists of buses

-- no bus stands twice
abbrev pub AreDistinct : List ℕ → Type 0
AreDistinct [] = Unit {0}
AreDistinct (n ∷ ns) = (is_in n ns ≡ false) × AreDistinct ns

in-append : (n : ℕ) (ms ns : List ℕ) → is_in n (ms ++ ns) ≡ (is_in n ms || is_in n ns)
in-append n ms ns = list_any-append (λ (m : ℕ). m == n) ms ns

-- of a filter those that pass the test are in it
pub in_filter : (p : ℕ → Bool) (ns : List ℕ) (n : ℕ) → is_in n (filter p ns) ≡ (is_in n ns && p n)
in_filter p [] n = refl
in_filter p (m ∷ ns) n =
    ⊎_elim
    (λ (h : p m ≡ true).
    ap (λ (ms : List ℕ). is_in n ms) (cond-true (p m) (m ∷ filter p ns) (filter p ns) h)
    ∙ ap (λ b. (m == n) || b) (in_filter p ns n)
    ∙ ⊎_elim
    (λ (e : m ≡ n). let same : m == n ≡ true = eq-eqb m n e in
    ap (λ b. b || (is_in n ns && p n)) same ∙ sym (ap (λ b. (b || is_in n ns) && p n) same ∙ (ap p (sym e) ∙ h)))
    (λ (d : m ≡ n → ⊥). let same : m == n ≡ false = ne_eqb m n d in
    ap (λ b. b || (is_in n ns && p n)) same ∙ sym (ap (λ b. (b || is_in n ns) && p n) same))
    (cases_eq m n))
    (λ (h : p m ≡ false).
    ap (λ (ms : List ℕ). is_in n ms) (cond-false (p m) (m ∷ filter p ns) (filter p ns) h)
    ∙ in_filter p ns n
    ∙ ⊎_elim
    (λ (e : m ≡ n). let off : p n ≡ false = ap p (sym e) ∙ h in
    and_no (is_in n ns) (p n) off ∙ sym (and_no ((m == n) || is_in n ns) (p n) off))
    (λ (d : m ≡ n → ⊥). sym (ap (λ b. (b || is_in n ns) && p n) (ne_eqb m n d)))
    (cases_eq m n))
    (cases_Bool (p m))
  where
    and_no : (a b : Bool) → b ≡ false → (a && b) ≡ false
    and_no true b e = e
    and_no false b e = refl

distinct_filter : (p : ℕ → Bool) (ns : List ℕ) → AreDistinct ns → AreDistinct (filter p ns)
distinct_filter p [] d = tt
distinct_filter p (m ∷ ns) d =
    ⊎_elim
    (λ (h : p m ≡ true).
    subst AreDistinct (sym (cond-true (p m) (m ∷ filter p ns) (filter p ns) h))
    (in_filter p ns m ∙ ap (λ b. b && p m) d.0, distinct_filter p ns d.1))
    (λ (h : p m ≡ false). subst AreDistinct (sym (cond-false (p m) (m ∷ filter p ns) (filter p ns) h)) (distinct_filter p ns d.1))
    (cases_Bool (p m))

distinct_last : (ns : List ℕ) (n : ℕ) → AreDistinct ns → is_in n ns ≡ false → AreDistinct (ns ++ n ∷ [])
distinct_last [] n d h = (refl, tt)
distinct_last (m ∷ ns) n d h =
    let p = or_parts (m == n) (is_in n ns) h in
    let other : n == m ≡ false = false_from_ne_true (n == m) (λ t. true≢false (sym (eq-eqb m n (sym (eqb-true n m t))) ∙ p.0)) in
    (in-append m ns (n ∷ []) ∙ or_from (is_in m ns) ((n == m) || false) d.0 (or_from (n == m) false other refl), distinct_last ns n d.1 p.1)

-- the numbers below a bound
in_numbers : (k n : ℕ) → is_in n (table (λ m. m) k) ≡ nat_lt n k
unfolding table
in_numbers zero n = sym (le-ltb n 0 (omega arith))
in_numbers (suc k) n =
    in-append n (table (λ m. m) k) (k ∷ [])
    ∙ ap (λ b. b || ((k == n) || false)) (in_numbers k n)
    ∙ ⊎_elim
    (λ (l : n < k). ap (λ b. b || ((k == n) || false)) (lt-ltb n k l) ∙ sym (lt-ltb n (suc k) (omega (arith, l))))
    (λ (g : k ≤ n). ap (λ b. b || ((k == n) || false)) (le-ltb n k g) ∙ ⊎_elim
    (λ (e : k ≡ n). ap (λ b. b || false) (eq-eqb k n e) ∙ sym (lt-ltb n (suc k) (omega (arith, e))))
    (λ (d : k ≡ n → ⊥). ap (λ b. b || false) (ne_eqb k n d) ∙ sym (le-ltb n (suc k) (past k n g d)))
    (cases_eq k n))
    (cases_lt n k)
  where
    past : (k n : ℕ) → k ≤ n → (k ≡ n → ⊥) → suc k ≤ n
    past k n g d = ⊎_elim (λ (l : k < n). omega (arith, l)) (λ (h : n ≤ k). absurd (d (omega (arith, g, h)))) (cases_lt k n)

distinct_numbers : (k : ℕ) → AreDistinct (table (λ m. m) k)
unfolding table
distinct_numbers zero = tt
distinct_numbers (suc k) = distinct_last (table (λ m. m) k) k (distinct_numbers k) (in_numbers k k ∙ le-ltb k k (omega arith))

-- ---- which buses are shared

pub shared_distinct : (above : List Bool) (inner : HeardNodes) → AreDistinct (shared_by above inner)
shared_distinct above inner = distinct_filter (λ n. two_mix inner n && not (slice_index_or above n false)) (table (λ n. n) 128) (distinct_numbers 128)

pub shared_is : (above : List Bool) (inner : HeardNodes) (n : ℕ) → n < 128 → is_in n (shared_by above inner) ≡ (two_mix inner n && not (slice_index_or above n false))
shared_is above inner n lt =
    let p : ℕ → Bool = λ m. two_mix inner m && not (slice_index_or above m false) in
    in_filter p (table (λ m. m) 128) n ∙ ap (λ b. b && p n) (in_numbers 128 n ∙ lt-ltb n 128 lt)

pub with_shared_is : (above : List Bool) (ns : List ℕ) (n : ℕ) → n < 128 → slice_index_or (with_shared above ns) n false ≡ (slice_index_or above n false || is_in n ns)
with_shared_is above ns n lt = table_at (λ m. slice_index_or above m false || is_in m ns) 128 n false lt

-- each of these has a number below 128
abbrev pub AreLow : List ℕ → Type 0
AreLow [] = Unit {0}
AreLow (n ∷ ns) = (n < 128) × AreLow ns

low_filter : (p : ℕ → Bool) (ns : List ℕ) → AreLow ns → AreLow (filter p ns)
low_filter p [] l = tt
low_filter p (m ∷ ns) l = ⊎_elim
    (λ (h : p m ≡ true). subst AreLow (sym (cond-true (p m) (m ∷ filter p ns) (filter p ns) h)) (l.0, low_filter p ns l.1))
    (λ (h : p m ≡ false). subst AreLow (sym (cond-false (p m) (m ∷ filter p ns) (filter p ns) h)) (low_filter p ns l.1))
    (cases_Bool (p m))

low_last : (ns : List ℕ) (n : ℕ) → AreLow ns → n < 128 → AreLow (ns ++ n ∷ [])
low_last [] n l h = (h, tt)
low_last (m ∷ ns) n l h = (l.0, low_last ns n l.1 h)

pub low_numbers : (k : ℕ) → k ≤ 128 → AreLow (table (λ m. m) k)
unfolding table
low_numbers zero le = tt
low_numbers (suc k) le = low_last (table (λ m. m) k) k (low_numbers k (omega (arith, le))) (omega (arith, le))

pub shared_low : (above : List Bool) (inner : HeardNodes) → AreLow (shared_by above inner)
shared_low above inner = low_filter (λ n. two_mix inner n && not (slice_index_or above n false)) (table (λ n. n) 128) (low_numbers 128 (omega arith))

-- tests that agree there pass the same
pub filter_low : (p q : ℕ → Bool) (ns : List ℕ) → AreLow ns → ((n : ℕ) → n < 128 → p n ≡ q n) → filter p ns ≡ filter q ns
filter_low p q [] low same = refl
filter_low p q (n ∷ ns) low same = λ i. if same n low.0 i then n ∷ filter_low p q ns low.1 same i else filter_low p q ns low.1 same i

-- ---- moves of one bus

pub on-append : (n : ℕ) (ms ks : List Moved) → on n (ms ++ ks) ≡ on n ms ++ on n ks
on-append n ms ks = filter-append (λ (m : Moved). m.bus.at == 65 * n) ms ks

same_place : (m n : ℕ) → ((65 * m) == (65 * n)) ≡ (m == n)
same_place m n = ⊎_elim
    (λ (e : m ≡ n). eq-eqb (65 * m) (65 * n) (ap (λ k. 65 * k) e) ∙ sym (eq-eqb m n e))
    (λ (d : m ≡ n → ⊥). ne_eqb (65 * m) (65 * n) (λ e. d (omega (arith, e))) ∙ sym (ne_eqb m n d))
    (cases_eq m n)

-- a bus that is not among these is not moved
on_none : (first k : ℕ) (ns : List ℕ) (n : ℕ) → is_in n ns ≡ false → on n (onto first k ns) ≡ []
on_none first k [] n h = refl
on_none first k (m ∷ ns) n h =
    let p = or_parts (m == n) (is_in n ns) h in
    let here : Moved = record { bus = audio_place m; lane = lane_place first k } in
    cond-false ((65 * m) == (65 * n)) (here ∷ on n (onto first (k + 1) ns)) (on n (onto first (k + 1) ns)) (same_place m n ∙ p.0)
    ∙ on_none first (k + 1) ns n p.1

-- one that is among them is moved onto one lane
on_one : (first k : ℕ) (ns : List ℕ) (n : ℕ) → AreDistinct ns → is_in n ns ≡ true → (m : Moved) × (on n (onto first k ns) ≡ m ∷ [])
on_one first k [] n d h = absurd (true≢false (sym h))
on_one first k (m ∷ ns) n d h =
    let here : Moved = record { bus = audio_place m; lane = lane_place first k } in
    let rest : List Moved = on n (onto first (k + 1) ns) in
    ⊎_elim
    (λ (e : m ≡ n).
    let none_left : is_in n ns ≡ false = ap (λ j. is_in j ns) (sym e) ∙ d.0 in
    (here, cond-true ((65 * m) == (65 * n)) (here ∷ rest) rest (same_place m n ∙ eq-eqb m n e) ∙ ap (λ (ms : List Moved). here ∷ ms) (on_none first (k + 1) ns n none_left)))
    (λ (f : m ≡ n → ⊥).
    let other : (m == n) ≡ false = ne_eqb m n f in
    let q = on_one first (k + 1) ns n d.1 (sym (ap (λ b. b || is_in n ns) other) ∙ h) in
    (q.0, cond-false ((65 * m) == (65 * n)) (here ∷ rest) rest (same_place m n ∙ other) ∙ q.1))
    (cases_eq m n)

-- ---- what is said of nodes with lanes

-- an audio bus is moved onto a lane
abbrev pub IsOntoLane : ℕ → Moved → Type 0
IsOntoLane first m = (n : ℕ) × ((n < 128) × ((m.bus ≡ audio_place n) × ((k : ℕ) × (m.lane ≡ lane_place first k))))

abbrev pub AreAllMoves : ℕ → List Moved → Type 0
AreAllMoves first [] = Unit {0}
AreAllMoves first (m ∷ ms) = IsOntoLane first m × AreAllMoves first ms

pub moves-append : (first : ℕ) (ms ks : List Moved) → AreAllMoves first ms → AreAllMoves first ks → AreAllMoves first (ms ++ ks)
moves-append first [] ks a b = b
moves-append first (m ∷ ms) ks a b = (a.0, moves-append first ms ks a.1 b)

onto_moves : (first k : ℕ) (ns : List ℕ) → AreLow ns → AreAllMoves first (onto first k ns)
onto_moves first k [] l = tt
onto_moves first k (n ∷ ns) l = ((n, (l.0, (refl, (k, refl)))), onto_moves first (k + 1) ns l.1)

-- a synth moves those of the buses of a test that it mixes
pub record MovesThose (first : ℕ) (A : ℕ → Bool) (v : Voice) : Type 0 where
  pub each : AreAllMoves first v.moves
  pub moved : (n : ℕ) → n < 128 → A n ≡ true → mixes v n ≡ true → (m : Moved) × (on n v.moves ≡ m ∷ [])
  pub unmoved : (n : ℕ) → n < 128 → (A n && mixes v n) ≡ false → on n v.moves ≡ []

-- what all synths move, one after the other
abbrev pub all_moves : List Voice → List Moved
all_moves [] = []
all_moves (v ∷ vs) = v.moves ++ all_moves vs

pub all-moves-append : (vs ws : List Voice) → all_moves (vs ++ ws) ≡ all_moves vs ++ all_moves ws
all-moves-append [] ws = refl
all-moves-append (v ∷ vs) ws = ap (λ (ms : List Moved). v.moves ++ ms) (all-moves-append vs ws) ∙ sym (append_assoc v.moves (all_moves vs) (all_moves ws))

-- a joint has the lanes of the buses of a test that the synths below it have
pub record JoinsThose (first : ℕ) (shared : ℕ → Bool) (lanes : List Moved) (inner : HeardNodes) : Type 0 where
  pub each : AreAllMoves first lanes
  pub joined : (n : ℕ) → n < 128 → shared n ≡ true → on n lanes ≡ on n (all_moves (voices inner))
  pub others : (n : ℕ) → n < 128 → shared n ≡ false → on n lanes ≡ []

-- Synths move what split groups above share, of which A says what those that were given lanes share, and S what all
-- share.
abbrev pub AreLaned : ℕ → (ℕ → Bool) → (ℕ → Bool) → HeardNodes → Type 0
AreLaned first S A none = Unit {0}
AreLaned first S A (synth v rest) = MovesThose first A v × AreLaned first S A rest
AreLaned first S A (group None inner rest) = AreLaned first S A inner × AreLaned first S A rest
AreLaned first S A (group (Some lanes) inner rest) =
    JoinsThose first (λ n. two_mix inner n && not (S n)) lanes inner
    × (AreLaned first (λ n. S n || (two_mix inner n && not (S n))) (λ n. A n || (two_mix inner n && not (S n))) inner × AreLaned first S A rest)

-- ---- tests that say the same

moves_same : (first : ℕ) (A B : ℕ → Bool) (v : Voice) → ((n : ℕ) → n < 128 → A n ≡ B n) → MovesThose first A v → MovesThose first B v
moves_same first A B v e m = record {
  each = m.each;
  moved = λ n lt h x. m.moved n lt (e n lt ∙ h) x;
  unmoved = λ n lt h. m.unmoved n lt (ap (λ b. b && mixes v n) (e n lt) ∙ h);
}

joins_same : (first : ℕ) (f g : ℕ → Bool) (lanes : List Moved) (inner : HeardNodes) → ((n : ℕ) → n < 128 → f n ≡ g n) → JoinsThose first f lanes inner → JoinsThose first g lanes inner
joins_same first f g lanes inner e j = record {
  each = j.each;
  joined = λ n lt h. j.joined n lt (e n lt ∙ h);
  others = λ n lt h. j.others n lt (e n lt ∙ h);
}

pub laned_same : (first : ℕ) (S A T B : ℕ → Bool) (t : HeardNodes) → ((n : ℕ) → n < 128 → S n ≡ T n) → ((n : ℕ) → n < 128 → A n ≡ B n) → AreLaned first S A t → AreLaned first T B t
laned_same first S A T B none s a l = tt
laned_same first S A T B (synth v rest) s a l = (moves_same first A B v a l.0, laned_same first S A T B rest s a l.1)
laned_same first S A T B (group None inner rest) s a l = (laned_same first S A T B inner s a l.0, laned_same first S A T B rest s a l.1)
laned_same first S A T B (group (Some lanes) inner rest) s a l =
    let f : ℕ → Bool = λ n. two_mix inner n && not (S n) in
    let g : ℕ → Bool = λ n. two_mix inner n && not (T n) in
    let e : (n : ℕ) → n < 128 → f n ≡ g n = λ n lt. ap (λ b. two_mix inner n && not b) (s n lt) in (
      joins_same first f g lanes inner e l.0,
      (
        laned_same first (λ n. S n || f n) (λ n. A n || f n) (λ n. T n || g n) (λ n. B n || g n) inner (λ n lt. (λ i. s n lt i || e n lt i)) (λ n lt. (λ i. a n lt i || e n lt i)) l.1.0,
        laned_same first S A T B rest s a l.1.1,
      ),
    )

-- ---- synths that are given further lanes

-- what a synth or a group is given of a bus that is not among these
on_given : (first k : ℕ) (ns : List ℕ) (t : HeardNodes) (n : ℕ) → is_in n ns ≡ false → on n (all_moves (voices (given first k ns t))) ≡ on n (all_moves (voices t))
on_given first k ns none n h = refl
on_given first k ns (synth v rest) n h =
    let own : List ℕ = mixed_of ns v in
    let j : ℕ = k + length own in
    let none_own : is_in n own ≡ false = in_filter (mixes v) ns n ∙ ap (λ b. b && mixes v n) h in
    on-append n (v.moves ++ onto first k own) (all_moves (voices (given first j ns rest)))
    ∙ ap (λ (ms : List Moved). ms ++ on n (all_moves (voices (given first j ns rest)))) (on-append n v.moves (onto first k own) ∙ ap (λ (ms : List Moved). on n v.moves ++ ms) (on_none first k own n none_own) ∙ append-nil (on n v.moves))
    ∙ ap (λ (ms : List Moved). on n v.moves ++ ms) (on_given first j ns rest n h)
    ∙ sym (on-append n v.moves (all_moves (voices rest)))
on_given first k ns (group lanes inner rest) n h =
    let j : ℕ = k + pairs ns (voices inner) in
    let one : List Voice = voices (given first k ns inner) in
    let two : List Voice = voices (given first j ns rest) in
    ap (on n) (all-moves-append one two) ∙ on-append n (all_moves one) (all_moves two)
    ∙ (λ i. on_given first k ns inner n h i ++ on_given first j ns rest n h i)
    ∙ sym (ap (on n) (all-moves-append (voices inner) (voices rest)) ∙ on-append n (all_moves (voices inner)) (all_moves (voices rest)))

voice_given : (first k : ℕ) (ns : List ℕ) (A : ℕ → Bool) (v : Voice) → AreDistinct ns → AreLow ns → ((n : ℕ) → n < 128 → is_in n ns ≡ true → A n ≡ false) → MovesThose first A v → MovesThose first (λ n. A n || is_in n ns) (moving v (onto first k (mixed_of ns v)))
voice_given first k ns A v d low off m =
    let own : List ℕ = mixed_of ns v in
    let more : List Moved = onto first k own in
    let own_in : (n : ℕ) → is_in n own ≡ (is_in n ns && mixes v n) = λ n. in_filter (mixes v) ns n in
    record {
      each = moves-append first v.moves more m.each (onto_moves first k own (low_filter (mixes v) ns low));
      moved = λ n lt h x. ⊎_elim
          (λ (i : is_in n ns ≡ true).
          let q = on_one first k own n (distinct_filter (mixes v) ns d) (own_in n ∙ and_from (is_in n ns) (mixes v n) i x) in
          (q.0, on-append n v.moves more ∙ (λ t. m.unmoved n lt (ap (λ b. b && mixes v n) (off n lt i)) t ++ q.1 t)))
          (λ (i : is_in n ns ≡ false).
          let q = m.moved n lt (sym (ap (λ b. A n || b) i ∙ or-false (A n)) ∙ h) x in
          (q.0, on-append n v.moves more ∙ (λ t. q.1 t ++ on_none first k own n (own_in n ∙ ap (λ b. b && mixes v n) i) t)))
          (cases_Bool (is_in n ns));
      unmoved = λ n lt h.
          let p = both_off (A n) (is_in n ns) (mixes v n) h in
          on-append n v.moves more ∙ (λ t. m.unmoved n lt p.0 t ++ on_none first k own n (own_in n ∙ p.1) t);
    }
  where
    both_off : (a b c : Bool) → ((a || b) && c) ≡ false → ((a && c) ≡ false) × ((b && c) ≡ false)
    both_off true true c h = (h, h)
    both_off true false c h = (h, refl)
    both_off false true c h = (refl, h)
    both_off false false c h = (refl, refl)

-- a bus that a group above shares is no bus that a group below shares
pub taken_above : (a s : Bool) → s ≡ true → (a && not s) ≡ false
taken_above true s e = ap not e
taken_above false s e = refl

pub left_above : (a s : Bool) → (a && not s) ≡ true → s ≡ false
left_above true true h = absurd (true≢false (sym h))
left_above true false h = refl
left_above false s h = absurd (true≢false (sym h))

turned_or : (a b c : Bool) → ((a || b) || c) ≡ ((a || c) || b)
turned_or true b c = refl
turned_or false true true = refl
turned_or false true false = refl
turned_or false false c = sym (or-false c)

pub given_laned : (first k : ℕ) (ns : List ℕ) (S A : ℕ → Bool) (t : HeardNodes) → AreDistinct ns → AreLow ns → ((n : ℕ) → n < 128 → is_in n ns ≡ true → (S n ≡ true) × (A n ≡ false)) → AreLaned first S A t → AreLaned first S (λ n. A n || is_in n ns) (given first k ns t)
given_laned first k ns S A none d low off l = tt
given_laned first k ns S A (synth v rest) d low off l =
    (voice_given first k ns A v d low (λ n lt i. (off n lt i).1) l.0, given_laned first (k + length (mixed_of ns v)) ns S A rest d low off l.1)
given_laned first k ns S A (group None inner rest) d low off l =
    (given_laned first k ns S A inner d low off l.0, given_laned first (k + pairs ns (voices inner)) ns S A rest d low off l.1)
given_laned first k ns S A (group (Some lanes) inner rest) d low off l =
    let after : HeardNodes = given first k ns inner in
    let f : ℕ → Bool = λ n. two_mix inner n && not (S n) in
    let g : ℕ → Bool = λ n. two_mix after n && not (S n) in
    let e : (n : ℕ) → n < 128 → f n ≡ g n = λ n lt. ap (λ b. b && not (S n)) (sym (two_given first k ns inner n)) in
    let not_given : (n : ℕ) → n < 128 → S n ≡ false → is_in n ns ≡ false = λ n lt h. false_from_ne_true (is_in n ns) (λ i. true≢false (sym (off n lt i).0 ∙ h)) in
    let deeper : AreLaned first (λ n. S n || f n) (λ n. (A n || f n) || is_in n ns) after =
    given_laned first k ns (λ n. S n || f n) (λ n. A n || f n) inner d low
    (λ n lt i. let p = off n lt i in (or_left (S n) (f n) p.0, or_from (A n) (f n) p.1 (taken_above (two_mix inner n) (S n) p.0)))
    l.1.0 in (
      record {
        each = l.0.each;
        joined = λ n lt h. l.0.joined n lt (e n lt ∙ h) ∙ sym (on_given first k ns inner n (not_given n lt (left_above (two_mix after n) (S n) h)));
        others = λ n lt h. l.0.others n lt (e n lt ∙ h);
      },
      (
        laned_same first (λ n. S n || f n) (λ n. (A n || f n) || is_in n ns) (λ n. S n || g n) (λ n. (A n || is_in n ns) || g n) after
            (λ n lt. ap (λ b. S n || b) (e n lt)) (λ n lt. turned_or (A n) (f n) (is_in n ns) ∙ ap (λ b. (A n || is_in n ns) || b) (e n lt)) deeper,
        given_laned first (k + pairs ns (voices inner)) ns S A rest d low off l.1.1,
      ),
    )

-- ---- what a group gives to the synths below it

-- no synth moves the bus
abbrev pub NoneMoves : ℕ → List Voice → Type 0
NoneMoves n [] = Unit {0}
NoneMoves n (v ∷ vs) = (on n v.moves ≡ []) × NoneMoves n vs

none-append : (n : ℕ) (vs ws : List Voice) → NoneMoves n vs → NoneMoves n ws → NoneMoves n (vs ++ ws)
none-append n [] ws a b = b
none-append n (v ∷ vs) ws a b = (a.0, none-append n vs ws a.1 b)

none-parts : (n : ℕ) (vs ws : List Voice) → NoneMoves n (vs ++ ws) → NoneMoves n vs × NoneMoves n ws
none-parts n [] ws a = (tt, a)
none-parts n (v ∷ vs) ws a = let p = none-parts n vs ws a.1 in ((a.0, p.0), p.1)

none_moves : (first : ℕ) (S A : ℕ → Bool) (t : HeardNodes) (n : ℕ) → n < 128 → S n ≡ true → A n ≡ false → AreLaned first S A t → NoneMoves n (voices t)
none_moves first S A none n lt s a l = tt
none_moves first S A (synth v rest) n lt s a l = (l.0.unmoved n lt (ap (λ b. b && mixes v n) a), none_moves first S A rest n lt s a l.1)
none_moves first S A (group None inner rest) n lt s a l = none-append n (voices inner) (voices rest) (none_moves first S A inner n lt s a l.0) (none_moves first S A rest n lt s a l.1)
none_moves first S A (group (Some lanes) inner rest) n lt s a l =
    let f : ℕ → Bool = λ m. two_mix inner m && not (S m) in
    none-append n (voices inner) (voices rest)
    (none_moves first (λ m. S m || f m) (λ m. A m || f m) inner n lt (or_left (S n) (f n) s) (or_from (A n) (f n) a (taken_above (two_mix inner n) (S n) s)) l.1.0)
    (none_moves first S A rest n lt s a l.1.1)

-- they are given just the lanes of the joint
on_lanes : (first k : ℕ) (ns : List ℕ) (t : HeardNodes) (n : ℕ) → NoneMoves n (voices t) → on n (all_moves (voices (given first k ns t))) ≡ on n (lanes_from first k ns (voices t))
on_lanes first k ns none n o = refl
on_lanes first k ns (synth v rest) n o =
    let own : List Moved = onto first k (mixed_of ns v) in
    let j : ℕ = k + length (mixed_of ns v) in
    on-append n (v.moves ++ own) (all_moves (voices (given first j ns rest)))
    ∙ (λ i. (on-append n v.moves own ∙ ap (λ (ms : List Moved). ms ++ on n own) o.0) i ++ on_lanes first j ns rest n o.1 i)
    ∙ sym (on-append n own (lanes_from first j ns (voices rest)))
on_lanes first k ns (group lanes inner rest) n o =
    let j : ℕ = k + pairs ns (voices inner) in
    let one : List Voice = voices (given first k ns inner) in
    let two : List Voice = voices (given first j ns rest) in
    let p = none-parts n (voices inner) (voices rest) o in
    ap (on n) (all-moves-append one two) ∙ on-append n (all_moves one) (all_moves two)
    ∙ (λ i. on_lanes first k ns inner n p.0 i ++ on_lanes first j ns rest n p.1 i)
    ∙ sym (ap (on n) (lanes-append first k ns (voices inner) (voices rest)) ∙ on-append n (lanes_from first k ns (voices inner)) (lanes_from first j ns (voices rest)))

lanes_none : (first k : ℕ) (ns : List ℕ) (vs : List Voice) (n : ℕ) → is_in n ns ≡ false → on n (lanes_from first k ns vs) ≡ []
lanes_none first k ns [] n h = refl
lanes_none first k ns (v ∷ vs) n h =
    let own : List ℕ = mixed_of ns v in
    on-append n (onto first k own) (lanes_from first (k + length own) ns vs)
    ∙ (λ i. on_none first k own n (in_filter (mixes v) ns n ∙ ap (λ b. b && mixes v n) h) i ++ lanes_none first (k + length own) ns vs n h i)

lanes_moves : (first k : ℕ) (ns : List ℕ) (vs : List Voice) → AreLow ns → AreAllMoves first (lanes_from first k ns vs)
lanes_moves first k ns [] low = tt
lanes_moves first k ns (v ∷ vs) low =
    moves-append first (onto first k (mixed_of ns v)) (lanes_from first (k + length (mixed_of ns v)) ns vs)
    (onto_moves first k (mixed_of ns v) (low_filter (mixes v) ns low)) (lanes_moves first (k + length (mixed_of ns v)) ns vs low)

-- ---- the nodes of a stage with their lanes

-- no synth moves anything
abbrev pub ArePlain : HeardNodes → Type 0
ArePlain none = Unit {0}
ArePlain (synth v rest) = (v.moves ≡ []) × ArePlain rest
ArePlain (group lanes inner rest) = ArePlain inner × ArePlain rest

plain_voice : (first : ℕ) (v : Voice) → v.moves ≡ [] → MovesThose first (λ n. false) v
plain_voice first v e = record {
  each = subst (AreAllMoves first) (sym e) tt;
  moved = λ n lt h x. absurd (true≢false (sym h));
  unmoved = λ n lt h. ap (on n) e;
}

module _ (first most : ℕ) where
  abbrev above_of : List Bool → ℕ → Bool
  above_of above n = slice_index_or above n false

  pub laned_is : (above : List Bool) (taken : ℕ) (t : HeardNodes) → ArePlain t → AreLaned first (above_of above) (λ n. false) (laned first most above taken t).nodes
  laned_is above taken none p = tt
  laned_is above taken (synth v rest) p = (plain_voice first v p.0, laned_is above taken rest p.1)
  laned_is above taken (group may inner rest) p =
      let ns : List ℕ = shared_by above inner in
      let end : ℕ = taken + pairs ns (voices inner) in
      let a : Laned = laned first most (with_shared above ns) end inner in
      let b : Laned = laned first most above taken inner in
      by_ways first most (λ (l : Laned). AreLaned first (above_of above) (λ n. false) l.nodes) above taken may inner rest
      (λ s. split_is above taken inner a.nodes ns end (λ n lt. shared_is above inner n lt) (shared_distinct above inner) (shared_low above inner) (alike_laned first most (with_shared above ns) end inner) (λ n. two_laned first most (with_shared above ns) end inner n)
      (laned_is (with_shared above ns) end inner p.0) (laned first most above a.taken rest).nodes (laned_is above a.taken rest p.1))
      (λ s. (laned_is above taken inner p.0, laned_is above b.taken rest p.1))
    where
      split_is : (above : List Bool) (taken : ℕ) (inner after : HeardNodes) (ns : List ℕ) (end : ℕ) → ((n : ℕ) → n < 128 → is_in n ns ≡ (two_mix inner n && not (slice_index_or above n false))) → AreDistinct ns → AreLow ns → Alike (voices inner) (voices after) → ((n : ℕ) → two_mix after n ≡ two_mix inner n)
          → AreLaned first (above_of (with_shared above ns)) (λ n. false) after → (rest : HeardNodes) → AreLaned first (above_of above) (λ n. false) rest
          → AreLaned first (above_of above) (λ n. false) (group (Some (lanes_from first taken ns (voices inner))) (given first taken ns after) rest)
      split_is above taken inner after ns end is d low same two l rest r =
          let lanes : List Moved = lanes_from first taken ns (voices inner) in
          let under : HeardNodes = given first taken ns after in
          let f : ℕ → Bool = λ n. two_mix under n && not (above_of above n) in
          let e : (n : ℕ) → n < 128 → is_in n ns ≡ f n = λ n lt. is n lt ∙ ap (λ b. b && not (above_of above n)) (sym (two_given first taken ns after n ∙ two n)) in
          let put : (n : ℕ) → n < 128 → is_in n ns ≡ true → above_of (with_shared above ns) n ≡ true = λ n lt i. with_shared_is above ns n lt ∙ or_right (above_of above n) (is_in n ns) i in
          let given_is : AreLaned first (above_of (with_shared above ns)) (λ n. false || is_in n ns) under = given_laned first taken ns (above_of (with_shared above ns)) (λ n. false) after d low (λ n lt i. (put n lt i, refl)) l in (
            record {
              each = lanes_moves first taken ns (voices inner) low;
              joined = λ n lt h.
                  let i : is_in n ns ≡ true = e n lt ∙ h in
                  ap (on n) (lanes_alike first taken ns (voices inner) (voices after) same)
                  ∙ sym (on_lanes first taken ns after n (none_moves first (above_of (with_shared above ns)) (λ m. false) after n lt (put n lt i) refl l));
              others = λ n lt h. lanes_none first taken ns (voices inner) n (e n lt ∙ h);
            },
            (
              laned_same first (above_of (with_shared above ns)) (λ n. false || is_in n ns) (λ n. above_of above n || f n) (λ n. false || f n) under
                  (λ n lt. with_shared_is above ns n lt ∙ ap (λ b. above_of above n || b) (e n lt)) (λ n lt. e n lt) given_is,
              r,
            ),
          )
