-- What the planner does as it gives lanes.
use Rattle.std.proofs.Common.{◌≡◌, ◌<◌, ◌≤◌, ℕ, ◌+◌, Bool, true, false, not, ◌&&◌, if◌then◌else◌, List, [], ◌∷◌, ◌++◌, length, get_or, drop, map, Option, Some, None, sym, refl, ap, ◌∙◌, append-nil, append_assoc, arith, subst, true≢false}
use Rattle.std.specs.Prelude.{is_some, nat_le}
use Rattle.std.specs.List.{All, filter}
use Rattle.std.proofs.lemmas.Bool.{cond_both, cond-false, cond-true, leb-false, leb-true, lt-leb}
use Rattle.std.proofs.Math.Bool.{and-false}
use Rattle.std.proofs.lemmas.List.{drop_all, drop_more, map-append}
use Rattle.std.proofs.lemmas.List.Elements.{All-cons, All-nil, filter-append}
use Rattle.sn_mem.specs.declared.extents.Extent.{Extent}
use Rattle.sn_mem.specs.declared.moves.Moved.{Moved}
use Rattle.sn_mem.specs.Blocks.{table}
use Rattle.sn_mem.specs.Layout.{audio_place, lane_place}
use Rattle.sn_mem.proofs.Tables.{length-table, table_more}
use Rattle.sn_mem.proofs.Windows.{table_at}
use Rattle.sn_graph.specs.declared.nodes.Voice.{Voice}
use Rattle.sn_graph.specs.Voices.{HeardNodes, none, group, voices}
use Rattle.sn_graph.specs.Sharing.{mixes, two_mix}
use Rattle.sn_graph.specs.Lanes.{Laned, given, laned, lanes_from, mixed_of, moving, onto, pairs, shared_by, with_shared}
use Rattle.sn_graph.proofs.Laning.{AreLow, filter_low, low_numbers, shared_low}
use Rattle.sn_graph.proofs.Alike.{alike_laned, as_plain, as_split, is_laned, lanes-append, lanes_alike, pairs-append, pairs_alike}

-- ---- numbers that pass a test

abbrev first_numbers : ℕ → List ℕ
first_numbers n = table (λ (k : ℕ). k) n

one_more : (p : ℕ → Bool) (n : ℕ) → filter p (first_numbers (n + 1)) ≡ filter p (first_numbers n) ++ filter p (n ∷ [])
one_more p n = ap (λ (ks : List ℕ). filter p ks) (table_more (λ (k : ℕ). k) n) ∙ filter-append p (first_numbers n) (n ∷ [])

pub passes : (p : ℕ → Bool) (n : ℕ) (xs ys : List ℕ) → xs ≡ filter p (table (λ (k : ℕ). k) n) → p n ≡ true → ys ≡ xs ++ n ∷ [] → ys ≡ filter p (table (λ (k : ℕ). k) (n + 1))
passes p n xs ys e h s =
    s ∙ ap (λ (zs : List ℕ). zs ++ n ∷ []) e ∙ ap (λ (zs : List ℕ). filter p (first_numbers n) ++ zs) (sym (cond-true (p n) (n ∷ []) [] h)) ∙ sym (one_more p n)

pub fails : (p : ℕ → Bool) (n : ℕ) (xs : List ℕ) → xs ≡ filter p (table (λ (k : ℕ). k) n) → p n ≡ false → xs ≡ filter p (table (λ (k : ℕ). k) (n + 1))
fails p n xs e h =
    e ∙ sym (append-nil (filter p (first_numbers n))) ∙ ap (λ (zs : List ℕ). filter p (first_numbers n) ++ zs) (sym (cond-false (p n) (n ∷ []) [] h)) ∙ sym (one_more p n)

-- ---- the buses that a synth mixes

pub mixed_first : (n : ℕ) (ns : List ℕ) (v : Voice) → mixes v n ≡ true → mixed_of (n ∷ ns) v ≡ n ∷ mixed_of ns v
mixed_first n ns v h = cond-true (mixes v n) (n ∷ mixed_of ns v) (mixed_of ns v) h

pub not_mixed : (n : ℕ) (ns : List ℕ) (v : Voice) → mixes v n ≡ false → mixed_of (n ∷ ns) v ≡ mixed_of ns v
not_mixed n ns v h = cond-false (mixes v n) (n ∷ mixed_of ns v) (mixed_of ns v) h

-- of those that are left
left_is : (ns : List ℕ) (i n : ℕ) → i < length ns → n ≡ get_or ns i 0 → drop i ns ≡ n ∷ drop (i + 1) ns
left_is ns i n lt is = drop_more ns i 0 lt ∙ ap (λ (m : ℕ). m ∷ drop (i + 1) ns) (sym is)

pub next_mixed : (ns : List ℕ) (i n : ℕ) (v : Voice) → i < length ns → n ≡ get_or ns i 0 → mixes v n ≡ true → mixed_of (drop i ns) v ≡ n ∷ mixed_of (drop (i + 1) ns) v
next_mixed ns i n v lt is h = ap (λ (ms : List ℕ). mixed_of ms v) (left_is ns i n lt is) ∙ mixed_first n (drop (i + 1) ns) v h

pub next_not : (ns : List ℕ) (i n : ℕ) (v : Voice) → i < length ns → n ≡ get_or ns i 0 → mixes v n ≡ false → mixed_of (drop i ns) v ≡ mixed_of (drop (i + 1) ns) v
next_not ns i n v lt is h = ap (λ (ms : List ℕ). mixed_of ms v) (left_is ns i n lt is) ∙ not_mixed n (drop (i + 1) ns) v h

pub none_left : (ns : List ℕ) (i : ℕ) (v : Voice) → length ns ≤ i → mixed_of (drop i ns) v ≡ []
none_left ns i v past = ap (λ (ms : List ℕ). mixed_of ms v) (drop_all i ns past)

-- ---- the buses that members share

low_all : (ns : List ℕ) → AreLow ns → All (λ n. n < 128) ns
low_all [] low = All-nil (λ n. n < 128)
low_all (n ∷ ns) low = All-cons (λ n. n < 128) n ns low.0 (low_all ns low.1)

few_pass : (p : ℕ → Bool) (ns : List ℕ) → length (filter p ns) ≤ length ns
few_pass p [] = omega arith
few_pass p (n ∷ ns) = cond_both (p n) (n ∷ filter p ns) (filter p ns) (λ (ks : List ℕ). length ks ≤ length (n ∷ ns)) (λ h. omega (arith, few_pass p ns)) (λ h. omega (arith, few_pass p ns))

pub few_mixed : (ns : List ℕ) (v : Voice) → length (mixed_of ns v) ≤ length ns
few_mixed ns v = few_pass (mixes v) ns

-- as the flags of a group and of those above it tell
pub noted_is : (flags above : List Bool) (inner : HeardNodes) → flags ≡ table (two_mix inner) 128 → filter (λ n. get_or flags n false && not (get_or above n false)) (table (λ (n : ℕ). n) 128) ≡ shared_by above inner
noted_is flags above inner e =
    filter_low (λ n. get_or flags n false && not (get_or above n false)) (λ n. two_mix inner n && not (get_or above n false)) (table (λ (n : ℕ). n) 128) (low_numbers 128 (omega arith))
    (λ n lt. ap (λ b. b && not (get_or above n false)) (ap (λ (fs : List Bool). get_or fs n false) e ∙ table_at (two_mix inner) 128 n false lt))

pub shared_few : (above : List Bool) (inner : HeardNodes) → length (shared_by above inner) ≤ 128
shared_few above inner = omega (arith, few_pass (λ n. two_mix inner n && not (get_or above n false)) (table (λ (n : ℕ). n) 128), length-table (λ (n : ℕ). n) 128)

pub shared_all : (above : List Bool) (inner : HeardNodes) → All (λ n. n < 128) (shared_by above inner)
shared_all above inner = low_all (shared_by above inner) (shared_low above inner)

-- ---- a synth is given lanes

abbrev pub with_moves : Voice → List Moved → Voice
with_moves v ms = record { id = v.id; reach = v.reach; moves = ms }

module _ (first : ℕ) where
  -- what a synth was given, and what it is still to be given, before and after
  pub record Gives (ns : List ℕ) (next : ℕ) (v w : Voice) (old now : List Moved) (lane : ℕ) (left : List ℕ) : Type 0 where
    pub room : lane + length (mixed_of left w) ≡ next + length (mixed_of ns v)
    pub voice : moving w (onto first lane (mixed_of left w)) ≡ moving v (onto first next (mixed_of ns v))
    pub added : now ++ onto first lane (mixed_of left w) ≡ old ++ onto first next (mixed_of ns v)

  pub gives_none : (ns : List ℕ) (next : ℕ) (v : Voice) (old : List Moved) → Gives ns next v v old old next ns
  gives_none ns next v old = record { room = refl; voice = refl; added = refl }

  -- it is given one more
  pub gives_one : (ns : List ℕ) (next : ℕ) (v w : Voice) (old now : List Moved) (lane : ℕ) (i n : ℕ) → i < length ns → n ≡ get_or ns i 0 → mixes w n ≡ true
      → (m : Moved) → m ≡ (record { bus = audio_place n; lane = lane_place first lane })
      → Gives ns next v w old now lane (drop i ns) → Gives ns next v (moving w (m ∷ [])) old (now ++ m ∷ []) (lane + 1) (drop (i + 1) ns)
  gives_one ns next v w old now lane i n lt is h m e g =
      let rest : List ℕ = mixed_of (drop (i + 1) ns) w in
      let some : mixed_of (drop i ns) w ≡ n ∷ rest = next_mixed ns i n w lt is h in
      let here : m ∷ onto first (lane + 1) rest ≡ onto first lane (mixed_of (drop i ns) w) = ap (λ (k : Moved). k ∷ onto first (lane + 1) rest) e ∙ sym (ap (onto first lane) some) in
      let same : length (mixed_of (drop (i + 1) ns) (moving w (m ∷ []))) ≡ length rest = refl in
      record {
        room = omega (arith, same, ap (λ (ms : List ℕ). length ms) some, g.room);
        voice = ap (with_moves w) (append_assoc w.moves (m ∷ []) (onto first (lane + 1) rest)) ∙ ap (moving w) here ∙ g.voice;
        added = append_assoc now (m ∷ []) (onto first (lane + 1) rest) ∙ ap (λ (ms : List Moved). now ++ ms) here ∙ g.added;
      }

  -- it does not mix the next bus
  pub gives_not : (ns : List ℕ) (next : ℕ) (v w : Voice) (old now : List Moved) (lane : ℕ) (i n : ℕ) → i < length ns → n ≡ get_or ns i 0 → mixes w n ≡ false → Gives ns next v w old now lane (drop i ns) → Gives ns next v w old now lane (drop (i + 1) ns)
  gives_not ns next v w old now lane i n lt is h g =
      let same : mixed_of (drop (i + 1) ns) w ≡ mixed_of (drop i ns) w = sym (next_not ns i n w lt is h) in
      record {
        room = ap (λ (ms : List ℕ). lane + length ms) same ∙ g.room;
        voice = ap (λ (ms : List ℕ). moving w (onto first lane ms)) same ∙ g.voice;
        added = ap (λ (ms : List ℕ). now ++ onto first lane ms) same ∙ g.added;
      }

  -- under other names
  pub gives_as : (ns : List ℕ) (next : ℕ) (v w : Voice) (old now : List Moved) (lane : ℕ) (left : List ℕ) (x : Voice) (ms : List Moved) (k : ℕ) → x ≡ w → ms ≡ now → k ≡ lane → Gives ns next v w old now lane left → Gives ns next v x old ms k left
  gives_as ns next v w old now lane left x ms k e f h g = subst (λ (y : Voice × (List Moved × ℕ)). Gives ns next v y.0 old y.1.0 y.1.1 left) (λ i. (sym e i, (sym f i, sym h i))) g

  -- all were given
  pub gives_all : (ns : List ℕ) (next : ℕ) (v w : Voice) (old now : List Moved) (lane i : ℕ) → length ns ≤ i → Gives ns next v w old now lane (drop i ns)
      → (w ≡ moving v (onto first next (mixed_of ns v))) × ((now ≡ old ++ onto first next (mixed_of ns v)) × (lane ≡ next + length (mixed_of ns v)))
  gives_all ns next v w old now lane i past g =
      let no : mixed_of (drop i ns) w ≡ [] = none_left ns i w past in (
        ap (with_moves w) (sym (append-nil w.moves)) ∙ sym (ap (λ (ms : List ℕ). moving w (onto first lane ms)) no) ∙ g.voice,
        (
          sym (append-nil now) ∙ sym (ap (λ (ms : List ℕ). now ++ onto first lane ms) no) ∙ g.added,
          omega (arith, ap (λ (ms : List ℕ). length ms) no, g.room),
        ),
      )

  -- there is room for one more
  pub room_one : (ns : List ℕ) (next : ℕ) (v w : Voice) (old now : List Moved) (lane : ℕ) (i n : ℕ) → i < length ns → n ≡ get_or ns i 0 → mixes w n ≡ true
      → Gives ns next v w old now lane (drop i ns) → next + length (mixed_of ns v) ≤ 4096 → lane < 4096
  room_one ns next v w old now lane i n lt is h g few = omega (arith, ap (λ (ms : List ℕ). length ms) (next_mixed ns i n w lt is h), g.room, few)

-- ---- how many lanes pairs take

-- the number of the lane after them, if there are so many
abbrev pub end_if : ℕ → ℕ → Option ℕ
end_if most end = if nat_le end most then Some end else None

pub end_none : (most a b : ℕ) → most < a → a ≤ b → None ≡ end_if most b
end_none most a b lt le = sym (cond-false (nat_le b most) (Some b) None (lt-leb b most (omega (arith, lt, le))))

or_zero : Option ℕ → ℕ
or_zero None = 0
or_zero (Some n) = n

pub some_end : (most x e : ℕ) → Some e ≡ end_if most x → (nat_le x most ≡ true) × (e ≡ x)
unfolding or_zero
some_end most x e h = by (nat_le x most) refl h
  where
    by : (b : Bool) → nat_le x most ≡ b → Some e ≡ (if b then Some x else None) → (nat_le x most ≡ true) × (e ≡ x)
    by true i h = (i, ap or_zero h)
    by false i h = absurd (true≢false (ap (λ (o : Option ℕ). is_some o) h))

pub no_end : (most x : ℕ) → None ≡ end_if most x → nat_le x most ≡ false
no_end most x h = by (nat_le x most) refl h
  where
    by : (b : Bool) → nat_le x most ≡ b → None ≡ (if b then Some x else None) → nat_le x most ≡ false
    by true i h = absurd (true≢false (sym (ap (λ (o : Option ℕ). is_some o) h)))
    by false i h = i

-- too few for some are too few for more
pub none_then : (most x y : ℕ) → x ≤ y → None ≡ end_if most x → None ≡ end_if most y
none_then most x y le h = end_none most x y (leb-false x most (no_end most x h)) le

-- ---- lanes of some and then of others

pub added_two : (first next mid : ℕ) (ns : List ℕ) (vs us ws : List Voice) (old between now : List Moved) → vs ≡ us ++ ws → mid ≡ next + pairs ns us → between ≡ old ++ lanes_from first next ns us → now ≡ between ++ lanes_from first mid ns ws → now ≡ old ++ lanes_from first next ns vs
added_two first next mid ns vs us ws old between now e m b n =
    n
    ∙ (λ i. b i ++ lanes_from first (m i) ns ws)
    ∙ append_assoc old (lanes_from first next ns us) (lanes_from first (next + pairs ns us) ns ws)
    ∙ ap (λ (ms : List Moved). old ++ ms) (sym (lanes-append first next ns us ws) ∙ ap (lanes_from first next ns) (sym e))

pub pairs_two : (ns : List ℕ) (vs us ws : List Voice) → vs ≡ us ++ ws → pairs ns vs ≡ pairs ns us + pairs ns ws
pairs_two ns vs us ws e = ap (pairs ns) e ∙ pairs-append ns us ws

-- ---- a group is split or not

module _ (first most : ℕ) where
  pub then_split : (above : List Bool) (taken : ℕ) (may : Option (List Moved)) (inner rest : HeardNodes) → is_laned first most above taken may inner ≡ true → laned first most above taken (group may inner rest) ≡ as_split first most above taken inner rest
  then_split above taken may inner rest h = cond-true (is_laned first most above taken may inner) (as_split first most above taken inner rest) (as_plain first most above taken inner rest) h

  pub then_plain : (above : List Bool) (taken : ℕ) (may : Option (List Moved)) (inner rest : HeardNodes) → is_laned first most above taken may inner ≡ false → laned first most above taken (group may inner rest) ≡ as_plain first most above taken inner rest
  then_plain above taken may inner rest h = cond-false (is_laned first most above taken may inner) (as_split first most above taken inner rest) (as_plain first most above taken inner rest) h

  -- a group that is split: lanes are given below it after the groups there have theirs
  pub group_split : (above : List Bool) (taken end after : ℕ) (may : Option (List Moved)) (inner a new : HeardNodes) (ns : List ℕ) (all : List Bool) (lanes : List Moved)
      → is_some may ≡ true → ns ≡ shared_by above inner → Some end ≡ end_if most (taken + pairs ns (voices inner)) → all ≡ with_shared above ns
      → a ≡ (laned first most all end inner).nodes → after ≡ (laned first most all end inner).taken
      → new ≡ given first taken ns a → lanes ≡ lanes_from first taken ns (voices a)
      → (group (Some lanes) new none ≡ (laned first most above taken (group may inner none)).nodes) × (after ≡ (laned first most above taken (group may inner none)).taken)
  group_split above taken end after may inner a new ns all lanes m s e w n t g l =
      let ms : List ℕ = shared_by above inner in
      let x : ℕ = taken + pairs ms (voices inner) in
      let ends = some_end most x end (e ∙ ap (λ (ks : List ℕ). end_if most (taken + pairs ks (voices inner))) s) in
      let flags : all ≡ with_shared above ms = w ∙ ap (with_shared above) s in
      let below : laned first most all end inner ≡ laned first most (with_shared above ms) x inner = (λ i. laned first most (flags i) (ends.1 i) inner) in
      let b : Laned = laned first most (with_shared above ms) x inner in
      let nodes : a ≡ b.nodes = n ∙ ap (λ (r : Laned). r.nodes) below in
      let put : lanes ≡ lanes_from first taken ms (voices inner) =
      l ∙ (λ i. lanes_from first taken (s i) (voices (nodes i)))
      ∙ sym (lanes_alike first taken ms (voices inner) (voices b.nodes) (alike_laned first most (with_shared above ms) x inner)) in
      let split = then_split above taken may inner none (ap (λ b. b && nat_le x most) m ∙ ends.0) in (
        (λ i. group (Some (put i)) ((g ∙ (λ j. given first taken (s j) (nodes j))) i) none) ∙ sym (ap (λ (r : Laned). r.nodes) split),
        t ∙ ap (λ (r : Laned). r.taken) below ∙ sym (ap (λ (r : Laned). r.taken) split),
      )

  -- there is room for the lanes below it
  pub room_below : (above : List Bool) (taken end : ℕ) (inner a : HeardNodes) (ns : List ℕ) (all : List Bool) → Some end ≡ end_if most (taken + pairs ns (voices inner)) → most ≤ 4096 → a ≡ (laned first most all end inner).nodes → taken + pairs ns (voices a) ≤ 4096
  room_below above taken end inner a ns all e few n =
      let x : ℕ = taken + pairs ns (voices inner) in
      let ends = some_end most x end e in
      let same : pairs ns (voices a) ≡ pairs ns (voices inner) = ap (λ (r : HeardNodes). pairs ns (voices r)) n ∙ sym (pairs_alike ns (voices inner) (voices (laned first most all end inner).nodes) (alike_laned first most all end inner)) in
      omega (arith, same, leb-true x most ends.0, few)

  -- one that is not split
  pub group_plain : (above : List Bool) (taken after : ℕ) (may : Option (List Moved)) (inner new : HeardNodes) → is_laned first most above taken may inner ≡ false → new ≡ (laned first most above taken inner).nodes → after ≡ (laned first most above taken inner).taken
      → (group None new none ≡ (laned first most above taken (group may inner none)).nodes) × (after ≡ (laned first most above taken (group may inner none)).taken)
  group_plain above taken after may inner new h n t =
      let plain = then_plain above taken may inner none h in
      (ap (λ (r : HeardNodes). group None r none) n ∙ sym (ap (λ (r : Laned). r.nodes) plain), t ∙ sym (ap (λ (r : Laned). r.taken) plain))

  pub not_split : (above : List Bool) (taken : ℕ) (may : Option (List Moved)) (inner : HeardNodes) → is_some may ≡ false → is_laned first most above taken may inner ≡ false
  not_split above taken may inner h = ap (λ b. b && nat_le (taken + pairs (shared_by above inner) (voices inner)) most) h

  pub too_few : (above : List Bool) (taken : ℕ) (may : Option (List Moved)) (inner : HeardNodes) (ns : List ℕ) → ns ≡ shared_by above inner → None ≡ end_if most (taken + pairs ns (voices inner)) → is_laned first most above taken may inner ≡ false
  too_few above taken may inner ns s e =
      let x : ℕ = taken + pairs (shared_by above inner) (voices inner) in
      ap (λ b. is_some may && b) (no_end most x (e ∙ ap (λ (ks : List ℕ). end_if most (taken + pairs ks (voices inner))) s)) ∙ and-false (is_some may)

-- ---- the buses of a foot

-- of those that pass a test, the places were put
pub places_pass : (p : ℕ → Bool) (n : ℕ) (old xs ys : List Extent) → xs ≡ old ++ map audio_place (filter p (table (λ (k : ℕ). k) n)) → p n ≡ true → ys ≡ xs ++ audio_place n ∷ [] → ys ≡ old ++ map audio_place (filter p (table (λ (k : ℕ). k) (n + 1)))
places_pass p n old xs ys e h s =
    let ks : List ℕ = filter p (first_numbers n) in
    s ∙ ap (λ (zs : List Extent). zs ++ audio_place n ∷ []) e ∙ append_assoc old (map audio_place ks) (audio_place n ∷ [])
    ∙ ap (λ (zs : List Extent). old ++ zs) (sym (map-append audio_place ks (n ∷ [])) ∙ ap (map audio_place) (passes p n ks (ks ++ n ∷ []) refl h refl))

pub places_fail : (p : ℕ → Bool) (n : ℕ) (old xs : List Extent) → xs ≡ old ++ map audio_place (filter p (table (λ (k : ℕ). k) n)) → p n ≡ false → xs ≡ old ++ map audio_place (filter p (table (λ (k : ℕ). k) (n + 1)))
places_fail p n old xs e h = e ∙ ap (λ (ks : List ℕ). old ++ map audio_place ks) (fails p n (filter p (first_numbers n)) refl h)
