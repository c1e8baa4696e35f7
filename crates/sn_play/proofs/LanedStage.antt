-- Each synth of the nodes of a stage with lanes mixes onto its lanes as the steps ask.
use Rattle.std.proofs.Common.{◌≡◌, ◌≤◌, ◌<◌, ◌⊎◌, inl, inr, ⊎_elim, ℕ, zero, suc, ◌+◌, ◌-◌, ◌*◌, ◌==◌, Bool, true, false, not, ◌&&◌, ◌||◌, List, [], ◌∷◌, ◌++◌, map, pos, length, replicate, Option, refl, ap, sym, subst, ◌∙◌, arith, true≢false}
use Rattle.std.specs.Prelude.{nat_le, nat_lt}
use Rattle.std.specs.Option.{option_map}
use Rattle.std.specs.Ordering.{int_eq}
use Rattle.std.specs.List.{filter}
use Rattle.std.proofs.lemmas.Bool.{and_from, and_parts, cases_Bool, cases_lt, cond_both, cond-false, cond-true, eq-eqb, eqb-true, false_from_ne_true, le-leb, leb-true, lt-ltb, or_cases, or_left, or_right}
use Rattle.std.proofs.lemmas.List.{map-append}
use Rattle.std.proofs.lemmas.List.Elements.{All-cons, All-nil, filter-append}
use Rattle.sn_mem.specs.declared.extents.Extent.{Extent}
use Rattle.sn_mem.specs.declared.extents.Foot.{Foot}
use Rattle.sn_foot.specs.declared.reach.Reach.{Reach}
use Rattle.sn_mem.specs.declared.moves.Moved.{Moved}
use Rattle.sn_mem.specs.Blocks.{table}
use Rattle.sn_mem.specs.Buffers.{live_places}
use Rattle.sn_mem.specs.Lanes.{are_moves, buses_in, foot_through, lanes_in, place_in}
use Rattle.sn_mem.specs.Layout.{audio_place, lane_place}
use Rattle.sn_mem.specs.Words.{covers, has, touches, writes}
use Rattle.sn_foot.specs.Reaches.{unmoved}
use Rattle.sn_mem.specs.declared.buffers.BufferPlace.{BufferPlace}
use Rattle.sn_mem.proofs.LaneChanges.{in_lane, lane_among}
use Rattle.sn_mem.proofs.LaneWords.{place_same, through_touches, through_writes}
use Rattle.sn_io.specs.ByFoot.{IsPart}
use Rattle.sn_io.specs.Queues.{IsAmong, Puts}
use Rattle.sn_io.proofs.Agreeing.{AreSeen}
use Rattle.sn_io.proofs.Alike.{AreUnseen}
use Rattle.sn_io.proofs.Exchanging.{no_place}
use Rattle.sn_io.proofs.LanesByFoot.{lane_of}
use Rattle.sn_io.proofs.QueueRuns.{bus_of, has_bus, same_among}
use Rattle.sn_tree.specs.Trees.{Label, ids, running_labels, subtree}
use Rattle.sn_tree.specs.Steps.{AllDistinct}
use Rattle.sn_world.specs.Pictures.{has_synth, IsApart, IsHeld, Pictures, live_held}
use Rattle.sn_world.specs.WalkWords.{held_words}
use Rattle.sn_world.specs.declared.stage.Held.{Held}
use Rattle.sn_world.specs.declared.stage.Stage.{Stage}
use Rattle.sn_world.proofs.Walking.{HoldEach, running_held as all_held}
use Rattle.sn_foot.specs.Footprints.{foot_of}
use Rattle.sn_foot.specs.Suffices.{AreOfWorld}
use Rattle.sn_foot.proofs.Containing.{its_words}
use Rattle.sn_foot.proofs.MixedOnto.{MixesOnto, held_mixes_onto}
use Rattle.sn_foot.proofs.NodesByFoot.{foot_inside, own_suffices}
use Rattle.sn_foot.proofs.Runs.{has_append}
use Rattle.sn_foot.proofs.WholeBuses.{bus_whole}
use Rattle.sn_graph.specs.declared.nodes.Voice.{Voice}
use Rattle.sn_graph.specs.Voices.{HeardNodes, buses_left, is_moved, mixed_onto, own_foot, voices}
use Rattle.sn_graph.specs.Disjoint.{LieBelow}
use Rattle.sn_graph.specs.Sharing.{mixes}
use Rattle.sn_graph.specs.Stages.{clashing_in, nodes_in, nodes_with, voice_of}
use Rattle.sn_graph.specs.Fitting.{IsIn, on, touches_bus}
use Rattle.sn_graph.proofs.Alike.{few_taken}
use Rattle.sn_graph.proofs.Clearance.{AreWhole, IsWhole}
use Rattle.sn_graph.proofs.Clearing.{are_plain, whole_below}
use Rattle.sn_graph.proofs.Laning.{AreAllMoves, ArePlain, MovesThose, all_moves}
use Rattle.sn_graph.proofs.Lanewise.{given_below, given_once, times}
use Rattle.sn_graph.proofs.Resources.{overlaps_has}
use Rattle.sn_graph.proofs.Splitting.{alike, are_laned, whole_alike}
use Rattle.sn_play.specs.Named.{CanRun, held_at, or_group}
use Rattle.sn_play.specs.Steps.{CanMove}
use Rattle.sn_play.specs.Synths.{walk_synths}
use Rattle.sn_play.proofs.Among.{Among, among_filter, among_from}
use Rattle.sn_play.proofs.Finding.{found}
use Rattle.sn_play.proofs.JobFeet.{running_held}
use Rattle.sn_play.proofs.LanedSteps.{Mixes, among_times, bus_number, in_extent, lane_number, of_extent}
use Rattle.sn_play.proofs.LanedVoices.{alike_in, fewer_times, laned_in, may_move, moves_again}
use Rattle.sn_play.proofs.Resting.{held_to, places_to}
use Rattle.sn_play.proofs.Stages.{voices_walk}

in_among : (vs : List Voice) (v : Voice) → IsIn vs v → Among vs v
in_among [] v i = absurd i
in_among (w ∷ vs) v i = ⊎_elim (λ (e : w ≡ v). inl e) (λ (j : IsIn vs v). inr (in_among vs v j)) i

among_passes : {A : Type 0} (p : A → Bool) (xs : List A) (x : A) → Among (filter p xs) x → p x ≡ true
among_passes p [] x m = absurd m
among_passes {A} p (y ∷ ys) x m =
    cond_both (p y) (y ∷ filter p ys) (filter p ys) (λ zs. Among zs x → p x ≡ true)
    (λ is n. ⊎_elim (λ (e : y ≡ x). ap p (sym e) ∙ is) (λ (r : Among (filter p ys) x). among_passes p ys x r) n)
    (λ no n. among_passes p ys x n)
    m

abbrev is_some : List Moved → Bool
is_some [] = false
is_some (m ∷ ms) = true

-- a bus that is among moves
on_some : (ms : List Moved) (m : Moved) (n : ℕ) → IsAmong ms m → m.bus.at ≡ 65 * n → on n ms ≡ [] → ⊥
on_some [] m n i at e = i
on_some (k ∷ ms) m n i at e =
    let here : Bool = k.bus.at == 65 * n in
    ⊎_elim
    (λ (h : here ≡ true). true≢false (ap is_some (sym (cond-true here (k ∷ on n ms) (on n ms) h) ∙ e)))
    (λ (h : here ≡ false). ⊎_elim
    (λ (s : k ≡ m). true≢false (sym (eq-eqb k.bus.at (65 * n) (ap (λ (l : Moved). l.bus.at) s ∙ at)) ∙ h))
    (λ (j : IsAmong ms m). on_some ms m n j at (sym (cond-false here (k ∷ on n ms) (on n ms) h) ∙ e))
    i)
    (cases_Bool here)

moved_has : (first : ℕ) (ms : List Moved) (n : ℕ) → AreAllMoves first ms → is_moved ms n ≡ true → has (buses_in ms) (65 * n) ≡ true
moved_has first [] n a h = h
moved_has first (m ∷ ms) n a h = ⊎_elim
    (λ (e : (m.bus.at == 65 * n) ≡ true).
    let at : m.bus.at ≡ 65 * n = eqb-true m.bus.at (65 * n) e in
    let len : m.bus.len ≡ 65 = ap (λ (p : Extent). p.len) a.0.1.1.0 in
    or_left (covers m.bus (65 * n)) (has (buses_in ms) (65 * n)) (in_extent m.bus (65 * n) (omega (arith, at)) (omega (arith, at, len))))
    (λ (e : is_moved ms n ≡ true). or_right (covers m.bus (65 * n)) (has (buses_in ms) (65 * n)) (moved_has first ms n a.1 e))
    (or_cases (m.bus.at == 65 * n) (is_moved ms n) h)

-- the words of one bus are moved together
bus_together : (first : ℕ) (ms : List Moved) (n x y : ℕ) → AreAllMoves first ms → 65 * n ≤ x → x < 65 * n + 65 → 65 * n ≤ y → y < 65 * n + 65 → has (buses_in ms) x ≡ true → has (buses_in ms) y ≡ true
bus_together first ms n x y a from to begin end h =
    let q = bus_of ms x h in
    let k = bus_number first ms q.0 a q.1.0 in
    let u = of_extent (audio_place k.0) x (subst (λ (e : Extent). covers e x ≡ true) k.1.1 q.1.1) in
    let same : k.0 ≡ n = omega (arith, from, to, u.0, u.1) in
    has_bus ms q.0 y q.1.0 (subst (λ (e : Extent). covers e y ≡ true) (sym k.1.1) (in_extent (audio_place k.0) y (omega (arith, same, begin)) (omega (arith, same, end))))

left_has : (p : ℕ → Bool) (x n : ℕ) → p n ≡ true → covers (audio_place n) x ≡ true → (k : ℕ) → n < k → has (map audio_place (filter p (table (λ (j : ℕ). j) k))) x ≡ true
unfolding table
left_has p x n h c zero lt = absurd (omega (arith, lt))
left_has p x n h c (suc k) lt =
    let ks : List ℕ = table (λ (j : ℕ). j) k in
    let last : List ℕ = filter p (k ∷ []) in
    ap (λ (js : List ℕ). has (map audio_place js) x) (filter-append p ks (k ∷ []))
    ∙ ap (λ (es : List Extent). has es x) (map-append audio_place (filter p ks) last)
    ∙ has_append (map audio_place (filter p ks)) (map audio_place last) x
    ∙ ⊎_elim
    (λ (l : n < k). or_left (has (map audio_place (filter p ks)) x) (has (map audio_place last) x) (left_has p x n h c k l))
    (λ (g : k ≤ n).
    let same : n ≡ k = omega (arith, lt, g) in
    or_right (has (map audio_place (filter p ks)) x) (has (map audio_place last) x)
    (ap (λ (js : List ℕ). has (map audio_place js) x) (cond-true (p k) (k ∷ []) [] (ap p (sym same) ∙ h)) ∙ or_left (covers (audio_place k) x) false (ap (λ j. covers (audio_place j) x) (sym same) ∙ c)))
    (cases_lt n k)

-- what a world's stage holds lies below the lanes
pub world_below : (stage : Stage) (words : List ℕ) → Pictures stage words → (first : ℕ) → 10368 + stage.pool.region.len ≤ first → LieBelow first stage.buffers (live_held stage.tree.attached)
world_below stage words p first lies = record {
  buses = omega (arith, lies);
  places = λ x h. omega (arith, lies, p.base, places_to stage.pool.region stage.buffers x p.buffers.each (overlaps_has x (live_places stage.buffers) h));
  held = λ x h. omega (arith, lies, p.base, held_to stage.rate stage.pool.region stage.tree.attached x p.synths (overlaps_has x (live_held stage.tree.attached) h));
}

left_low : (p : ℕ → Bool) (x k : ℕ) → has (map audio_place (filter p (table (λ (j : ℕ). j) k))) x ≡ true → x < 65 * k
unfolding table
left_low p x zero h = absurd (true≢false (sym h))
left_low p x (suc k) h =
    let ks : List ℕ = table (λ (j : ℕ). j) k in
    let last : List ℕ = filter p (k ∷ []) in
    let split : (has (map audio_place (filter p ks)) x || has (map audio_place last) x) ≡ true =
    sym (ap (λ (js : List ℕ). has (map audio_place js) x) (filter-append p ks (k ∷ [])) ∙ ap (λ (es : List Extent). has es x) (map-append audio_place (filter p ks) last) ∙ has_append (map audio_place (filter p ks)) (map audio_place last) x) ∙ h in
    ⊎_elim
    (λ (l : has (map audio_place (filter p ks)) x ≡ true). omega (arith, left_low p x k l))
    (λ (r : has (map audio_place last) x ≡ true).
    cond_both (p k) (k ∷ []) [] (λ (js : List ℕ). has (map audio_place js) x ≡ true → x < 65 * suc k)
    (λ is n. ⊎_elim
    (λ (c : covers (audio_place k) x ≡ true). omega (arith, (of_extent (audio_place k) x c).1))
    (λ (c : false ≡ true). absurd (true≢false (sym c)))
    (or_cases (covers (audio_place k) x) false n))
    (λ no n. absurd (true≢false (sym n)))
    r)
    (or_cases (has (map audio_place (filter p ks)) x) (has (map audio_place last) x) split)

-- what a synth mixes, or the lanes in place of it
onto_parts : (ms : List Moved) (es : List Extent) (x : ℕ) → has (mixed_onto ms es) x ≡ true → (has es x ≡ true) ⊎ ((x < 8320) ⊎ (has (lanes_in ms) x ≡ true))
onto_parts [] es x h = inl h
onto_parts (m ∷ ms) es x h = ⊎_elim
    (λ (l : has (buses_left (m ∷ ms) es) x ≡ true). inr (inl (left_low (λ n. has es (65 * n) && not (is_moved (m ∷ ms) n)) x 128 l)))
    (λ (r : has (lanes_in (m ∷ ms)) x ≡ true). inr (inr r))
    (or_cases (has (buses_left (m ∷ ms) es) x) (has (lanes_in (m ∷ ms)) x) (sym (has_append (buses_left (m ∷ ms) es) (lanes_in (m ∷ ms)) x) ∙ h))

-- what a synth moves, it may write on the lanes
pub own_lanes : (v : Voice) (x : ℕ) → has (lanes_in v.moves) x ≡ true → has (own_foot v).writes x ≡ true
own_lanes v x o = has_append v.reach.writes (mixed_onto v.moves v.reach.mixes) x ∙ or_right (has v.reach.writes x) (has (mixed_onto v.moves v.reach.mixes) x) (among_mixed v.moves v.reach.mixes o)
  where
    among_mixed : (ms : List Moved) (es : List Extent) → has (lanes_in ms) x ≡ true → has (mixed_onto ms es) x ≡ true
    among_mixed [] es o = absurd (true≢false (sym o))
    among_mixed (m ∷ ms) es o = has_append (buses_left (m ∷ ms) es) (lanes_in (m ∷ ms)) x ∙ or_right (has (buses_left (m ∷ ms) es) x) (has (lanes_in (m ∷ ms)) x) o

-- a synth that moves nothing has its own words
unmoved_own : (v : Voice) → v.moves ≡ [] → own_foot v ≡ unmoved v.reach
unmoved_own v e = ap (λ (ms : List Moved). record { reads = v.reach.reads; writes = v.reach.writes ++ mixed_onto ms v.reach.mixes }) e

held_each : (rate : ℕ) (region : Extent) (places : List (Option BufferPlace)) (ls : List (Label Held)) (l : Label Held) → HoldEach rate region places ls → Among ls l → IsHeld rate region l.payload × IsApart places l.payload
held_each rate region places [] l each m = absurd m
held_each rate region places (k ∷ ks) l each m = ⊎_elim
    (λ (e : k ≡ l). subst (λ (l : Label Held). IsHeld rate region l.payload × IsApart places l.payload) e each.0)
    (λ (n : Among ks l). held_each rate region places ks l each.1 n)
    m

module _ (stage : Stage) (top : subtree (pos 0) stage.tree.attached ≡ stage.tree.attached) (distinct : AllDistinct int_eq (ids stage.tree.attached)) (words : List ℕ) (p : Pictures stage words) (first most : ℕ) (lies : 10368 + stage.pool.region.len ≤ first) (room : first + 65 * most ≤ length words) (bounded : first + 65 * most < 4294967296) where
  abbrev pub is_lane : ℕ → Bool
  is_lane x = nat_le first x && nat_lt x (first + 65 * most)

  abbrev pub nodes : HeardNodes
  nodes = nodes_with first most stage

  pub lane_past : (x : ℕ) → is_lane x ≡ true → 8320 ≤ x
  lane_past x h = let q = and_parts (nat_le first x) (nat_lt x (first + 65 * most)) h in omega (arith, lies, leb-true first x q.0)

  abbrev start : List Bool
  start = replicate 128 false

  pub plain : ArePlain (nodes_in stage)
  plain = are_plain stage.buffers (clashing_in stage) (subtree (pos 0) stage.tree.attached)

  pub once : (k : ℕ) → times first k (all_moves (voices nodes)) ≤ 1
  once k = given_once first most k start 0 (nodes_in stage) plain

  pub inside : (k : ℕ) → 1 ≤ times first k (all_moves (voices nodes)) → k < most
  inside k l = omega (arith, given_below first most k start 0 (nodes_in stage) plain l, few_taken first most start 0 (nodes_in stage) (omega arith))

  pub lane_is : (k x : ℕ) → covers (lane_place first k) x ≡ true → k < most → is_lane x ≡ true
  lane_is k x c lt =
      let q = of_extent (lane_place first k) x c in
      and_from (nat_le first x) (nat_lt x (first + 65 * most)) (le-leb first x (omega (arith, q.0))) (lt-ltb x (first + 65 * most) (omega (arith, q.1, lt)))

  -- a synth of these nodes is one of the walk's
  record IsWalked (v : Voice) : Type 0 where
    pub label : Label Held
    pub among : Among (walk_synths stage) label
    pub id : v.id ≡ label.id
    pub reach : v.reach ≡ foot_of stage.buffers (label.payload ∷ [])

  walked : (v : Voice) → IsIn (voices nodes) v → IsWalked v
  walked v i =
      let q = alike_in (voices (nodes_in stage)) (voices nodes) v (alike first most (nodes_in stage) plain) i in
      let l = among_from (λ (l : Label Held). voice_of stage.buffers l.id l.payload) (walk_synths stage) q.0 (subst (λ (vs : List Voice). Among vs q.0) (voices_walk stage top words p) (in_among (voices (nodes_in stage)) q.0 q.1.0)) in
      record {
        label = l.0;
        among = l.1.0;
        id = sym q.1.1.0 ∙ ap (λ (u : Voice). u.id) (sym l.1.1);
        reach = sym q.1.1.1 ∙ ap (λ (u : Voice). u.reach) (sym l.1.1);
      }

  module _ (b : ℕ) (v : Voice) (i : IsIn (voices nodes) v) where
    it : IsWalked v
    it = walked v i

    abbrev h : Held
    h = it.label.payload

    -- what is moved
    mv : (B : ℕ → Bool) × MovesThose first B v
    mv = laned_in first (λ n. false) (λ n. false) nodes v (are_laned first most (nodes_in stage) plain) i

    each : AreAllMoves first v.moves
    each = mv.1.each

    reached : Among (running_labels stage.tree.attached) it.label
    reached = among_filter (λ (l : Label Held). has_synth l.payload) (running_labels stage.tree.attached) it.label it.among

    world : AreOfWorld stage.rate stage.pool.region stage.buffers (h ∷ [])
    world = record {
      base = p.base;
      bounded = omega (arith, p.base, p.bounded);
      each = p.buffers.each;
      held = All-cons (IsHeld stage.rate stage.pool.region) h [] (running_held stage.rate stage.pool.region stage.tree.attached it.label p.synths reached) (All-nil (IsHeld stage.rate stage.pool.region));
    }

    named : held_at stage v.id ≡ h
    named = ap (held_at stage) it.id ∙ ap (λ (o : Option (Label Held)). or_group (option_map (λ (l : Label Held). l.payload) o)) (found stage.tree.attached distinct it.label reached)

    mixed_there : (n : ℕ) → mixes v n ≡ true → has (foot_of stage.buffers (h ∷ [])).mixes (65 * n) ≡ true
    mixed_there n m = ap (λ (r : Reach). has r.mixes (65 * n)) (sym it.reach) ∙ m

    buses : (m : Moved) → IsAmong v.moves m → (n : ℕ) × ((n < 128) × ((m.bus ≡ audio_place n) × (has (foot_of stage.buffers (h ∷ [])).mixes (65 * n) ≡ true)))
    buses m a =
        let q = bus_number first v.moves m each a in (
          q.0,
          (
            q.1.0,
            (
              q.1.1,
              ⊎_elim
                  (λ (t : (mv.0 q.0 && mixes v q.0) ≡ true). mixed_there q.0 (and_parts (mv.0 q.0) (mixes v q.0) t).1)
                  (λ (t : (mv.0 q.0 && mixes v q.0) ≡ false). absurd (on_some v.moves m q.0 a (ap (λ (e : Extent). e.at) q.1.1) (mv.1.unmoved q.0 q.1.0 t)))
                  (cases_Bool (mv.0 q.0 && mixes v q.0)),
            ),
          ),
        )

    one_each : (n : ℕ) → n < 128 → (on n v.moves ≡ []) ⊎ ((m : Moved) × (on n v.moves ≡ m ∷ []))
    one_each n lt = ⊎_elim
        (λ (t : (mv.0 n && mixes v n) ≡ true). let q = and_parts (mv.0 n) (mixes v n) t in inr (mv.1.moved n lt q.0 q.1))
        (λ (t : (mv.0 n && mixes v n) ≡ false). inl (mv.1.unmoved n lt t))
        (cases_Bool (mv.0 n && mixes v n))

    number_below : (k : ℕ) → 1 ≤ times first k v.moves → k < most
    number_below k l = inside k (omega (arith, l, fewer_times first k (voices nodes) v i))

    onto : MixesOnto b 4294967296 (foot_of stage.buffers (h ∷ [])) v.moves (held_words stage.rate b v.id stage.buffers h)
    onto = held_mixes_onto stage.rate b v.id stage.pool.region stage.buffers h 4294967296 v.moves (omega arith) (among_passes (λ (l : Label Held). has_synth l.payload) (running_labels stage.tree.attached) it.label it.among) world buses

    whole_is : (n x : ℕ) → n < 128 → 65 * n ≤ x → x < 65 * n + 65 → touches (unmoved (foot_of stage.buffers (h ∷ []))) x ≡ touches (unmoved (foot_of stage.buffers (h ∷ []))) (65 * n)
    whole_is = bus_whole stage.rate stage.pool.region stage.buffers (h ∷ []) (foot_of stage.buffers (h ∷ [])) world (its_words stage.buffers (h ∷ []))

    below : (x : ℕ) → touches onto.foot x ≡ true → x < first
    below x t = omega (arith, lies, p.base, foot_inside stage.rate stage.pool.region stage.buffers (h ∷ []) (foot_of stage.buffers (h ∷ [])) x world (its_words stage.buffers (h ∷ [])) (onto.within x t))

    seen_or_not : (n : ℕ) → n < 128 → (AreSeen (touches onto.foot) (65 * n) 65 × (touches_bus v n ≡ true)) ⊎ AreUnseen (touches onto.foot) (65 * n) 65
    seen_or_not n lt =
        let whole : Foot = unmoved (foot_of stage.buffers (h ∷ [])) in
        ⊎_elim
        (λ (m : has (buses_in v.moves) (65 * n) ≡ true). inr (λ j from to. onto.off j (bus_together first v.moves n (65 * n) j each (omega arith) (omega arith) from to m)))
        (λ (m : has (buses_in v.moves) (65 * n) ≡ false). ⊎_elim
        (λ (t : touches whole (65 * n) ≡ true).
        inl (
          (λ j from to. onto.kept j (whole_is n j lt from to ∙ t) (false_from_ne_true (has (buses_in v.moves) j) (λ o. true≢false (sym (bus_together first v.moves n j (65 * n) each from to (omega arith) (omega arith) o) ∙ m)))),
          and_from (touches (unmoved v.reach) (65 * n)) (not (is_moved v.moves n)) (ap (λ (r : Reach). touches (unmoved r) (65 * n)) it.reach ∙ t)
              (ap not (false_from_ne_true (is_moved v.moves n) (λ o. true≢false (sym (moved_has first v.moves n each o) ∙ m)))),
        ))
        (λ (t : touches whole (65 * n) ≡ false). inr (λ j from to. false_from_ne_true (touches onto.foot j) (λ o. true≢false (sym (onto.within j o) ∙ (whole_is n j lt from to ∙ t)))))
        (cases_Bool (touches whole (65 * n))))
        (cases_Bool (has (buses_in v.moves) (65 * n)))

    -- the words but those of the buses that are moved are the synth's own
    whole_bus : IsWhole first v
    whole_bus = whole_in (voices nodes) (whole_alike first (voices (nodes_in stage)) (voices nodes) (alike first most (nodes_in stage) plain) (whole_below stage.buffers (clashing_in stage) first (pos 0) stage.tree.attached (world_below stage words p first lies))) i
      where
        whole_in : (vs : List Voice) → AreWhole first vs → IsIn vs v → IsWhole first v
        whole_in [] w j = absurd j
        whole_in (u ∷ vs) w j = ⊎_elim (λ (e : u ≡ v). subst (λ (x : Voice). IsWhole first x) e w.0) (λ (k : IsIn vs v). whole_in vs w.1 k) j

    put_there : (x : ℕ) → has (v.reach.writes ++ v.reach.mixes) x ≡ true → has (buses_in v.moves) x ≡ false → has (own_foot v).writes x ≡ true
    put_there x t apart =
        has_append v.reach.writes (mixed_onto v.moves v.reach.mixes) x
        ∙ ⊎_elim
        (λ (w : has v.reach.writes x ≡ true). or_left (has v.reach.writes x) (has (mixed_onto v.moves v.reach.mixes) x) w)
        (λ (m : has v.reach.mixes x ≡ true). or_right (has v.reach.writes x) (has (mixed_onto v.moves v.reach.mixes) x) (left_on v.moves refl m))
        (or_cases (has v.reach.writes x) (has v.reach.mixes x) (sym (has_append v.reach.writes v.reach.mixes x) ∙ t))
      where
        left_on : (ms : List Moved) → ms ≡ v.moves → has v.reach.mixes x ≡ true → has (mixed_onto ms v.reach.mixes) x ≡ true
        left_on [] e m = m
        left_on (k ∷ ms) e m =
            let q = whole_bus.mixed x m in
            let n : ℕ = q.0 in
            let c = of_extent (audio_place n) x q.1.1.0 in
            let still : is_moved (k ∷ ms) n ≡ false = false_from_ne_true (is_moved (k ∷ ms) n) (λ o.
            true≢false (sym (bus_together first v.moves n (65 * n) x each (omega arith) (omega arith) c.0 c.1 (moved_has first v.moves n each (ap (λ (ks : List Moved). is_moved ks n) (sym e) ∙ o))) ∙ apart)) in
            has_append (buses_left (k ∷ ms) v.reach.mixes) (lanes_in (k ∷ ms)) x
            ∙ or_left (has (buses_left (k ∷ ms) v.reach.mixes) x) (has (lanes_in (k ∷ ms)) x)
            (left_has (λ j. has v.reach.mixes (65 * j) && not (is_moved (k ∷ ms) j)) x n (and_from (has v.reach.mixes (65 * n)) (not (is_moved (k ∷ ms) n)) q.1.1.1 (ap not still)) q.1.1.0 128 q.1.0)

    is_part : IsPart onto.foot (own_foot v)
    is_part =
        let whole : Foot = unmoved v.reach in
        let not_moved : (x : ℕ) → touches onto.foot x ≡ true → has (buses_in v.moves) x ≡ false = λ x t. false_from_ne_true (has (buses_in v.moves) x) (λ o. true≢false (sym t ∙ onto.off x o)) in
        let written : (x : ℕ) → writes onto.foot x ≡ true → has (own_foot v).writes x ≡ true =
        λ x w. put_there x (ap (λ (r : Reach). writes (unmoved r) x) it.reach ∙ onto.written x w) (not_moved x (or_left (has onto.foot.writes x) (has onto.foot.reads x) w)) in
        record {
          written = written;
          touched = λ x t. ⊎_elim
              (λ (w : has whole.writes x ≡ true). or_left (has (own_foot v).writes x) (has (own_foot v).reads x) (put_there x w (not_moved x t)))
              (λ (r : has whole.reads x ≡ true). or_right (has (own_foot v).writes x) (has (own_foot v).reads x) r)
              (or_cases (has whole.writes x) (has whole.reads x) (ap (λ (r : Reach). touches (unmoved r) x) it.reach ∙ onto.within x t));
        }

    pub voice_mixes : Mixes stage b first (length words) is_lane lane_past v
    voice_mixes = record {
      foot = onto.foot;
      puts = subst (λ (g : Held). Puts b onto.foot v.moves (held_words stage.rate b v.id stage.buffers g)) (sym named) onto.puts;
      part = is_part;
      moves = may_move first (length words) (omega (arith, lies)) v.moves each
          (λ n lt. ⊎_elim
          (λ (e : on n v.moves ≡ []). omega (arith, ap (λ (ms : List Moved). length ms) e))
          (λ (e : (m : Moved) × (on n v.moves ≡ m ∷ [])). omega (arith, ap (λ (ms : List Moved). length ms) e.1))
          (one_each n lt))
          (λ k. omega (arith, once k, fewer_times first k (voices nodes) v i))
          (λ k l. let low = number_below k l in (omega (arith, low, room), omega (arith, low, bounded)))
          (omega (arith, p.fits));
      each = each;
      lanes = λ x o.
          let q = lane_of v.moves x o in
          let l = lane_number first v.moves q.0 each q.1.0 in
          lane_is l.0 x (subst (λ (e : Extent). covers e x ≡ true) l.1 q.1.1) (number_below l.0 (among_times first l.0 v.moves q.0 q.1.0 (ap (λ (e : Extent). e.at) l.1)));
      off_buses = onto.off;
      off_lanes = λ x o. false_from_ne_true (touches onto.foot x) (λ t. let q = and_parts (nat_le first x) (nat_lt x (first + 65 * most)) o in omega (arith, leb-true first x q.0, below x t));
      touched = seen_or_not;
      one = one_each;
    }

    -- ---- it runs through its lanes

    -- its words lie before the lanes
    before : (x : ℕ) → touches (unmoved v.reach) x ≡ true → x < 10368 + stage.pool.region.len
    before x t = omega (arith, p.base, foot_inside stage.rate stage.pool.region stage.buffers (h ∷ []) (foot_of stage.buffers (h ∷ [])) x world (its_words stage.buffers (h ∷ [])) (ap (λ (r : Reach). touches (unmoved r) x) (sym it.reach) ∙ t))

    low : (x : ℕ) → touches (unmoved v.reach) x ≡ true → x < first
    low x t = omega (arith, lies, before x t)

    -- its own words lie before them, or on its lanes
    pub own_where : (x : ℕ) → touches (own_foot v) x ≡ true → (x < 10368 + stage.pool.region.len) ⊎ (is_lane x ≡ true)
    own_where x t =
        let whole : Foot = unmoved v.reach in
        let put : has whole.writes x ≡ true → x < 10368 + stage.pool.region.len = λ w. before x (or_left (has whole.writes x) (has whole.reads x) w) in
        ⊎_elim
        (λ (w : has (own_foot v).writes x ≡ true). ⊎_elim
        (λ (a : has v.reach.writes x ≡ true). inl (put (has_append v.reach.writes v.reach.mixes x ∙ or_left (has v.reach.writes x) (has v.reach.mixes x) a)))
        (λ (a : has (mixed_onto v.moves v.reach.mixes) x ≡ true). ⊎_elim
        (λ (m : has v.reach.mixes x ≡ true). inl (put (has_append v.reach.writes v.reach.mixes x ∙ or_right (has v.reach.writes x) (has v.reach.mixes x) m)))
        (λ (o : (x < 8320) ⊎ (has (lanes_in v.moves) x ≡ true)). ⊎_elim
        (λ (l : x < 8320). inl (omega (arith, l)))
        (λ (l : has (lanes_in v.moves) x ≡ true). inr (voice_mixes.lanes x l))
        o)
        (onto_parts v.moves v.reach.mixes x a))
        (or_cases (has v.reach.writes x) (has (mixed_onto v.moves v.reach.mixes) x) (sym (has_append v.reach.writes (mixed_onto v.moves v.reach.mixes) x) ∙ w)))
        (λ (r : has (own_foot v).reads x ≡ true). inl (before x (or_right (has whole.writes x) (has whole.reads x) r)))
        (or_cases (has (own_foot v).writes x) (has (own_foot v).reads x) t)

    not_lane : (x : ℕ) → x < first → has (lanes_in v.moves) x ≡ false
    not_lane x lt = false_from_ne_true (has (lanes_in v.moves) x) (λ o.
        let q = lane_of v.moves x o in
        let l = lane_number first v.moves q.0 each q.1.0 in
        let u = of_extent (lane_place first l.0) x (subst (λ (e : Extent). covers e x ≡ true) l.1 q.1.1) in
        omega (arith, lt, u.0))

    own_touched : (x : ℕ) → touches (unmoved v.reach) x ≡ true → has (buses_in v.moves) x ≡ false → touches (own_foot v) x ≡ true
    own_touched x t off =
        let whole : Foot = unmoved v.reach in
        ⊎_elim
        (λ (w : has whole.writes x ≡ true). or_left (has (own_foot v).writes x) (has (own_foot v).reads x) (put_there x w off))
        (λ (r : has whole.reads x ≡ true). or_right (has (own_foot v).writes x) (has (own_foot v).reads x) r)
        (or_cases (has whole.writes x) (has whole.reads x) t)

    -- it can run over each foot that has its words
    can_run : (f : Foot) → IsPart (unmoved v.reach) f → CanRun stage f (held_at stage v.id)
    can_run f part =
        let both = held_each stage.rate stage.pool.region stage.buffers (running_labels stage.tree.attached) it.label (all_held stage.rate stage.pool.region stage.buffers stage.tree.attached p.synths p.base p.buffers.each p.apart) reached in
        subst (λ (g : Held). CanRun stage f g) (sym named)
        (record { is_held = both.0; is_apart = both.1; suffices = own_suffices stage.rate stage.pool.region stage.buffers f h world (subst (λ (r : Reach). IsPart (unmoved r) f) it.reach part) })

    -- over a foot that has its own words, which lie in so many
    module _ (g : Foot) (part : IsPart (own_foot v) g) (size : ℕ) (wide : (x : ℕ) → touches g x ≡ true → x < size) where
      lane_low : (m : Moved) → IsAmong v.moves m → m.lane.at + 65 ≤ size
      lane_low m a =
          let l = lane_number first v.moves m each a in
          let len : m.lane.len ≡ 65 = ap (λ (e : Extent). e.len) l.1 in
          let y : ℕ = m.lane.at + 64 in
          let on : covers m.lane y ≡ true = in_extent m.lane y (omega arith) (omega (arith, len)) in
          omega (arith, wide y (or_left (has g.writes y) (has g.reads y) (part.written y (own_lanes v y (lane_among v.moves m y (same_among v.moves m a) on)))))

      moves_inside : are_moves size v.moves ≡ true
      moves_inside = moves_again (length words) size v.moves voice_mixes.moves (λ m a.
          let n = bus_number first v.moves m each a in
          let l = lane_number first v.moves m each a in
          let bus_at : m.bus.at ≡ 65 * n.0 = ap (λ (e : Extent). e.at) n.1.1 in
          let lane_at : m.lane.at ≡ first + 65 * l.0 = ap (λ (e : Extent). e.at) l.1 in
          (omega (arith, bus_at, n.1.0, lane_at, lies, lane_low m a), lane_low m a))

      -- where a word of a moved bus stands
      on_lane : (x : ℕ) → has (buses_in v.moves) x ≡ true → (first ≤ place_in v.moves x) × (writes g (place_in v.moves x) ≡ true)
      on_lane x o =
          let q = bus_of v.moves x o in
          let m : Moved = q.0 in
          let y : ℕ = m.lane.at + (x - m.bus.at) in
          let n = bus_number first v.moves m each q.1.0 in
          let l = lane_number first v.moves m each q.1.0 in
          let u = of_extent m.bus x q.1.1 in
          let bus_len : m.bus.len ≡ 65 = ap (λ (e : Extent). e.len) n.1.1 in
          let lane_len : m.lane.len ≡ 65 = ap (λ (e : Extent). e.len) l.1 in
          let lane_at : m.lane.at ≡ first + 65 * l.0 = ap (λ (e : Extent). e.at) l.1 in
          let on : covers m.lane y ≡ true = in_extent m.lane y (omega arith) (omega (arith, u.0, u.1, bus_len, lane_len)) in
          let place : place_in v.moves x ≡ y = in_lane size v.moves m x moves_inside (same_among v.moves m q.1.0) q.1.1 in
          (omega (arith, place, lane_at), ap (writes g) place ∙ part.written y (own_lanes v y (lane_among v.moves m y (same_among v.moves m q.1.0) on)))

      its_place : (x : ℕ) → x < first → has (buses_in v.moves) x ≡ false → place_in v.moves x ≡ x
      its_place x lt off = place_same v.moves x (no_place v.moves x off (not_lane x lt))

      inside_it : (x : ℕ) → touches (unmoved v.reach) x ≡ true → x < size
      inside_it x t = ⊎_elim
          (λ (o : has (buses_in v.moves) x ≡ true).
          let q = on_lane x o in
          let y : ℕ = place_in v.moves x in
          omega (arith, low x t, q.0, wide y (or_left (has g.writes y) (has g.reads y) q.1)))
          (λ (o : has (buses_in v.moves) x ≡ false). wide x (part.touched x (own_touched x t o)))
          (cases_Bool (has (buses_in v.moves) x))

      through_part : IsPart (unmoved v.reach) (foot_through v.moves size g)
      through_part = record {
        written = λ x w.
            let t : touches (unmoved v.reach) x ≡ true = or_left (has (unmoved v.reach).writes x) (has (unmoved v.reach).reads x) w in
            through_writes v.moves size g x (inside_it x t) moves_inside (not_lane x (low x t)) (⊎_elim
            (λ (o : has (buses_in v.moves) x ≡ true). (on_lane x o).1)
            (λ (o : has (buses_in v.moves) x ≡ false). ap (writes g) (its_place x (low x t) o) ∙ part.written x (put_there x w o))
            (cases_Bool (has (buses_in v.moves) x)));
        touched = λ x t.
            let y : ℕ = place_in v.moves x in
            through_touches v.moves size g x (inside_it x t) moves_inside (not_lane x (low x t)) (⊎_elim
            (λ (o : has (buses_in v.moves) x ≡ true). or_left (has g.writes y) (has g.reads y) (on_lane x o).1)
            (λ (o : has (buses_in v.moves) x ≡ false). ap (touches g) (its_place x (low x t) o) ∙ part.touched x (own_touched x t o))
            (cases_Bool (has (buses_in v.moves) x)));
      }

      pub can_move : CanMove stage b v.id v.moves g size
      unfolding onto voice_mixes
      can_move = record {
        plain = λ e. can_run g (subst (λ (f : Foot). IsPart f g) (unmoved_own v e) part);
        moved = can_run (foot_through v.moves size g) through_part;
        moves = moves_inside;
        own = onto.foot;
        puts = voice_mixes.puts;
        off_buses = onto.off;
        off_lanes = λ x o. false_from_ne_true (touches onto.foot x) (λ t. true≢false (sym o ∙ not_lane x (below x t)));
      }
