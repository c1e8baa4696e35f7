-- Words with lanes wait for those of the walk, step by step.
use Rattle.std.proofs.Common.{append-nil, ◌≡◌, ◌≢◌, ◌≤◌, ◌<◌, ◌⊎◌, inl, inr, ⊎_elim, ℕ, ◌+◌, ◌*◌, ◌-◌, ◌==◌, Bool, true, false, not, ◌&&◌, if◌then◌else◌, List, [], ◌∷◌, ◌++◌, ℤ, length, get_or, refl, ap, sym, subst, ◌∙◌, arith, All, true≢false}
use Rattle.std.specs.Prelude.{nat_le, nat_lt}
use Rattle.std.proofs.lemmas.Bool.{and_from, and_parts, cases_Bool, cases_eq, cond-false, cond-true, eq-eqb, eqb-true, false_from_ne_true, le-leb, leb-true, lt-ltb, ltb-true, ne_eqb, or_cases, or_from, or_left, or_right}
use Rattle.std.proofs.lemmas.List.Elements.{All-cons, All-nil}
use Rattle.sn_mem.specs.declared.extents.Extent.{Extent}
use Rattle.sn_mem.specs.declared.extents.Foot.{Foot}
use Rattle.sn_mem.specs.declared.moves.Moved.{Moved}
use Rattle.sn_mem.specs.Blocks.{samples_at}
use Rattle.sn_mem.specs.Lanes.{are_moves, buses_in, lanes_in, seen_through, through}
use Rattle.sn_mem.specs.Layout.{audio_place, lane_place}
use Rattle.sn_mem.specs.Words.{covers, has, touches}
use Rattle.sn_io.specs.ByFoot.{IsPart}
use Rattle.sn_io.specs.Joints.{with_lanes}
use Rattle.sn_io.specs.Queues.{IsAmong, IsOn, Puts, Waits}
use Rattle.sn_io.proofs.Agreeing.{AreSeen}
use Rattle.sn_io.proofs.Alike.{AreUnseen}
use Rattle.sn_io.proofs.LanesByFoot.{lane_of}
use Rattle.sn_io.proofs.Mixing.{onto_apart, onto_long, onto_mark}
use Rattle.sn_io.proofs.QueueRuns.{MayRun, left_alone, same_among, waits_more}
use Rattle.sn_io.proofs.Queues.{waits_less}
use Rattle.sn_mem.proofs.LaneChanges.{laid_lane, laid_long, lane_inside, seen_long}
use Rattle.sn_world.specs.declared.stage.Stage.{Stage}
use Rattle.sn_graph.specs.declared.nodes.Voice.{Voice}
use Rattle.sn_graph.specs.Voices.{own_foot}
use Rattle.sn_graph.specs.Plans.{Step, renders, adds_lane}
use Rattle.sn_graph.specs.Fitting.{Fits, IsIn, at_end, rendered, added, on, touches_bus}
use Rattle.sn_graph.proofs.Laning.{AreAllMoves}
use Rattle.sn_graph.proofs.Lanewise.{times, times-append}
use Rattle.sn_play.specs.Named.{words_by_ids}
use Rattle.sn_play.specs.Steps.{lane_step, lane_steps, walk_step, walk_steps}

-- ---- steps

-- the buses that synths move
abbrev pub moves_in : List Step → List Moved
moves_in [] = []
moves_in (renders a ms ∷ rest) = ms ++ moves_in rest
moves_in (adds_lane m ∷ rest) = moves_in rest

pub no_moves : (ms : List Moved) → (length ms == 0) ≡ true → ms ≡ []
no_moves [] h = refl
no_moves (m ∷ ms) h = absurd (omega (arith, eqb-true (length (m ∷ ms)) 0 h))

-- ---- moves on one bus

pub among_times : (first k : ℕ) (ms : List Moved) (m : Moved) → IsAmong ms m → m.lane.at ≡ first + 65 * k → 1 ≤ times first k ms
among_times first k [] m a e = absurd a
among_times first k (n ∷ ms) m a e = ⊎_elim
    (λ (s : n ≡ m). let on : (n.lane.at == first + 65 * k) ≡ true = eq-eqb n.lane.at (first + 65 * k) (ap (λ (l : Moved). l.lane.at) s ∙ e) in omega (arith, ap {B = ℕ} (λ (c : Bool). if c then 1 else 0) on))
    (λ (i : IsAmong ms m). omega (arith, among_times first k ms m i e))
    a

fewer_times : (first k n : ℕ) (ms : List Moved) → times first k (on n ms) ≤ times first k ms
fewer_times first k n [] = omega arith
fewer_times first k n (m ∷ ms) = ⊎_elim
    (λ (h : (m.bus.at == 65 * n) ≡ true). omega (arith, ap (λ (ks : List Moved). times first k ks) (cond-true (m.bus.at == 65 * n) (m ∷ on n ms) (on n ms) h), fewer_times first k n ms))
    (λ (h : (m.bus.at == 65 * n) ≡ false). omega (arith, ap (λ (ks : List Moved). times first k ks) (cond-false (m.bus.at == 65 * n) (m ∷ on n ms) (on n ms) h), fewer_times first k n ms))
    (cases_Bool (m.bus.at == 65 * n))

abbrev is_some : List Moved → Bool
is_some [] = false
is_some (m ∷ ms) = true

abbrev head_of : Moved → List Moved → Moved
head_of d [] = d
head_of d (m ∷ ms) = m

-- no move of the bus: none of its words is moved
no_words : (first n : ℕ) (ms : List Moved) → AreAllMoves first ms → on n ms ≡ [] → (x : ℕ) → 65 * n ≤ x → x < 65 * n + 65 → has (buses_in ms) x ≡ false
no_words first n [] a e x from to = refl
no_words first n (m ∷ ms) a e x from to =
    let here : Bool = m.bus.at == 65 * n in
    ⊎_elim
    (λ (h : here ≡ true). absurd (true≢false (ap is_some (sym (cond-true here (m ∷ on n ms) (on n ms) h) ∙ e))))
    (λ (h : here ≡ false).
    let at : m.bus.at ≡ 65 * a.0.0 = ap (λ (p : Extent). p.at) a.0.1.1.0 in
    let len : m.bus.len ≡ 65 = ap (λ (p : Extent). p.len) a.0.1.1.0 in
    or_from (covers m.bus x) (has (buses_in ms) x)
    (false_from_ne_true (covers m.bus x) (λ c.
    let p = and_parts (nat_le m.bus.at x) (nat_lt x (m.bus.at + m.bus.len)) c in
    true≢false (sym (eq-eqb m.bus.at (65 * n) (omega (arith, at, len, from, to, leb-true m.bus.at x p.0, ltb-true x (m.bus.at + m.bus.len) p.1))) ∙ h)))
    (no_words first n ms a.1 (sym (cond-false here (m ∷ on n ms) (on n ms) h) ∙ e) x from to))
    (cases_Bool here)

-- a move of the bus
one_on : (first n : ℕ) (ms : List Moved) (m : Moved) (rest : List Moved) → AreAllMoves first ms → on n ms ≡ m ∷ rest → IsAmong ms m × ((m.bus ≡ audio_place n) × ((k : ℕ) × (m.lane ≡ lane_place first k)))
one_on first n [] m rest a e = absurd (true≢false (sym (ap is_some e)))
one_on first n (k ∷ ms) m rest a e =
    let here : Bool = k.bus.at == 65 * n in
    ⊎_elim
    (λ (h : here ≡ true).
    let same : k ≡ m = ap (λ (ks : List Moved). head_of k ks) (sym (cond-true here (k ∷ on n ms) (on n ms) h) ∙ e) in
    let at : k.bus.at ≡ 65 * a.0.0 = ap (λ (p : Extent). p.at) a.0.1.1.0 in
    let number : a.0.0 ≡ n = omega (arith, at, eqb-true k.bus.at (65 * n) h) in
    (inl same, (ap (λ (l : Moved). l.bus) (sym same) ∙ a.0.1.1.0 ∙ ap audio_place number, (a.0.1.1.1.0, ap (λ (l : Moved). l.lane) (sym same) ∙ a.0.1.1.1.1))))
    (λ (h : here ≡ false). let q = one_on first n ms m rest a.1 (sym (cond-false here (k ∷ on n ms) (on n ms) h) ∙ e) in (inr q.0, q.1))
    (cases_Bool here)

pub in_extent : (e : Extent) (x : ℕ) → e.at ≤ x → x < e.at + e.len → covers e x ≡ true
in_extent e x from to = and_from (nat_le e.at x) (nat_lt x (e.at + e.len)) (le-leb e.at x from) (lt-ltb x (e.at + e.len) to)

pub of_extent : (e : Extent) (x : ℕ) → covers e x ≡ true → (e.at ≤ x) × (x < e.at + e.len)
of_extent e x c = let p = and_parts (nat_le e.at x) (nat_lt x (e.at + e.len)) c in (leb-true e.at x p.0, ltb-true x (e.at + e.len) p.1)

-- the lane of a move among these
pub lane_number : (first : ℕ) (ms : List Moved) (m : Moved) → AreAllMoves first ms → IsAmong ms m → (k : ℕ) × (m.lane ≡ lane_place first k)
lane_number first [] m a i = absurd i
lane_number first (n ∷ ms) m a i = ⊎_elim
    (λ (e : n ≡ m). (a.0.1.1.1.0, ap (λ (l : Moved). l.lane) (sym e) ∙ a.0.1.1.1.1))
    (λ (j : IsAmong ms m). lane_number first ms m a.1 j)
    i

pub bus_number : (first : ℕ) (ms : List Moved) (m : Moved) → AreAllMoves first ms → IsAmong ms m → (n : ℕ) × ((n < 128) × (m.bus ≡ audio_place n))
bus_number first [] m a i = absurd i
bus_number first (k ∷ ms) m a i = ⊎_elim
    (λ (e : k ≡ m). (a.0.0, (a.0.1.0, ap (λ (l : Moved). l.bus) (sym e) ∙ a.0.1.1.0)))
    (λ (j : IsAmong ms m). bus_number first ms m a.1 j)
    i

-- ---- one step after the other

module _ (stage : Stage) (b first size : ℕ) (is_lane : ℕ → Bool) (past : (x : ℕ) → is_lane x ≡ true → 8320 ≤ x) where
  abbrev change : ℤ → List ℕ → List ℕ
  change a ws = words_by_ids stage b (a ∷ []) ws

  -- A synth that moves buses which it only mixes.
  pub record Mixes (v : Voice) : Type 0 where
    pub foot : Foot
    pub puts : Puts b foot v.moves (change v.id)
    pub part : IsPart foot (own_foot v)
    pub moves : are_moves size v.moves ≡ true
    pub each : AreAllMoves first v.moves
    pub lanes : (x : ℕ) → has (lanes_in v.moves) x ≡ true → is_lane x ≡ true
    pub off_buses : (x : ℕ) → has (buses_in v.moves) x ≡ true → touches foot x ≡ false
    pub off_lanes : (x : ℕ) → is_lane x ≡ true → touches foot x ≡ false
    pub touched : (n : ℕ) → n < 128 → (AreSeen (touches foot) (65 * n) 65 × (touches_bus v n ≡ true)) ⊎ AreUnseen (touches foot) (65 * n) 65
    pub one : (n : ℕ) → n < 128 → (on n v.moves ≡ []) ⊎ ((m : Moved) × (on n v.moves ≡ m ∷ []))

  -- lanes that wait for one bus
  abbrev WaitFor : ℕ → List Moved → Type 0
  WaitFor n [] = Unit {0}
  WaitFor n (m ∷ ms) = ((m.bus ≡ audio_place n) × (((k : ℕ) × (m.lane ≡ lane_place first k)) × ((x : ℕ) → covers m.lane x ≡ true → is_lane x ≡ true))) × WaitFor n ms

  wait-append : (n : ℕ) (ms ks : List Moved) → WaitFor n ms → WaitFor n ks → WaitFor n (ms ++ ks)
  wait-append n [] ks a c = c
  wait-append n (m ∷ ms) ks a c = (a.0, wait-append n ms ks a.1 c)

  -- their words are of lanes, except for some that they have no part in
  are_on : (other : ℕ → Bool) (n : ℕ) (ms : List Moved) → WaitFor n ms → ((k : ℕ) → 1 ≤ times first k ms → (x : ℕ) → covers (lane_place first k) x ≡ true → other x ≡ false) → All (IsOn (λ x. is_lane x && not (other x)) n) ms
  are_on other n [] a h = All-nil (IsOn (λ x. is_lane x && not (other x)) n)
  are_on other n (m ∷ ms) a h =
      let k : ℕ = a.0.1.0.0 in
      let lane : m.lane ≡ lane_place first k = a.0.1.0.1 in
      let here : (m.lane.at == first + 65 * k) ≡ true = eq-eqb m.lane.at (first + 65 * k) (ap (λ (p : Extent). p.at) lane) in
      All-cons (IsOn (λ x. is_lane x && not (other x)) n) m ms
      (record {
        bus = ap (λ (p : Extent). p.at) a.0.0;
        lane = λ j from to.
            let on_it : covers m.lane j ≡ true = in_extent m.lane j from (omega (arith, to, ap (λ (p : Extent). p.len) lane)) in
            and_from (is_lane j) (not (other j)) (a.0.1.1 j on_it) (ap not (h k (omega (arith, ap {B = ℕ} (λ (c : Bool). if c then 1 else 0) here)) j (subst (λ (p : Extent). covers p j ≡ true) lane on_it)));
      })
      (are_on other n ms a.1 (λ i l. h i (omega (arith, l))))

  pub record Stands (q : ℕ → List Moved) (steps : List Step) (walked laned : List ℕ) : Type 0 where
    pub waits : Waits b is_lane q walked laned
    pub long : length laned ≡ size
    pub queues : (n : ℕ) → n < 128 → WaitFor n (q n)
    pub once : (n k : ℕ) → n < 128 → times first k (q n) + times first k (moves_in steps) ≤ 1
    pub fresh : (k : ℕ) → 1 ≤ times first k (moves_in steps) → get_or laned (first + 65 * k) 0 ≡ b + 1 → ⊥
    pub marks : (k : ℕ) → is_lane (first + 65 * k) ≡ true → get_or laned (first + 65 * k) 0 ≤ b + 1

  -- ---- a synth runs

  module _ (v : Voice) (mix : Mixes v) (q p : ℕ → List Moved) (rest : List Step) (walked laned : List ℕ) (s : Stands q (renders v.id v.moves ∷ rest) walked laned) (free : (n : ℕ) → n < 128 → touches_bus v n ≡ true → q n ≡ []) (next : (n : ℕ) → n < 128 → p n ≡ q n ++ on n v.moves) where
    -- a lane of these is not among others
    not_own : (k : ℕ) (x : ℕ) → covers (lane_place first k) x ≡ true → times first k v.moves ≡ 0 → has (lanes_in v.moves) x ≡ false
    not_own k x c none = false_from_ne_true (has (lanes_in v.moves) x) (λ h.
        let m = lane_of v.moves x h in
        let l = lane_number first v.moves m.0 mix.each m.1.0 in
        let u = of_extent (lane_place first k) x c in
        let w = of_extent (lane_place first l.0) x (subst (λ (e : Extent). covers e x ≡ true) l.1 m.1.1) in
        let same : l.0 ≡ k = omega (arith, u.0, u.1, w.0, w.1) in
        let some = among_times first k v.moves m.0 m.1.0 (ap (λ (e : Extent). e.at) l.1 ∙ ap (λ j. first + 65 * j) same) in
        omega (arith, some, none))

    both_times : (k : ℕ) → times first k (moves_in (renders v.id v.moves ∷ rest)) ≡ times first k v.moves + times first k (moves_in rest)
    both_times k = times-append first k v.moves (moves_in rest)

    may : MayRun b is_lane mix.foot v.moves q p laned
    may = record {
      moves = ap (λ n. are_moves n v.moves) s.long ∙ mix.moves;
      bus = λ m i. bus_number first v.moves m mix.each i;
      lanes = mix.lanes;
      fresh = λ m i h.
          let l = lane_number first v.moves m mix.each i in
          let at : m.lane.at ≡ first + 65 * l.0 = ap (λ (e : Extent). e.at) l.1 in
          let some = among_times first l.0 v.moves m i at in
          s.fresh l.0 (omega (arith, both_times l.0, some)) (ap (λ j. get_or laned j 0) (sym at) ∙ h);
      off_buses = mix.off_buses;
      off_lanes = mix.off_lanes;
      whole = λ n lt. ⊎_elim
          (λ (t : AreSeen (touches mix.foot) (65 * n) 65 × (touches_bus v n ≡ true)). inl (t.0, free n lt t.1))
          (λ (u : AreUnseen (touches mix.foot) (65 * n) 65). inr u)
          (mix.touched n lt);
      waiting = λ n lt. are_on (λ x. has (lanes_in v.moves) x) n (q n) (s.queues n lt) (λ k l x c. not_own k x c (omega (arith, l, s.once n k lt, both_times k)));
      queued = λ n lt. ⊎_elim
          (λ (e : on n v.moves ≡ []). inl (next n lt ∙ ap (λ (ms : List Moved). q n ++ ms) e ∙ append-nil (q n), no_words first n v.moves mix.each e))
          (λ (e : (m : Moved) × (on n v.moves ≡ m ∷ [])).
          let o = one_on first n v.moves e.0 [] mix.each e.1 in
          inr (e.0, (o.0, (o.1.0, next n lt ∙ ap (λ (ms : List Moved). q n ++ ms) e.1))))
          (mix.one n lt);
    }

    is_through : lane_step stage b (renders v.id v.moves) laned ≡ through v.moves (change v.id) laned
    is_through = cond-true (are_moves (length laned) v.moves) (through v.moves (change v.id) laned) laned (ap (λ n. are_moves n v.moves) s.long ∙ mix.moves)

    waits_on : (n : ℕ) → n < 128 → WaitFor n (on n v.moves)
    waits_on n lt = ⊎_elim
        (λ (e : on n v.moves ≡ []). subst (λ (ms : List Moved). WaitFor n ms) (sym e) tt)
        (λ (e : (m : Moved) × (on n v.moves ≡ m ∷ [])).
        let o = one_on first n v.moves e.0 [] mix.each e.1 in
        subst (λ (ms : List Moved). WaitFor n ms) (sym e.1) ((o.1.0, (o.1.1, (λ x c. mix.lanes x (among_lanes v.moves e.0 x o.0 c)))), tt))
        (mix.one n lt)
      where
        among_lanes : (ms : List Moved) (m : Moved) (x : ℕ) → IsAmong ms m → covers m.lane x ≡ true → has (lanes_in ms) x ≡ true
        among_lanes [] m x a c = absurd a
        among_lanes (k ∷ ms) m x a c = ⊎_elim
            (λ (e : k ≡ m). or_left (covers k.lane x) (has (lanes_in ms) x) (ap (λ (l : Moved). covers l.lane x) e ∙ c))
            (λ (i : IsAmong ms m). or_right (covers k.lane x) (has (lanes_in ms) x) (among_lanes ms m x i c))
            a

    -- the mark of a lane onto which it mixes
    marked : (k : ℕ) → has (lanes_in v.moves) (first + 65 * k) ≡ true → get_or (through v.moves (change v.id) laned) (first + 65 * k) 0 ≡ b + 1
    marked k o =
        let x : ℕ = first + 65 * k in
        let c = lane_of v.moves x o in
        let m : Moved = c.0 in
        let l = lane_number first v.moves m mix.each c.1.0 in
        let n = bus_number first v.moves m mix.each c.1.0 in
        let u = of_extent (lane_place first l.0) x (subst (λ (e : Extent). covers e x ≡ true) l.1 c.1.1) in
        let same : l.0 ≡ k = omega (arith, u.0, u.1) in
        let at : m.lane.at ≡ x = ap (λ (e : Extent). e.at) l.1 ∙ ap (λ j. first + 65 * j) same in
        let bus_at : m.bus.at ≡ 65 * n.0 = ap (λ (e : Extent). e.at) n.1.1 in
        let bus_len : m.bus.len ≡ 65 = ap (λ (e : Extent). e.len) n.1.1 in
        let k = lane_inside (length laned) v.moves m may.moves (same_among v.moves m c.1.0) in
        let far = past x (mix.lanes x o) in
        let signal = mix.puts.puts m c.1.0 (seen_through v.moves laned) in
        laid_lane v.moves m (change v.id (seen_through v.moves laned)) laned x may.moves (same_among v.moves m c.1.0) c.1.1 (omega (arith, at, k.1))
        ∙ ap (λ j. get_or (change v.id (seen_through v.moves laned)) j 0) (let e : m.bus.at + (x - m.lane.at) ≡ m.bus.at = omega (arith, at) in e)
        ∙ signal.1 (seen_through v.moves laned) (record { long = refl; same = λ z t. refl }) m.bus.at (in_extent m.bus m.bus.at (omega arith) (omega (arith, bus_len)))
        ∙ onto_mark b (seen_through v.moves laned) m.bus.at signal.0 (omega (arith, seen_long v.moves laned, bus_at, n.1.0, far, at, k.1))

    pub synth_stands : ((k x : ℕ) → covers (lane_place first k) x ≡ true → 1 ≤ times first k (moves_in rest) → is_lane x ≡ true) → Stands p rest (walk_step stage b (renders v.id v.moves) walked) (lane_step stage b (renders v.id v.moves) laned)
    synth_stands later =
        let after : List ℕ = through v.moves (change v.id) laned in
        record {
          waits = subst (λ (ws : List ℕ). Waits b is_lane p (change v.id walked) ws) (sym is_through) (waits_more b is_lane past mix.foot v.moves (change v.id) mix.puts q p walked laned may s.waits);
          long = ap (λ (ws : List ℕ). length ws) is_through ∙ laid_long v.moves _ laned ∙ s.long;
          queues = λ n lt. subst (λ (ms : List Moved). WaitFor n ms) (sym (next n lt)) (wait-append n (q n) (on n v.moves) (s.queues n lt) (waits_on n lt));
          once = λ n k lt. omega (arith, s.once n k lt, both_times k, fewer_times first k n v.moves, times-append first k (q n) (on n v.moves), ap (λ (ms : List Moved). times first k ms) (next n lt));
          fresh = λ k some h.
              let x : ℕ = first + 65 * k in
              let on_it : covers (lane_place first k) x ≡ true = in_extent (lane_place first k) x (omega arith) (omega arith) in
              let lane : is_lane x ≡ true = later k x on_it some in
              let apart : has (lanes_in v.moves) x ≡ false = not_own k x on_it (omega (arith, some, s.once 0 k (omega arith), both_times k)) in
              let off : has (buses_in v.moves) x ≡ false = false_from_ne_true (has (buses_in v.moves) x) (λ t. low x t (past x lane)) in
              let kept : get_or after x 0 ≡ get_or laned x 0 = left_alone b is_lane past mix.foot v.moves (change v.id) mix.puts q p walked laned may s.waits x (mix.off_lanes x lane) off apart in
              s.fresh k (omega (arith, some, both_times k)) (sym kept ∙ ap (λ (ws : List ℕ). get_or ws x 0) (sym is_through) ∙ h);
          marks = λ k lane.
              let x : ℕ = first + 65 * k in
              let off : has (buses_in v.moves) x ≡ false = false_from_ne_true (has (buses_in v.moves) x) (λ t. low x t (past x lane)) in
              subst (λ (ws : List ℕ). get_or ws x 0 ≤ b + 1) (sym is_through) (⊎_elim
              (λ (o : has (lanes_in v.moves) x ≡ true). omega (arith, marked k o))
              (λ (apart : has (lanes_in v.moves) x ≡ false).
              omega (arith, s.marks k lane, left_alone b is_lane past mix.foot v.moves (change v.id) mix.puts q p walked laned may s.waits x (mix.off_lanes x lane) off apart))
              (cases_Bool (has (lanes_in v.moves) x)));
        }
      where
        low : (x : ℕ) → has (buses_in v.moves) x ≡ true → 8320 ≤ x → ⊥
        low x t far = low_in v.moves mix.each x t far
          where
            low_in : (ms : List Moved) → AreAllMoves first ms → (x : ℕ) → has (buses_in ms) x ≡ true → 8320 ≤ x → ⊥
            low_in [] a x t far = true≢false (sym t)
            low_in (m ∷ ms) a x t far = ⊎_elim
                (λ (c : covers m.bus x ≡ true).
                let u = of_extent (audio_place a.0.0) x (subst (λ (e : Extent). covers e x ≡ true) a.0.1.1.0 c) in
                omega (arith, u.1, far, a.0.1.0))
                (λ (c : has (buses_in ms) x ≡ true). low_in ms a.1 x c far)
                (or_cases (covers m.bus x) (has (buses_in ms) x) t)

  -- ---- a lane is added

  module _ (m : Moved) (i : ℕ) (low : i < 128) (at : m.bus.at ≡ 65 * i) (q p : ℕ → List Moved) (rest : List Step) (walked laned : List ℕ) (s : Stands q (adds_lane m ∷ rest) walked laned) (first_is : (n : ℕ) → n < 128 → q n ≡ on n (m ∷ []) ++ p n) where
    on_it : q i ≡ m ∷ p i
    on_it = first_is i low ∙ ap (λ (ms : List Moved). ms ++ p i) (cond-true (m.bus.at == 65 * i) (m ∷ []) [] (eq-eqb m.bus.at (65 * i) at))

    off_it : (n : ℕ) → n < 128 → n ≢ i → q n ≡ p n
    off_it n lt ne = first_is n lt ∙ ap (λ (ms : List Moved). ms ++ p n) (cond-false (m.bus.at == 65 * n) (m ∷ []) [] (ne_eqb m.bus.at (65 * n) (λ e. ne (omega (arith, at, e)))))

    waiting : WaitFor i (m ∷ p i)
    waiting = subst (λ (ms : List Moved). WaitFor i ms) on_it (s.queues i low)

    left : (n : ℕ) → n < 128 → WaitFor n (p n)
    left n lt = ⊎_elim
        (λ (e : n ≡ i). subst (λ j. WaitFor j (p j)) (sym e) waiting.1)
        (λ (ne : n ≢ i). subst (λ (ms : List Moved). WaitFor n ms) (off_it n lt ne) (s.queues n lt))
        (cases_eq n i)

    plain : (ms : List Moved) (n : ℕ) → WaitFor n ms → All (IsOn is_lane n) ms
    plain [] n a = All-nil (IsOn is_lane n)
    plain (k ∷ ms) n a =
        All-cons (IsOn is_lane n) k ms
        (record { bus = ap (λ (e : Extent). e.at) a.0.0; lane = λ j from to. a.0.1.1 j (in_extent k.lane j from (omega (arith, to, ap (λ (e : Extent). e.len) a.0.1.0.1))) })
        (plain ms n a.1)

    own : IsOn is_lane i m
    own = record { bus = at; lane = λ j from to. waiting.0.1.1 j (in_extent m.lane j from (omega (arith, to, ap (λ (e : Extent). e.len) waiting.0.1.0.1))) }

    -- fewer wait
    fewer : (n k : ℕ) → n < 128 → times first k (p n) ≤ times first k (q n)
    fewer n k lt = ⊎_elim
        (λ (e : n ≡ i). subst (λ j. times first k (p j) ≤ times first k (q j)) (sym e) (omega (arith, ap (λ (ms : List Moved). times first k ms) on_it)))
        (λ (ne : n ≢ i). omega (arith, ap (λ (ms : List Moved). times first k ms) (off_it n lt ne)))
        (cases_eq n i)

    pub added_stands : ((k x : ℕ) → covers (lane_place first k) x ≡ true → 1 ≤ times first k (moves_in rest) → is_lane x ≡ true) → Stands p rest (walk_step stage b (adds_lane m) walked) (lane_step stage b (adds_lane m) laned)
    added_stands later = record {
      waits = waits_less b is_lane past i m q p walked laned low own (λ n lt. plain (p n) n (left n lt)) on_it (λ n lt ne. off_it n lt ne) s.waits;
      long = onto_long true b laned m.bus.at _ ∙ s.long;
      queues = left;
      once = λ n k lt. omega (arith, s.once n k lt, fewer n k lt);
      fresh = λ k some h.
          let x : ℕ = first + 65 * k in
          let far : 8320 ≤ x = past x (later k x (in_extent (lane_place first k) x (omega arith) (omega arith)) some) in
          s.fresh k some (sym (onto_apart true b laned m.bus.at _ x (inr (omega (arith, far, at, low)))) ∙ h);
      marks = λ k lane.
          let x : ℕ = first + 65 * k in
          omega (arith, s.marks k lane, onto_apart true b laned m.bus.at (samples_at laned (m.lane.at + 1)) x (inr (omega (arith, past x lane, at, low))));
    }

  -- ---- all steps

  pub fits_stand : {vs : List Voice} {q r : ℕ → List Moved} {steps : List Step} (walked laned : List ℕ) → Fits vs q steps r → ((v : Voice) → IsIn vs v → Mixes v) → ((k x : ℕ) → covers (lane_place first k) x ≡ true → 1 ≤ times first k (moves_in steps) → is_lane x ≡ true)
      → Stands q steps walked laned → Stands r [] (walk_steps stage b steps walked) (lane_steps stage b steps laned)
  fits_stand walked laned (at_end e) know lanes s = record {
    waits = record {
      long = s.waits.long;
      buses = λ n x lt from to. s.waits.buses n x lt from to ∙ ap (λ (ms : List Moved). get_or (with_lanes b ms laned) x 0) (sym (e n lt));
      others = s.waits.others;
    };
    long = s.long;
    queues = λ n lt. subst (λ (ms : List Moved). WaitFor n ms) (sym (e n lt)) (s.queues n lt);
    once = λ n k lt. omega (arith, s.once n k lt, ap (λ (ms : List Moved). times first k ms) (e n lt));
    fresh = s.fresh;
    marks = s.marks;
  }
  fits_stand walked laned (rendered {q} {p} {r} {rest} v is free next f) know lanes s =
      fits_stand (walk_step stage b (renders v.id v.moves) walked) (lane_step stage b (renders v.id v.moves) laned) f know
      (λ k x c some. lanes k x c (omega (arith, some, times-append first k v.moves (moves_in rest))))
      (synth_stands v (know v is) q p rest walked laned s free next (λ k x c some. lanes k x c (omega (arith, some, times-append first k v.moves (moves_in rest)))))
  fits_stand walked laned (added {q} {p} {r} {rest} m i low at first_is f) know lanes s =
      fits_stand (walk_step stage b (adds_lane m) walked) (lane_step stage b (adds_lane m) laned) f know lanes
      (added_stands m i low at q p rest walked laned s first_is lanes)
