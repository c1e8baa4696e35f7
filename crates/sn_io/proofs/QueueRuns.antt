-- A synth that mixes onto lanes puts them after those that wait for their buses.
use Rattle.std.proofs.Common.{◌≡◌, ◌≤◌, ◌<◌, ◌⊎◌, inl, inr, ⊎_elim, ℕ, zero, suc, ◌+◌, ◌*◌, ◌-◌, Bool, true, false, not, ◌&&◌, ◌||◌, List, [], ◌∷◌, ◌++◌, ℤ, pos, length, get_or, refl, ap, sym, subst, ◌∙◌, arith, true≢false}
use Rattle.std.specs.List.{All}
use Rattle.std.specs.Prelude.{nat_le, nat_lt}
use Rattle.std.proofs.lemmas.Bool.{and_from, and_parts, cases_Bool, cases_lt, false_from_ne_true, le-leb, leb-true, lt-ltb, ltb-true, not-true, or_cases, or_left, or_parts}
use Rattle.sn_fixed.specs.Fixed.{sat}
use Rattle.sn_mem.specs.declared.extents.Extent.{Extent}
use Rattle.sn_mem.specs.declared.extents.Foot.{Foot}
use Rattle.sn_mem.specs.declared.moves.Moved.{Moved}
use Rattle.sn_mem.specs.Blocks.{sample_in, samples_at}
use Rattle.sn_mem.specs.Lanes.{are_moves, buses_in, laid, lanes_in, seen_through, through}
use Rattle.sn_mem.specs.Layout.{audio_place}
use Rattle.sn_mem.specs.Words.{covers, has, touches, writes}
use Rattle.sn_mem.proofs.LaneChanges.{IsAmong as Among, laid_bus, laid_else, laid_lane, laid_long, lane_among, lane_inside, not_both_places, seen_bus, seen_else, seen_long}
use Rattle.sn_mem.proofs.Windows.{table_at}
use Rattle.sn_io.specs.ByFoot.{Agree}
use Rattle.sn_io.specs.Joints.{with_lanes}
use Rattle.sn_io.specs.OverWords.{onto_block}
use Rattle.sn_io.specs.Queues.{IsAmong, IsOn, Puts, Waits}
use Rattle.sn_io.proofs.Agreeing.{AreSeen}
use Rattle.sn_io.proofs.Alike.{AreUnseen}
use Rattle.sn_io.proofs.Mixing.{lane_holds}
use Rattle.sn_io.proofs.Queues.{all_agree, bus_more, near, on_bus}

-- the bus of a word
pub locate : (k x : ℕ) → x < 65 * k → (n : ℕ) × ((n < k) × ((65 * n ≤ x) × (x < 65 * n + 65)))
locate zero x l = absurd (omega (arith, l))
locate (suc k) x l = ⊎_elim
    (λ (h : x < 65 * k). let q = locate k x h in (q.0, (omega (arith, q.1.0), q.1.1)))
    (λ (h : 65 * k ≤ x). (k, (omega arith, (h, omega (arith, l)))))
    (cases_lt x (65 * k))

-- the move of a word of some buses
pub bus_of : (ms : List Moved) (x : ℕ) → has (buses_in ms) x ≡ true → (m : Moved) × (IsAmong ms m × (covers m.bus x ≡ true))
bus_of [] x h = absurd (true≢false (sym h))
bus_of (k ∷ ms) x h = ⊎_elim
    (λ (c : covers k.bus x ≡ true). (k, (inl refl, c)))
    (λ (c : has (buses_in ms) x ≡ true). let q = bus_of ms x c in (q.0, (inr q.1.0, q.1.1)))
    (or_cases (covers k.bus x) (has (buses_in ms) x) h)

pub has_bus : (ms : List Moved) (m : Moved) (x : ℕ) → IsAmong ms m → covers m.bus x ≡ true → has (buses_in ms) x ≡ true
has_bus [] m x a c = absurd a
has_bus (k ∷ ms) m x a c = ⊎_elim
    (λ (e : k ≡ m). or_left (covers k.bus x) (has (buses_in ms) x) (ap (λ (l : Moved). covers l.bus x) e ∙ c))
    (λ (i : IsAmong ms m). or_right_of (covers k.bus x) (has (buses_in ms) x) (has_bus ms m x i c))
    a
  where
    or_right_of : (a b : Bool) → b ≡ true → (a || b) ≡ true
    or_right_of true b e = refl
    or_right_of false b e = e

pub same_among : (ms : List Moved) (m : Moved) → IsAmong ms m → Among ms m
same_among [] m a = a
same_among (k ∷ ms) m a = ⊎_elim (λ (e : k ≡ m). inl e) (λ (i : IsAmong ms m). inr (same_among ms m i)) a

place_covers : (n x : ℕ) → 65 * n ≤ x → x < 65 * n + 65 → covers (audio_place n) x ≡ true
place_covers n x low high = and_from (nat_le (65 * n) x) (nat_lt x (65 * n + 65)) (le-leb (65 * n) x low) (lt-ltb x (65 * n + 65) high)

in_place : (n x : ℕ) → covers (audio_place n) x ≡ true → (65 * n ≤ x) × (x < 65 * n + 65)
in_place n x c = let p = and_parts (nat_le (65 * n) x) (nat_lt x (65 * n + 65)) c in (leb-true (65 * n) x p.0, ltb-true x (65 * n + 65) p.1)

-- a synth's words, what it mixes onto lanes, and what waits
pub record MayRun (b : ℕ) (is_lane : ℕ → Bool) (f : Foot) (ms : List Moved) (queue next : ℕ → List Moved) (laned : List ℕ) : Type 0 where
  pub moves : are_moves (length laned) ms ≡ true
  pub bus : (m : Moved) → IsAmong ms m → (n : ℕ) × ((n < 128) × (m.bus ≡ audio_place n))
  pub lanes : (x : ℕ) → has (lanes_in ms) x ≡ true → is_lane x ≡ true
  pub fresh : (m : Moved) → IsAmong ms m → get_or laned m.lane.at 0 ≡ b + 1 → ⊥
  pub off_buses : (x : ℕ) → has (buses_in ms) x ≡ true → touches f x ≡ false
  pub off_lanes : (x : ℕ) → is_lane x ≡ true → touches f x ≡ false
  pub whole : (n : ℕ) → n < 128 → (AreSeen (touches f) (65 * n) 65 × (queue n ≡ [])) ⊎ AreUnseen (touches f) (65 * n) 65
  pub waiting : (n : ℕ) → n < 128 → All (IsOn (λ x. is_lane x && not (has (lanes_in ms) x)) n) (queue n)
  pub queued : (n : ℕ) → n < 128 → ((next n ≡ queue n) × ((x : ℕ) → 65 * n ≤ x → x < 65 * n + 65 → has (buses_in ms) x ≡ false)) ⊎ ((m : Moved) × (IsAmong ms m × ((m.bus ≡ audio_place n) × (next n ≡ queue n ++ m ∷ []))))

module _ (b : ℕ) (is_lane : ℕ → Bool) (past : (x : ℕ) → is_lane x ≡ true → 8320 ≤ x) (f : Foot) (ms : List Moved) (change : List ℕ → List ℕ) (puts : Puts b f ms change)
    (queue next : ℕ → List Moved) (walked laned : List ℕ) (may : MayRun b is_lane f ms queue next laned) (w : Waits b is_lane queue walked laned) where
  abbrev seen : List ℕ
  seen = seen_through ms laned

  abbrev made : List ℕ
  made = change seen

  abbrev after : List ℕ
  after = laid ms made laned

  -- the lanes that are given now are not among those that wait
  abbrev is_other : ℕ → Bool
  is_other x = is_lane x && not (has (lanes_in ms) x)

  past_other : (x : ℕ) → is_other x ≡ true → 8320 ≤ x
  past_other x h = past x (and_parts (is_lane x) (not (has (lanes_in ms) x)) h).0

  no_write : (x : ℕ) → touches f x ≡ false → writes f x ≡ false
  no_write x h = (or_parts (has f.writes x) (has f.reads x) h).0

  low_bus : (x : ℕ) → has (buses_in ms) x ≡ true → x < 8320
  low_bus x h =
      let q = bus_of ms x h in
      let n = may.bus q.0 q.1.0 in
      let p = in_place n.0 x (subst (λ (e : Extent). covers e x ≡ true) n.1.1 q.1.1) in
      omega (arith, p.1, n.1.0)

  no_bus : (x : ℕ) → 8320 ≤ x → has (buses_in ms) x ≡ false
  no_bus x l = false_from_ne_true (has (buses_in ms) x) (λ h. let k = low_bus x h in omega (arith, k, l))

  no_lane : (x : ℕ) → x < 8320 → has (lanes_in ms) x ≡ false
  no_lane x l = false_from_ne_true (has (lanes_in ms) x) (λ h. let k = past x (may.lanes x h) in omega (arith, k, l))

  made_long : length made ≡ length laned
  made_long = puts.long seen ∙ seen_long ms laned

  -- the synth sees the same words in both
  alike : Agree (touches f) walked seen
  alike = record {
    long = w.long ∙ sym (seen_long ms laned);
    same = λ x t.
        let off : has (buses_in ms) x ≡ false = false_from_ne_true (has (buses_in ms) x) (λ h. true≢false (sym t ∙ may.off_buses x h)) in
        ⊎_elim
        (λ (l : x < 8320).
        let q = locate 128 x l in
        ⊎_elim
        (λ (s : AreSeen (touches f) (65 * q.0) 65 × (queue q.0 ≡ [])). w.buses q.0 x q.1.0 q.1.1.0 q.1.1.1 ∙ ap (λ (ks : List Moved). get_or (with_lanes b ks laned) x 0) s.1)
        (λ (u : AreUnseen (touches f) (65 * q.0) 65). absurd (true≢false (sym t ∙ u x q.1.1.0 q.1.1.1)))
        (may.whole q.0 q.1.0))
        (λ (g : 8320 ≤ x). w.others x g (false_from_ne_true (is_lane x) (λ h. true≢false (sym t ∙ may.off_lanes x h))))
        (cases_lt x 8320)
        ∙ sym (seen_else ms laned x off);
  }

  made_alike : Agree (touches f) (change walked) made
  made_alike = puts.agree walked seen alike

  -- a word that the synth leaves, and that is no bus's or lane's of these
  pub left_alone : (x : ℕ) → touches f x ≡ false → has (buses_in ms) x ≡ false → has (lanes_in ms) x ≡ false → get_or after x 0 ≡ get_or laned x 0
  left_alone x t off far = laid_else ms made laned x made_long off far ∙ puts.keeps seen x (no_write x t) off ∙ seen_else ms laned x off

  -- a bus and the lanes that wait for it are left
  kept : (n : ℕ) → n < 128 → ((x : ℕ) → 65 * n ≤ x → x < 65 * n + 65 → get_or after x 0 ≡ get_or laned x 0) → Agree (near b is_other past_other n) after laned
  kept n lt own = record {
    long = laid_long ms made laned;
    same = λ x t. ⊎_elim
        (λ (h : (nat_le (65 * n) x && nat_lt x (65 * n + 65)) ≡ true).
        let p = and_parts (nat_le (65 * n) x) (nat_lt x (65 * n + 65)) h in own x (leb-true (65 * n) x p.0) (ltb-true x (65 * n + 65) p.1))
        (λ (h : is_other x ≡ true).
        let p = and_parts (is_lane x) (not (has (lanes_in ms) x)) h in
        left_alone x (may.off_lanes x p.0) (no_bus x (past x p.0)) (not-true (has (lanes_in ms) x) p.1))
        (or_cases (nat_le (65 * n) x && nat_lt x (65 * n + 65)) (is_other x) t);
  }

  -- ---- a bus that is not moved

  plain_bus : (n x : ℕ) → n < 128 → 65 * n ≤ x → x < 65 * n + 65 → ((y : ℕ) → 65 * n ≤ y → y < 65 * n + 65 → has (buses_in ms) y ≡ false) → get_or (change walked) x 0 ≡ get_or (with_lanes b (queue n) after) x 0
  plain_bus n x lt low high off = ⊎_elim
      (λ (s : AreSeen (touches f) (65 * n) 65 × (queue n ≡ [])).
      made_alike.same x (s.0 x low high)
      ∙ sym (laid_else ms made laned x made_long (off x low high) (no_lane x (omega (arith, lt, high))))
      ∙ sym (ap (λ (ks : List Moved). get_or (with_lanes b ks after) x 0) s.1))
      (λ (u : AreUnseen (touches f) (65 * n) 65).
      let own : (y : ℕ) → 65 * n ≤ y → y < 65 * n + 65 → get_or after y 0 ≡ get_or laned y 0 = λ y l h. left_alone y (u y l h) (off y l h) (no_lane y (omega (arith, lt, h))) in
      puts.keeps walked x (no_write x (u x low high)) (off x low high)
      ∙ w.buses n x lt low high
      ∙ sym ((all_agree b is_other past_other n (queue n) after laned (may.waiting n lt) (kept n lt own)).same x (on_bus b is_other past_other n x low high)))
      (may.whole n lt)

  -- ---- a bus that is moved

  -- a word of the lane holds what was put
  lane_word : (m : Moved) (n k : ℕ) → IsAmong ms m → m.bus ≡ audio_place n → k < 65 → get_or after (m.lane.at + k) 0 ≡ get_or made (65 * n + k) 0
  lane_word m n k a e lt =
      let i = lane_inside (length laned) ms m may.moves (same_among ms m a) in
      let at : m.bus.at ≡ 65 * n = ap (λ (p : Extent). p.at) e in
      let on : covers m.lane (m.lane.at + k) ≡ true = and_from (nat_le m.lane.at (m.lane.at + k)) (nat_lt (m.lane.at + k) (m.lane.at + m.lane.len)) (le-leb m.lane.at (m.lane.at + k) (omega arith)) (lt-ltb (m.lane.at + k) (m.lane.at + m.lane.len) (omega (arith, lt, i.0))) in
      let there : m.bus.at + ((m.lane.at + k) - m.lane.at) ≡ 65 * n + k = omega (arith, at) in
      laid_lane ms m made laned (m.lane.at + k) may.moves (same_among ms m a) on (omega (arith, lt, i.1))
      ∙ ap (λ y. get_or made y 0) there

  -- the mark of the bus, as the synth sees it, is the lane's
  mark_is : (m : Moved) (n : ℕ) → IsAmong ms m → m.bus ≡ audio_place n → n < 128 → get_or seen (65 * n) 0 ≡ get_or laned m.lane.at 0
  mark_is m n a e lt =
      let i = lane_inside (length laned) ms m may.moves (same_among ms m a) in
      let at : m.bus.at ≡ 65 * n = ap (λ (p : Extent). p.at) e in
      let there : m.lane.at + (65 * n - m.bus.at) ≡ m.lane.at = omega (arith, at) in
      let far = past m.lane.at (may.lanes m.lane.at (lane_among ms m m.lane.at (same_among ms m a) (first_covered m i.0))) in
      seen_bus ms m laned (65 * n) may.moves (same_among ms m a) (subst (λ (p : Extent). covers p (65 * n) ≡ true) (sym e) (place_covers n (65 * n) (omega arith) (omega arith))) (omega (arith, lt, far, i.1))
      ∙ ap (λ y. get_or laned y 0) there
    where
      first_covered : (m : Moved) → m.lane.len ≡ 65 → covers m.lane m.lane.at ≡ true
      first_covered m l = and_from (nat_le m.lane.at m.lane.at) (nat_lt m.lane.at (m.lane.at + m.lane.len)) (le-leb m.lane.at m.lane.at (omega arith)) (lt-ltb m.lane.at (m.lane.at + m.lane.len) (omega (arith, l)))

  moved_bus : (n x : ℕ) (m : Moved) → n < 128 → 65 * n ≤ x → x < 65 * n + 65 → IsAmong ms m → m.bus ≡ audio_place n → get_or (change walked) x 0 ≡ get_or (with_lanes b (queue n ++ m ∷ []) after) x 0
  moved_bus n x m lt low high a e =
      let i = lane_inside (length laned) ms m may.moves (same_among ms m a) in
      let at : m.bus.at ≡ 65 * n = ap (λ (p : Extent). p.at) e in
      let far : 8320 ≤ m.lane.at = past m.lane.at (may.lanes m.lane.at (lane_among ms m m.lane.at (same_among ms m a)
      (and_from (nat_le m.lane.at m.lane.at) (nat_lt m.lane.at (m.lane.at + m.lane.len)) (le-leb m.lane.at m.lane.at (omega arith)) (lt-ltb m.lane.at (m.lane.at + m.lane.len) (omega (arith, i.0)))))) in
      let signal = puts.puts m a walked in
      let xs : List ℤ = signal.0 in
      let covered : (y : ℕ) → 65 * n ≤ y → y < 65 * n + 65 → covers m.bus y ≡ true = λ y l h. subst (λ (p : Extent). covers p y ≡ true) (sym e) (place_covers n y l h) in
      let put_on : (ws : List ℕ) → Agree (touches f) walked ws → (y : ℕ) → 65 * n ≤ y → y < 65 * n + 65 → get_or (change ws) y 0 ≡ get_or (onto_block true b ws (65 * n) xs) y 0 =
      λ ws g y l h. signal.1 ws g y (covered y l h) ∙ ap (λ p. get_or (onto_block true b ws p xs) y 0) at in
      let off : get_or seen (65 * n) 0 ≡ b + 1 → ⊥ = λ h. may.fresh m a (sym (mark_is m n a e lt) ∙ h) in
      let holds : (k : ℕ) → k < 64 → get_or (samples_at after (m.lane.at + 1)) k (pos 0) ≡ sat (get_or xs k (pos 0)) = λ k l.
      let there : m.lane.at + 1 + k ≡ m.lane.at + (1 + k) = omega arith in
      let here : 65 * n + (1 + k) ≡ 65 * n + 1 + k = omega arith in
      table_at (λ j. sample_in (get_or after (m.lane.at + 1 + j) 0)) 64 k (pos 0) l
      ∙ ap sample_in (ap (λ y. get_or after y 0) there ∙ lane_word m n (1 + k) a e (omega (arith, l)) ∙ put_on seen alike (65 * n + (1 + k)) (omega arith) (omega (arith, l)) ∙ ap (λ y. get_or (onto_block true b seen (65 * n) xs) y 0) here)
      ∙ sym (table_at (λ j. sample_in (get_or (onto_block true b seen (65 * n) xs) (65 * n + 1 + j) 0)) 64 k (pos 0) l)
      ∙ lane_holds b seen (65 * n) xs off (omega (arith, lt, far, i.1, seen_long ms laned)) k l in
      bus_more b is_other past_other n m (queue n) walked laned after (change walked) xs lt (may.waiting n lt) at far w.long
      (kept n lt (λ y l h. laid_bus ms made laned y (has_bus ms m y a (covered y l h))))
      (λ y l h. w.buses n y lt l h)
      holds
      (λ y l h. put_on walked (record { long = refl; same = λ z t. refl }) y l h)
      x low high

  -- ---- the whole

  pub waits_more : Waits b is_lane next (change walked) (through ms change laned)
  waits_more = record {
    long = puts.long walked ∙ w.long ∙ sym (laid_long ms made laned);
    buses = λ n x lt low high. ⊎_elim
        (λ (p : (next n ≡ queue n) × ((y : ℕ) → 65 * n ≤ y → y < 65 * n + 65 → has (buses_in ms) y ≡ false)).
        plain_bus n x lt low high p.1 ∙ ap (λ (ks : List Moved). get_or (with_lanes b ks after) x 0) (sym p.0))
        (λ (p : (m : Moved) × (IsAmong ms m × ((m.bus ≡ audio_place n) × (next n ≡ queue n ++ m ∷ [])))).
        moved_bus n x p.0 lt low high p.1.0 p.1.1.0 ∙ ap (λ (ks : List Moved). get_or (with_lanes b ks after) x 0) (sym p.1.1.1))
        (may.queued n lt);
    others = λ x far off.
        let no_lanes : has (lanes_in ms) x ≡ false = false_from_ne_true (has (lanes_in ms) x) (λ h. true≢false (sym (may.lanes x h) ∙ off)) in
        let here : get_or after x 0 ≡ get_or made x 0 = laid_else ms made laned x made_long (no_bus x far) no_lanes in
        ⊎_elim
        (λ (t : touches f x ≡ true). made_alike.same x t ∙ sym here)
        (λ (t : touches f x ≡ false). puts.keeps walked x (no_write x t) (no_bus x far) ∙ w.others x far off ∙ sym (left_alone x t (no_bus x far) no_lanes))
        (cases_Bool (touches f x));
  }
