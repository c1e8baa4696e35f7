-- The synths of a stage's nodes with lanes: what each moves it only mixes, onto lanes of its own.
use Rattle.std.proofs.Common.{◌≡◌, ◌≢◌, ◌≤◌, ◌<◌, ◌⊎◌, inl, inr, ⊎_elim, ℕ, ◌+◌, ◌*◌, ◌==◌, Bool, true, false, not, ◌&&◌, ◌||◌, if◌then◌else◌, List, [], ◌∷◌, ◌++◌, length, Some, None, refl, ap, sym, subst, ◌∙◌, arith, true≢false}
use Rattle.std.specs.Prelude.{nat_le, nat_lt, max}
use Rattle.std.specs.List.{list_all, list_any}
use Rattle.std.proofs.lemmas.Bool.{and_from, and_parts, cases_Bool, cases_lt, cond-false, cond-true, eq-eqb, false_from_ne_true, le-leb, lt-ltb, ltb-true, or_from}
use Rattle.sn_mem.specs.declared.extents.Extent.{Extent}
use Rattle.sn_mem.specs.declared.moves.Moved.{Moved}
use Rattle.sn_mem.specs.Lanes.{are_apart, are_moves, is_whole, places_in}
use Rattle.sn_mem.specs.Layout.{audio_place, lane_place}
use Rattle.sn_mem.specs.Meetings.{meet}
use Rattle.sn_io.specs.Queues.{IsAmong}
use Rattle.sn_graph.specs.Sharing.{two_mix}
use Rattle.sn_graph.specs.declared.nodes.Voice.{Voice}
use Rattle.sn_graph.specs.Voices.{HeardNodes, none, synth, group, voices}
use Rattle.sn_graph.specs.Fitting.{IsIn, on}
use Rattle.sn_graph.proofs.Alike.{Alike}
use Rattle.sn_graph.proofs.Laning.{AreAllMoves, AreLaned, MovesThose, all_moves}
use Rattle.sn_graph.proofs.Lanewise.{times, times-append}

abbrev is_some : List Moved → Bool
is_some [] = false
is_some (m ∷ ms) = true

-- ---- a synth among those of nodes

-- the same synth without lanes
pub alike_in : (us vs : List Voice) (v : Voice) → Alike us vs → IsIn vs v → (u : Voice) × (IsIn us u × ((u.id ≡ v.id) × (u.reach ≡ v.reach)))
alike_in [] [] v a i = absurd i
alike_in [] (w ∷ vs) v a i = absurd a
alike_in (u ∷ us) [] v a i = absurd i
alike_in (u ∷ us) (w ∷ vs) v a i = ⊎_elim
    (λ (e : w ≡ v). (u, (inl refl, (a.0.0 ∙ ap (λ (x : Voice). x.id) e, a.0.1 ∙ ap (λ (x : Voice). x.reach) e))))
    (λ (j : IsIn vs v). let q = alike_in us vs v a.1 j in (q.0, (inr q.1.0, q.1.1)))
    i

in_parts : (vs ws : List Voice) (v : Voice) → IsIn (vs ++ ws) v → IsIn vs v ⊎ IsIn ws v
in_parts [] ws v i = inr i
in_parts (u ∷ vs) ws v i = ⊎_elim
    (λ (e : u ≡ v). inl (inl e))
    (λ (j : IsIn (vs ++ ws) v). ⊎_elim (λ (k : IsIn vs v). inl (inr k)) (λ (k : IsIn ws v). inr k) (in_parts vs ws v j))
    i

-- it moves those buses that it mixes and that groups above it share
pub laned_in : (first : ℕ) (S A : ℕ → Bool) (t : HeardNodes) (v : Voice) → AreLaned first S A t → IsIn (voices t) v → (B : ℕ → Bool) × MovesThose first B v
laned_in first S A none v l i = absurd i
laned_in first S A (synth w rest) v l i = ⊎_elim
    (λ (e : w ≡ v). (A, subst (λ (x : Voice). MovesThose first A x) e l.0))
    (λ (j : IsIn (voices rest) v). laned_in first S A rest v l.1 j)
    i
laned_in first S A (group None inner rest) v l i = ⊎_elim
    (λ (j : IsIn (voices inner) v). laned_in first S A inner v l.0 j)
    (λ (j : IsIn (voices rest) v). laned_in first S A rest v l.1 j)
    (in_parts (voices inner) (voices rest) v i)
laned_in first S A (group (Some lanes) inner rest) v l i = ⊎_elim
    (λ (j : IsIn (voices inner) v). laned_in first (λ n. S n || (two_mix inner n && not (S n))) (λ n. A n || (two_mix inner n && not (S n))) inner v l.1.0 j)
    (λ (j : IsIn (voices rest) v). laned_in first S A rest v l.1.1 j)
    (in_parts (voices inner) (voices rest) v i)

-- its lanes are among all
pub fewer_times : (first k : ℕ) (vs : List Voice) (v : Voice) → IsIn vs v → times first k v.moves ≤ times first k (all_moves vs)
fewer_times first k [] v i = absurd i
fewer_times first k (w ∷ vs) v i = ⊎_elim
    (λ (e : w ≡ v). omega (arith, ap (λ (x : Voice). times first k x.moves) e, times-append first k w.moves (all_moves vs)))
    (λ (j : IsIn vs v). omega (arith, fewer_times first k vs v j, times-append first k w.moves (all_moves vs)))
    i

-- ---- buses and lanes that share no word

module _ (first size : ℕ) (far : 8320 ≤ first) where
  whole_place : (e : Extent) → e.len ≡ 65 → e.at + 65 ≤ size → e.at + 65 < 4294967296 → is_whole size e ≡ true
  whole_place e l i n =
      and_from (e.len == 65) (nat_le (e.at + 65) size && nat_lt (e.at + 65) 4294967296) (eq-eqb e.len 65 l) (and_from (nat_le (e.at + 65) size) (nat_lt (e.at + 65) 4294967296) (le-leb (e.at + 65) size i) (lt-ltb (e.at + 65) 4294967296 n))

  -- extents that lie one after the other
  no_meeting : (d e : Extent) → (d.at + d.len ≤ e.at) ⊎ (e.at + e.len ≤ d.at) → meet d e ≡ false
  no_meeting d e apart = false_from_ne_true (meet d e) (λ h.
      let p = and_parts (nat_lt (max d.at e.at) (d.at + d.len)) (nat_lt (max d.at e.at) (e.at + e.len)) h in
      let one = ltb-true (max d.at e.at) (d.at + d.len) p.0 in
      let two = ltb-true (max d.at e.at) (e.at + e.len) p.1 in
      ⊎_elim (λ (l : d.at + d.len ≤ e.at). omega (arith, l, one)) (λ (l : e.at + e.len ≤ d.at). omega (arith, l, two)) apart)

  -- a bus, and a lane, apart from the places of other moves
  bus_apart : (n : ℕ) (e : Extent) (ms : List Moved) → n < 128 → e ≡ audio_place n → AreAllMoves first ms → on n ms ≡ [] → list_any (meet e) (places_in ms) ≡ false
  bus_apart n e [] low is a free = refl
  bus_apart n e (m ∷ ms) low is a free =
      let here : Bool = m.bus.at == 65 * n in
      let at : e.at ≡ 65 * n = ap (λ (p : Extent). p.at) is in
      let len : e.len ≡ 65 = ap (λ (p : Extent). p.len) is in
      let bus_at : m.bus.at ≡ 65 * a.0.0 = ap (λ (p : Extent). p.at) a.0.1.1.0 in
      let bus_len : m.bus.len ≡ 65 = ap (λ (p : Extent). p.len) a.0.1.1.0 in
      let lane_at : m.lane.at ≡ first + 65 * a.0.1.1.1.0 = ap (λ (p : Extent). p.at) a.0.1.1.1.1 in
      ⊎_elim
      (λ (h : here ≡ true). absurd (true≢false (ap is_some (sym (cond-true here (m ∷ on n ms) (on n ms) h) ∙ free))))
      (λ (h : here ≡ false).
      let other : a.0.0 ≢ n = λ q. true≢false (sym (eq-eqb m.bus.at (65 * n) (bus_at ∙ ap (λ k. 65 * k) q)) ∙ h) in
      or_from (meet e m.bus) (meet e m.lane || list_any (meet e) (places_in ms))
      (no_meeting e m.bus (⊎_elim (λ (l : a.0.0 < n). inr (omega (arith, l, at, bus_at, bus_len))) (λ (l : n ≤ a.0.0). inl (omega (arith, l, other, at, len, bus_at))) (cases_lt a.0.0 n)))
      (or_from (meet e m.lane) (list_any (meet e) (places_in ms))
      (no_meeting e m.lane (inl (omega (arith, at, len, low, far, lane_at))))
      (bus_apart n e ms low is a.1 (sym (cond-false here (m ∷ on n ms) (on n ms) h) ∙ free))))
      (cases_Bool here)

  lane_apart : (k : ℕ) (e : Extent) (ms : List Moved) → e ≡ lane_place first k → AreAllMoves first ms → times first k ms ≡ 0 → list_any (meet e) (places_in ms) ≡ false
  lane_apart k e [] is a free = refl
  lane_apart k e (m ∷ ms) is a free =
      let here : Bool = m.lane.at == first + 65 * k in
      let at : e.at ≡ first + 65 * k = ap (λ (p : Extent). p.at) is in
      let len : e.len ≡ 65 = ap (λ (p : Extent). p.len) is in
      let bus_at : m.bus.at ≡ 65 * a.0.0 = ap (λ (p : Extent). p.at) a.0.1.1.0 in
      let bus_len : m.bus.len ≡ 65 = ap (λ (p : Extent). p.len) a.0.1.1.0 in
      let lane_at : m.lane.at ≡ first + 65 * a.0.1.1.1.0 = ap (λ (p : Extent). p.at) a.0.1.1.1.1 in
      let lane_len : m.lane.len ≡ 65 = ap (λ (p : Extent). p.len) a.0.1.1.1.1 in
      ⊎_elim
      (λ (h : here ≡ true). absurd (omega (arith, free, ap {B = ℕ} (λ (c : Bool). if c then 1 else 0) h)))
      (λ (h : here ≡ false).
      let other : a.0.1.1.1.0 ≢ k = λ q. true≢false (sym (eq-eqb m.lane.at (first + 65 * k) (lane_at ∙ ap (λ j. first + 65 * j) q)) ∙ h) in
      or_from (meet e m.bus) (meet e m.lane || list_any (meet e) (places_in ms))
      (no_meeting e m.bus (inr (omega (arith, at, bus_at, bus_len, a.0.1.0, far))))
      (or_from (meet e m.lane) (list_any (meet e) (places_in ms))
      (no_meeting e m.lane (⊎_elim (λ (l : a.0.1.1.1.0 < k). inr (omega (arith, l, at, lane_at, lane_len))) (λ (l : k ≤ a.0.1.1.1.0). inl (omega (arith, l, other, at, len, lane_at))) (cases_lt a.0.1.1.1.0 k)))
      (lane_apart k e ms is a.1 (omega (arith, free, ap {B = ℕ} (λ (c : Bool). if c then 1 else 0) h)))))
      (cases_Bool here)

  -- one move at most of each bus and onto each lane
  pub may_move : (ms : List Moved) → AreAllMoves first ms → ((n : ℕ) → n < 128 → length (on n ms) ≤ 1) → ((k : ℕ) → times first k ms ≤ 1) → ((k : ℕ) → 1 ≤ times first k ms → (first + 65 * k + 65 ≤ size) × (first + 65 * k + 65 < 4294967296)) → 8320 ≤ size → are_moves size ms ≡ true
  may_move ms a one once inside room = let p = both ms a one once inside in and_from (list_all (is_whole size) (places_in ms)) (are_apart (places_in ms)) p.0 p.1
    where
      nothing : (ns : List Moved) → length ns ≤ 0 → ns ≡ []
      nothing [] l = refl
      nothing (n ∷ ns) l = absurd (omega (arith, l))

      both : (ms : List Moved) → AreAllMoves first ms → ((n : ℕ) → n < 128 → length (on n ms) ≤ 1) → ((k : ℕ) → times first k ms ≤ 1) → ((k : ℕ) → 1 ≤ times first k ms → (first + 65 * k + 65 ≤ size) × (first + 65 * k + 65 < 4294967296)) → (list_all (is_whole size) (places_in ms) ≡ true) × (are_apart (places_in ms) ≡ true)
      both [] a one once inside = (refl, refl)
      both (m ∷ ms) a one once inside =
          let n : ℕ = a.0.0 in
          let k : ℕ = a.0.1.1.1.0 in
          let bus_at : m.bus.at ≡ 65 * n = ap (λ (p : Extent). p.at) a.0.1.1.0 in
          let bus_len : m.bus.len ≡ 65 = ap (λ (p : Extent). p.len) a.0.1.1.0 in
          let lane_at : m.lane.at ≡ first + 65 * k = ap (λ (p : Extent). p.at) a.0.1.1.1.1 in
          let lane_len : m.lane.len ≡ 65 = ap (λ (p : Extent). p.len) a.0.1.1.1.1 in
          let here : (m.bus.at == 65 * n) ≡ true = eq-eqb m.bus.at (65 * n) bus_at in
          let there : (m.lane.at == first + 65 * k) ≡ true = eq-eqb m.lane.at (first + 65 * k) lane_at in
          let count = ap {B = ℕ} (λ (c : Bool). if c then 1 else 0) there in
          let fits = inside k (omega (arith, count)) in
          let no_bus : on n ms ≡ [] = nothing (on n ms) (omega (arith, one n a.0.1.0, ap (λ (ks : List Moved). length ks) (cond-true (m.bus.at == 65 * n) (m ∷ on n ms) (on n ms) here))) in
          let rest = both ms a.1
          (λ j lt. ⊎_elim
          (λ (h : (m.bus.at == 65 * j) ≡ true). omega (arith, one j lt, ap (λ (ks : List Moved). length ks) (cond-true (m.bus.at == 65 * j) (m ∷ on j ms) (on j ms) h)))
          (λ (h : (m.bus.at == 65 * j) ≡ false). omega (arith, one j lt, ap (λ (ks : List Moved). length ks) (cond-false (m.bus.at == 65 * j) (m ∷ on j ms) (on j ms) h)))
          (cases_Bool (m.bus.at == 65 * j)))
          (λ j. omega (arith, once j))
          (λ j l. inside j (omega (arith, l))) in
          let two_apart : meet m.bus m.lane ≡ false = no_meeting m.bus m.lane (inl (omega (arith, bus_at, bus_len, lane_at, far, a.0.1.0))) in
          let bus_off : list_any (meet m.bus) (m.lane ∷ places_in ms) ≡ false = or_from (meet m.bus m.lane) (list_any (meet m.bus) (places_in ms)) two_apart (bus_apart n m.bus ms a.0.1.0 a.0.1.1.0 a.1 no_bus) in
          let lane_off : list_any (meet m.lane) (places_in ms) ≡ false = lane_apart k m.lane ms a.0.1.1.1.1 a.1 (omega (arith, once k, count)) in (
            and_from (is_whole size m.bus) (is_whole size m.lane && list_all (is_whole size) (places_in ms))
                (whole_place m.bus bus_len (omega (arith, bus_at, a.0.1.0, room)) (omega (arith, bus_at, a.0.1.0)))
                (and_from (is_whole size m.lane) (list_all (is_whole size) (places_in ms)) (whole_place m.lane lane_len (omega (arith, lane_at, fits.0)) (omega (arith, lane_at, fits.1))) rest.0),
            and_from (not (list_any (meet m.bus) (m.lane ∷ places_in ms))) (not (list_any (meet m.lane) (places_in ms)) && are_apart (places_in ms)) (ap not bus_off)
                (and_from (not (list_any (meet m.lane) (places_in ms))) (are_apart (places_in ms)) (ap not lane_off) rest.1),
          )

-- ---- the same moves in other words

whole_again : (n m : ℕ) (e : Extent) → is_whole n e ≡ true → e.at + 65 ≤ m → is_whole m e ≡ true
whole_again n m e w le =
    let p = and_parts (e.len == 65) (nat_le (e.at + 65) n && nat_lt (e.at + 65) 4294967296) w in
    let q = and_parts (nat_le (e.at + 65) n) (nat_lt (e.at + 65) 4294967296) p.1 in
    and_from (e.len == 65) (nat_le (e.at + 65) m && nat_lt (e.at + 65) 4294967296) p.0 (and_from (nat_le (e.at + 65) m) (nat_lt (e.at + 65) 4294967296) (le-leb (e.at + 65) m le) q.1)

wholes_again : (n m : ℕ) (ms : List Moved) → list_all (is_whole n) (places_in ms) ≡ true → ((k : Moved) → IsAmong ms k → (k.bus.at + 65 ≤ m) × (k.lane.at + 65 ≤ m)) → list_all (is_whole m) (places_in ms) ≡ true
wholes_again n m [] h le = refl
wholes_again n m (k ∷ ms) h le =
    let p = and_parts (is_whole n k.bus) (is_whole n k.lane && list_all (is_whole n) (places_in ms)) h in
    let q = and_parts (is_whole n k.lane) (list_all (is_whole n) (places_in ms)) p.1 in
    let own = le k (inl refl) in
    and_from (is_whole m k.bus) (is_whole m k.lane && list_all (is_whole m) (places_in ms)) (whole_again n m k.bus p.0 own.0)
    (and_from (is_whole m k.lane) (list_all (is_whole m) (places_in ms)) (whole_again n m k.lane q.0 own.1) (wholes_again n m ms q.1 (λ j a. le j (inr a))))

-- moves of some words are moves of others that have all of them
pub moves_again : (n m : ℕ) (ms : List Moved) → are_moves n ms ≡ true → ((k : Moved) → IsAmong ms k → (k.bus.at + 65 ≤ m) × (k.lane.at + 65 ≤ m)) → are_moves m ms ≡ true
moves_again n m ms h le =
    let p = and_parts (list_all (is_whole n) (places_in ms)) (are_apart (places_in ms)) h in
    and_from (list_all (is_whole m) (places_in ms)) (are_apart (places_in ms)) (wholes_again n m ms p.0 le) p.1
