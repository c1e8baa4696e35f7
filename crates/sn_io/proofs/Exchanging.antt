-- What a synth makes of words through a port that exchanges buses and lanes is what it makes of them onto lanes.
use Rattle.std.proofs.Common.{◌≡◌, ◌≤◌, ◌<◌, ◌⊎◌, inl, inr, ⊎_elim, ℕ, ◌+◌, ◌*◌, ◌-◌, Bool, true, false, ◌&&◌, ◌||◌, List, [], ◌∷◌, ℤ, length, get_or, refl, ap, sym, subst, ◌∙◌, arith, true≢false}
use Rattle.std.specs.Prelude.{nat_le, nat_lt}
use Rattle.std.proofs.lemmas.Bool.{and_from, and_parts, cases_Bool, cases_lt, false_from_ne_true, le-leb, leb-true, lt-ltb, ltb-true, or_from, or_left, or_parts}
use Rattle.std.proofs.lemmas.List.{ext_get_or, get_or_past}
use Rattle.sn_mem.specs.declared.extents.Extent.{Extent}
use Rattle.sn_mem.specs.declared.extents.Foot.{Foot}
use Rattle.sn_mem.specs.declared.moves.Moved.{Moved}
use Rattle.sn_mem.specs.Lanes.{are_moves, buses_in, exchanged, laid, lanes_in, place_in, places_in, seen_through, through}
use Rattle.sn_mem.specs.Words.{covers, has, touches, writes}
use Rattle.sn_mem.proofs.LaneChanges.{in_bus, in_lane, laid_bus, laid_else, laid_lane, laid_long, lane_among, lane_inside, not_both_places, seen_bus, seen_else, seen_long}
use Rattle.sn_mem.proofs.LaneWords.{exchanged_at, first_move, place_same, whole_is}
use Rattle.sn_mem.proofs.Tables.{length-table}
use Rattle.sn_io.specs.ByFoot.{Agree}
use Rattle.sn_io.specs.OverWords.{onto_block}
use Rattle.sn_io.specs.Queues.{IsAmong, Puts}
use Rattle.sn_io.proofs.BusByFoot.{block_agrees}
use Rattle.sn_io.proofs.LanesByFoot.{lane_of}
use Rattle.sn_io.proofs.QueueRuns.{bus_of, has_bus, same_among}

exchanged_long : (ms : List Moved) (ws : List ℕ) → length (exchanged ms ws) ≡ length ws
unfolding exchanged
exchanged_long ms ws = length-table (λ x. get_or ws (place_in ms x) 0) (length ws)

bus_inside : (size : ℕ) (ms : List Moved) (m : Moved) → are_moves size ms ≡ true → IsAmong ms m → (m.bus.len ≡ 65) × (m.bus.at + 65 ≤ size)
bus_inside size [] m are a = absurd a
bus_inside size (k ∷ ms) m are a =
    let is = first_move size k ms are in
    ⊎_elim
    (λ (e : k ≡ m). let w = whole_is size k.bus is.bus in subst (λ (l : Moved). (l.bus.len ≡ 65) × (l.bus.at + 65 ≤ size)) e (w.0, w.1.0))
    (λ (i : IsAmong ms m). bus_inside size ms m is.rest i)
    a

pub no_place : (ms : List Moved) (x : ℕ) → has (buses_in ms) x ≡ false → has (lanes_in ms) x ≡ false → has (places_in ms) x ≡ false
no_place [] x b l = refl
no_place (m ∷ ms) x b l =
    let p = or_parts (covers m.bus x) (has (buses_in ms) x) b in
    let q = or_parts (covers m.lane x) (has (lanes_in ms) x) l in
    or_from (covers m.bus x) (covers m.lane x || has (places_in ms) x) p.0 (or_from (covers m.lane x) (has (places_in ms) x) q.0 (no_place ms x p.1 q.1))

module _ (b : ℕ) (f : Foot) (ms : List Moved) (change : List ℕ → List ℕ) (puts : Puts b f ms change) (off : (x : ℕ) → has (buses_in ms) x ≡ true → touches f x ≡ false) (far : (x : ℕ) → has (lanes_in ms) x ≡ true → touches f x ≡ false)
    (vs ws : List ℕ) (are : are_moves (length ws) ms ≡ true) (is : exchanged ms vs ≡ change (exchanged ms ws)) where
  abbrev view : List ℕ
  view = exchanged ms ws

  abbrev seen : List ℕ
  seen = seen_through ms ws

  vs_long : length vs ≡ length ws
  vs_long = sym (exchanged_long ms vs) ∙ ap (λ (us : List ℕ). length us) is ∙ puts.long view ∙ exchanged_long ms ws

  made_long : length (change seen) ≡ length ws
  made_long = puts.long seen ∙ seen_long ms ws

  -- what a word of the view is now
  now_at : (x y : ℕ) → y < length ws → place_in ms y ≡ x → get_or vs x 0 ≡ get_or (change view) y 0
  now_at x y lt e = sym (ap (λ z. get_or vs z 0) e) ∙ sym (exchanged_at ms vs y (omega (arith, lt, vs_long))) ∙ ap (λ (us : List ℕ). get_or us y 0) is

  no_write : (x : ℕ) → touches f x ≡ false → writes f x ≡ false
  no_write x e = (or_parts (has f.writes x) (has f.reads x) e).0

  in_extent : (e : Extent) (x : ℕ) → e.at ≤ x → x < e.at + e.len → covers e x ≡ true
  in_extent e x from to = and_from (nat_le e.at x) (nat_lt x (e.at + e.len)) (le-leb e.at x from) (lt-ltb x (e.at + e.len) to)

  of_extent : (e : Extent) (x : ℕ) → covers e x ≡ true → (e.at ≤ x) × (x < e.at + e.len)
  of_extent e x c = let p = and_parts (nat_le e.at x) (nat_lt x (e.at + e.len)) c in (leb-true e.at x p.0, ltb-true x (e.at + e.len) p.1)

  else_same : (x : ℕ) → x < length ws → has (buses_in ms) x ≡ false → has (lanes_in ms) x ≡ false → get_or view x 0 ≡ get_or seen x 0
  else_same x lt p q = exchanged_at ms ws x lt ∙ ap (λ z. get_or ws z 0) (place_same ms x (no_place ms x p q)) ∙ sym (seen_else ms ws x p)

  both_alike : Agree (touches f) view seen
  both_alike = record {
    long = exchanged_long ms ws ∙ sym (seen_long ms ws);
    same = λ x t.
        let p : has (buses_in ms) x ≡ false = false_from_ne_true (has (buses_in ms) x) (λ h. true≢false (sym t ∙ off x h)) in
        let q : has (lanes_in ms) x ≡ false = false_from_ne_true (has (lanes_in ms) x) (λ h. true≢false (sym t ∙ far x h)) in
        ⊎_elim
        (λ (lt : x < length ws). else_same x lt p q)
        (λ (ge : length ws ≤ x). get_or_past view x 0 (omega (arith, ge, exchanged_long ms ws)) ∙ sym (get_or_past seen x 0 (omega (arith, ge, seen_long ms ws))))
        (cases_lt x (length ws));
  }

  bus_alike : (m : Moved) → IsAmong ms m → Agree (covers m.bus) view seen
  bus_alike m i = record {
    long = exchanged_long ms ws ∙ sym (seen_long ms ws);
    same = λ x c.
        let p = of_extent m.bus x c in
        let k = bus_inside (length ws) ms m are i in
        let lt : x < length ws = omega (arith, p.1, k.0, k.1) in
        exchanged_at ms ws x lt ∙ ap (λ z. get_or ws z 0) (in_lane (length ws) ms m x are (same_among ms m i) c) ∙ sym (seen_bus ms m ws x are (same_among ms m i) c lt);
  }

  on_bus : (m : Moved) (x : ℕ) → IsAmong ms m → covers m.bus x ≡ true → get_or vs x 0 ≡ get_or (through ms change ws) x 0
  on_bus m x i c =
      let p = of_extent m.bus x c in
      let k = bus_inside (length ws) ms m are i in
      let l = lane_inside (length ws) ms m are (same_among ms m i) in
      let y : ℕ = m.lane.at + (x - m.bus.at) in
      let on : covers m.lane y ≡ true = in_extent m.lane y (omega arith) (omega (arith, p.0, p.1, k.0, l.0)) in
      let lt : y < length ws = omega (arith, p.0, p.1, k.0, l.1) in
      let back : place_in ms y ≡ x = in_bus (length ws) ms m y are (same_among ms m i) on ∙ omega (arith, p.0) in
      let lane : has (lanes_in ms) y ≡ true = lane_among ms m y (same_among ms m i) on in
      now_at x y lt back
      ∙ puts.keeps view y (no_write y (far y lane)) (not_both_places (length ws) ms y are lane)
      ∙ exchanged_at ms ws y lt
      ∙ ap (λ z. get_or ws z 0) back
      ∙ sym (laid_bus ms (change seen) ws x (has_bus ms m x i c))

  on_lane : (m : Moved) (x : ℕ) → IsAmong ms m → covers m.lane x ≡ true → get_or vs x 0 ≡ get_or (through ms change ws) x 0
  on_lane m x i c =
      let p = of_extent m.lane x c in
      let k = bus_inside (length ws) ms m are i in
      let l = lane_inside (length ws) ms m are (same_among ms m i) in
      let y : ℕ = m.bus.at + (x - m.lane.at) in
      let on : covers m.bus y ≡ true = in_extent m.bus y (omega arith) (omega (arith, p.0, p.1, k.0, l.0)) in
      let lt : y < length ws = omega (arith, p.0, p.1, l.0, k.1) in
      let back : place_in ms y ≡ x = in_lane (length ws) ms m y are (same_among ms m i) on ∙ omega (arith, p.0) in
      let signal = puts.puts m i view in
      now_at x y lt back
      ∙ signal.1 view (record { long = refl; same = λ z t. refl }) y on
      ∙ (block_agrees (covers m.bus) true b view seen m.bus.at signal.0 (λ z from to. in_extent m.bus z from (omega (arith, to, k.0))) (bus_alike m i)).same y on
      ∙ sym (signal.1 seen both_alike y on)
      ∙ sym (laid_lane ms m (change seen) ws x are (same_among ms m i) c (omega (arith, p.1, l.0, l.1)))

  elsewhere : (x : ℕ) → x < length ws → has (buses_in ms) x ≡ false → has (lanes_in ms) x ≡ false → get_or vs x 0 ≡ get_or (through ms change ws) x 0
  elsewhere x lt p q =
      now_at x x lt (place_same ms x (no_place ms x p q))
      ∙ ⊎_elim
      (λ (t : touches f x ≡ true). (puts.agree view seen both_alike).same x t)
      (λ (t : touches f x ≡ false). puts.keeps view x (no_write x t) p ∙ else_same x lt p q ∙ sym (puts.keeps seen x (no_write x t) p))
      (cases_Bool (touches f x))
      ∙ sym (laid_else ms (change seen) ws x made_long p q)

  pub runs_through : vs ≡ through ms change ws
  runs_through =
      ext_get_or 0 vs (through ms change ws) (vs_long ∙ sym (laid_long ms (change seen) ws))
      (λ x lt. ⊎_elim
      (λ (h : has (buses_in ms) x ≡ true). let q = bus_of ms x h in on_bus q.0 x q.1.0 q.1.1)
      (λ (p : has (buses_in ms) x ≡ false). ⊎_elim
      (λ (h : has (lanes_in ms) x ≡ true). let q = lane_of ms x h in on_lane q.0 x q.1.0 q.1.1)
      (λ (q : has (lanes_in ms) x ≡ false). elsewhere x (omega (arith, lt, vs_long)) p q)
      (cases_Bool (has (lanes_in ms) x)))
      (cases_Bool (has (buses_in ms) x)))
