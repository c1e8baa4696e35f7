-- A synth that mixes onto lanes sees and changes a foot alone that has the lanes in place of their buses.
use Rattle.std.proofs.Common.{◌≡◌, ◌≤◌, ◌<◌, ◌⊎◌, inl, inr, ⊎_elim, ℕ, ◌+◌, ◌*◌, ◌-◌, Bool, true, false, ◌&&◌, ◌||◌, if◌then◌else◌, List, [], ◌∷◌, ℤ, length, get_or, refl, ap, sym, subst, ◌∙◌, arith, true≢false}
use Rattle.std.specs.Prelude.{nat_le, nat_lt}
use Rattle.std.proofs.lemmas.Bool.{and_from, and_parts, cases_Bool, cases_lt, cond-false, cond-true, false_from_ne_true, le-leb, leb-true, lt-ltb, ltb-true, or_cases, or_left, or_parts}
use Rattle.std.proofs.lemmas.List.{get_or_past}
use Rattle.sn_mem.specs.declared.extents.Extent.{Extent}
use Rattle.sn_mem.specs.declared.extents.Foot.{Foot}
use Rattle.sn_mem.specs.declared.moves.Moved.{Moved}
use Rattle.sn_mem.specs.Blocks.{sample_in, samples_at}
use Rattle.sn_mem.specs.Lanes.{are_moves, buses_in, laid, lanes_in, seen_through, through, through_if}
use Rattle.sn_mem.specs.Words.{covers, has, touches, writes}
use Rattle.sn_mem.proofs.Feet.{may_read, may_touch, may_write}
use Rattle.sn_mem.proofs.Windows.{table_same}
use Rattle.sn_mem.proofs.LaneChanges.{IsAmong as Among, laid_bus, laid_else, laid_lane, laid_long, lane_among, lane_inside, seen_bus, seen_else, seen_long}
use Rattle.sn_io.specs.ByFoot.{Agree, IsByFoot, IsPart}
use Rattle.sn_io.specs.OverWords.{onto_block}
use Rattle.sn_io.specs.Joints.{MayAdd, with_lane}
use Rattle.sn_io.specs.Queues.{IsAmong, Puts}
use Rattle.sn_io.proofs.Mixing.{apart_from, onto_apart, onto_long}
use Rattle.sn_io.proofs.BusByFoot.{block_agrees}
use Rattle.sn_io.proofs.QueueRuns.{has_bus, same_among}

-- the move of a word of some lanes
pub lane_of : (ms : List Moved) (x : ℕ) → has (lanes_in ms) x ≡ true → (m : Moved) × (IsAmong ms m × (covers m.lane x ≡ true))
lane_of [] x h = absurd (true≢false (sym h))
lane_of (k ∷ ms) x h = ⊎_elim
    (λ (c : covers k.lane x ≡ true). (k, (inl refl, c)))
    (λ (c : has (lanes_in ms) x ≡ true). let q = lane_of ms x c in (q.0, (inr q.1.0, q.1.1)))
    (or_cases (covers k.lane x) (has (lanes_in ms) x) h)

module _ (b : ℕ) (f g : Foot) (ms : List Moved) (change : List ℕ → List ℕ) (puts : Puts b f ms change) (part : IsPart f g) (lanes : (x : ℕ) → has (lanes_in ms) x ≡ true → writes g x ≡ true) (off : (x : ℕ) → has (buses_in ms) x ≡ true → touches f x ≡ false)
    (sizes : (m : Moved) → IsAmong ms m → m.bus.len ≡ 65) where
  abbrev made : List ℕ → List ℕ
  made ws = change (seen_through ms ws)

  made_long : (ws : List ℕ) → length (made ws) ≡ length ws
  made_long ws = puts.long (seen_through ms ws) ∙ seen_long ms ws

  no_write : (h : Foot) (x : ℕ) → touches h x ≡ false → writes h x ≡ false
  no_write h x e = (or_parts (has h.writes x) (has h.reads x) e).0

  unwritten : (x : ℕ) → writes g x ≡ false → writes f x ≡ false
  unwritten x e = false_from_ne_true (writes f x) (λ h. true≢false (sym (part.written x h) ∙ e))

  kept : (ws : List ℕ) (x : ℕ) → writes g x ≡ false → get_or (through ms change ws) x 0 ≡ get_or ws x 0
  kept ws x e = ⊎_elim
      (λ (on : has (buses_in ms) x ≡ true). laid_bus ms (made ws) ws x on)
      (λ (apart : has (buses_in ms) x ≡ false).
      let far : has (lanes_in ms) x ≡ false = false_from_ne_true (has (lanes_in ms) x) (λ h. true≢false (sym (lanes x h) ∙ e)) in
      laid_else ms (made ws) ws x (made_long ws) apart far ∙ puts.keeps (seen_through ms ws) x (unwritten x e) apart ∙ seen_else ms ws x apart)
      (cases_Bool (has (buses_in ms) x))

  module _ (us ws : List ℕ) (are : are_moves (length us) ms ≡ true) (a : Agree (touches g) us ws) where
    are_too : are_moves (length ws) ms ≡ true
    are_too = ap (λ n. are_moves n ms) (sym a.long) ∙ are

    seen_alike : Agree (touches f) (seen_through ms us) (seen_through ms ws)
    seen_alike = record {
      long = seen_long ms us ∙ a.long ∙ sym (seen_long ms ws);
      same = λ x t.
          let apart : has (buses_in ms) x ≡ false = false_from_ne_true (has (buses_in ms) x) (λ h. true≢false (sym t ∙ off x h)) in
          seen_else ms us x apart ∙ a.same x (part.touched x t) ∙ sym (seen_else ms ws x apart);
    }

    made_alike : Agree (touches f) (made us) (made ws)
    made_alike = puts.agree (seen_through ms us) (seen_through ms ws) seen_alike

    touched_lane : (m : Moved) (x : ℕ) → IsAmong ms m → covers m.lane x ≡ true → touches g x ≡ true
    touched_lane m x i c = or_left (has g.writes x) (has g.reads x) (lanes x (lane_among ms m x (same_among ms m i) c))

    in_extent : (e : Extent) (x : ℕ) → e.at ≤ x → x < e.at + e.len → covers e x ≡ true
    in_extent e x from to = and_from (nat_le e.at x) (nat_lt x (e.at + e.len)) (le-leb e.at x from) (lt-ltb x (e.at + e.len) to)

    of_extent : (e : Extent) (x : ℕ) → covers e x ≡ true → (e.at ≤ x) × (x < e.at + e.len)
    of_extent e x c = let p = and_parts (nat_le e.at x) (nat_lt x (e.at + e.len)) c in (leb-true e.at x p.0, ltb-true x (e.at + e.len) p.1)

    -- a bus, as the synth sees it, is its lane
    bus_alike : (m : Moved) → IsAmong ms m → Agree (covers m.bus) (seen_through ms us) (seen_through ms ws)
    bus_alike m i = record {
      long = seen_long ms us ∙ a.long ∙ sym (seen_long ms ws);
      same = λ x c.
          let p = of_extent m.bus x c in
          let k = lane_inside (length us) ms m are (same_among ms m i) in
          let wide : m.bus.len ≡ 65 = sizes m i in
          let there : touches g (m.lane.at + (x - m.bus.at)) ≡ true = touched_lane m (m.lane.at + (x - m.bus.at)) i (in_extent m.lane (m.lane.at + (x - m.bus.at)) (omega arith) (omega (arith, p.0, p.1, wide, k.0))) in
          ⊎_elim
          (λ (lt : x < length us).
          seen_bus ms m us x are (same_among ms m i) c lt
          ∙ a.same (m.lane.at + (x - m.bus.at)) there
          ∙ sym (seen_bus ms m ws x are_too (same_among ms m i) c (omega (arith, lt, a.long))))
          (λ (ge : length us ≤ x).
          get_or_past (seen_through ms us) x 0 (omega (arith, ge, seen_long ms us)) ∙ sym (get_or_past (seen_through ms ws) x 0 (omega (arith, ge, a.long, seen_long ms ws))))
          (cases_lt x (length us));
    }

    -- what is put onto it is the same
    put_alike : (m : Moved) (x : ℕ) → IsAmong ms m → covers m.bus x ≡ true → get_or (made us) x 0 ≡ get_or (made ws) x 0
    put_alike m x i c =
        let signal = puts.puts m i (seen_through ms us) in
        let xs : List ℤ = signal.0 in
        let wide : m.bus.len ≡ 65 = sizes m i in
        signal.1 (seen_through ms us) (record { long = refl; same = λ y t. refl }) x c
        ∙ (block_agrees (covers m.bus) true b (seen_through ms us) (seen_through ms ws) m.bus.at xs (λ y from to. in_extent m.bus y from (omega (arith, to, wide))) (bus_alike m i)).same x c
        ∙ sym (signal.1 (seen_through ms ws) seen_alike x c)

    lane_alike : (x : ℕ) → has (lanes_in ms) x ≡ true → get_or (through ms change us) x 0 ≡ get_or (through ms change ws) x 0
    lane_alike x h =
        let q = lane_of ms x h in
        let m : Moved = q.0 in
        let p = of_extent m.lane x q.1.1 in
        let k = lane_inside (length us) ms m are (same_among ms m q.1.0) in
        let wide : m.bus.len ≡ 65 = sizes m q.1.0 in
        let y : ℕ = m.bus.at + (x - m.lane.at) in
        let on : covers m.bus y ≡ true = in_extent m.bus y (omega arith) (omega (arith, p.0, p.1, wide, k.0)) in
        laid_lane ms m (made us) us x are (same_among ms m q.1.0) q.1.1 (omega (arith, p.1, k.0, k.1))
        ∙ put_alike m y q.1.0 on
        ∙ sym (laid_lane ms m (made ws) ws x are_too (same_among ms m q.1.0) q.1.1 (omega (arith, p.1, k.0, k.1, a.long)))

    else_alike : (x : ℕ) → touches g x ≡ true → has (buses_in ms) x ≡ false → has (lanes_in ms) x ≡ false → get_or (through ms change us) x 0 ≡ get_or (through ms change ws) x 0
    else_alike x t apart far =
        laid_else ms (made us) us x (made_long us) apart far
        ∙ ⊎_elim
        (λ (s : touches f x ≡ true). made_alike.same x s)
        (λ (s : touches f x ≡ false).
        puts.keeps (seen_through ms us) x (no_write f x s) apart ∙ seen_else ms us x apart ∙ a.same x t ∙ sym (seen_else ms ws x apart) ∙ sym (puts.keeps (seen_through ms ws) x (no_write f x s) apart))
        (cases_Bool (touches f x))
        ∙ sym (laid_else ms (made ws) ws x (made_long ws) apart far)

    alike : Agree (touches g) (through ms change us) (through ms change ws)
    alike = record {
      long = laid_long ms (made us) us ∙ a.long ∙ sym (laid_long ms (made ws) ws);
      same = λ x t. ⊎_elim
          (λ (on : has (buses_in ms) x ≡ true). laid_bus ms (made us) us x on ∙ a.same x t ∙ sym (laid_bus ms (made ws) ws x on))
          (λ (apart : has (buses_in ms) x ≡ false). ⊎_elim
          (λ (h : has (lanes_in ms) x ≡ true). lane_alike x h)
          (λ (far : has (lanes_in ms) x ≡ false). else_alike x t apart far)
          (cases_Bool (has (lanes_in ms) x)))
          (cases_Bool (has (buses_in ms) x));
    }

  pub through_by_foot : IsByFoot g (through_if ms change)
  through_by_foot = record {
    long = λ ws. ⊎_elim
        (λ (h : are_moves (length ws) ms ≡ true). ap (λ (vs : List ℕ). length vs) (cond-true (are_moves (length ws) ms) (through ms change ws) ws h) ∙ laid_long ms (made ws) ws)
        (λ (h : are_moves (length ws) ms ≡ false). ap (λ (vs : List ℕ). length vs) (cond-false (are_moves (length ws) ms) (through ms change ws) ws h))
        (cases_Bool (are_moves (length ws) ms));
    keeps = λ ws x e. ⊎_elim
        (λ (h : are_moves (length ws) ms ≡ true). ap (λ (vs : List ℕ). get_or vs x 0) (cond-true (are_moves (length ws) ms) (through ms change ws) ws h) ∙ kept ws x e)
        (λ (h : are_moves (length ws) ms ≡ false). ap (λ (vs : List ℕ). get_or vs x 0) (cond-false (are_moves (length ws) ms) (through ms change ws) ws h))
        (cases_Bool (are_moves (length ws) ms));
    agree = λ us ws a. ⊎_elim
        (λ (h : are_moves (length us) ms ≡ true).
        subst (λ (vs : List ℕ). Agree (touches g) vs (through_if ms change ws)) (sym (cond-true (are_moves (length us) ms) (through ms change us) us h))
        (subst (λ (vs : List ℕ). Agree (touches g) (through ms change us) vs) (sym (cond-true (are_moves (length ws) ms) (through ms change ws) ws (ap (λ n. are_moves n ms) (sym a.long) ∙ h)))
        (alike us ws h a)))
        (λ (h : are_moves (length us) ms ≡ false).
        subst (λ (vs : List ℕ). Agree (touches g) vs (through_if ms change ws)) (sym (cond-false (are_moves (length us) ms) (through ms change us) us h))
        (subst (λ (vs : List ℕ). Agree (touches g) us vs) (sym (cond-false (are_moves (length ws) ms) (through ms change ws) ws (ap (λ n. are_moves n ms) (sym a.long) ∙ h)))
        a))
        (cases_Bool (are_moves (length us) ms));
  }

-- ---- a lane that is added

pub lane_by_foot : (b : ℕ) (g : Foot) (m : Moved) → MayAdd g m → IsByFoot g (with_lane b m)
lane_by_foot b g m may = record {
  long = λ ws. onto_long true b ws m.bus.at (samples_at ws (m.lane.at + 1));
  keeps = λ ws x off. onto_apart true b ws m.bus.at (samples_at ws (m.lane.at + 1)) x (apart_from x m.bus.at 65 (λ from to. true≢false (sym (may_write g g m.bus.at 65 x may.bus refl from to) ∙ off)));
  agree = λ us ws a.
      let same : samples_at us (m.lane.at + 1) ≡ samples_at ws (m.lane.at + 1) =
      table_same (λ k. sample_in (get_or us (m.lane.at + 1 + k) 0)) (λ k. sample_in (get_or ws (m.lane.at + 1 + k) 0)) 64
      (λ k lt. ap sample_in (a.same (m.lane.at + 1 + k) (may_read g g m.lane.at 65 (m.lane.at + 1 + k) may.lane refl (omega arith) (omega (arith, lt))))) in
      subst (λ (xs : List ℤ). Agree (touches g) (onto_block true b us m.bus.at (samples_at us (m.lane.at + 1))) (onto_block true b ws m.bus.at xs)) same
      (block_agrees (touches g) true b us ws m.bus.at (samples_at us (m.lane.at + 1)) (λ j from to. may_touch g g m.bus.at 65 j may.bus refl from to) a);
}
