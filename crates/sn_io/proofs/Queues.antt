-- After the lane that waits first for a bus is added, the others wait as before.
use Rattle.std.proofs.Common.{◌≡◌, ◌≢◌, ◌≤◌, ◌<◌, ◌⊎◌, inl, inr, ⊎_elim, ℕ, ◌+◌, ◌*◌, Bool, true, false, ◌||◌, List, [], ◌∷◌, ◌++◌, ℤ, pos, length, get_or, refl, ap, sym, subst, ◌∙◌, arith, true≢false}
use Rattle.std.specs.List.{All}
use Rattle.std.specs.Prelude.{◌&&◌, nat_le, nat_lt}
use Rattle.std.proofs.lemmas.Bool.{and_from, and_parts, cases_eq, cases_lt, le-leb, leb-true, lt-ltb, ltb-true, or_cases, or_left, or_right}
use Rattle.std.proofs.lemmas.List.Elements.{All-head, All-tail}
use Rattle.sn_mem.specs.declared.moves.Moved.{Moved}
use Rattle.sn_fixed.specs.Fixed.{sat}
use Rattle.sn_mem.specs.Blocks.{sample_in, samples_at}
use Rattle.sn_mem.proofs.Windows.{table_at}
use Rattle.sn_io.specs.ByFoot.{Agree}
use Rattle.sn_io.specs.Joints.{with_lane, with_lanes}
use Rattle.sn_io.specs.OverWords.{onto_block}
use Rattle.sn_io.specs.Queues.{IsOn, Waits}
use Rattle.sn_io.proofs.BusByFoot.{block_agrees}
use Rattle.sn_io.proofs.JointWords.{lane_agrees}
use Rattle.sn_io.proofs.Mixing.{onto_apart, onto_long, onto_saturated}

module _ (b : ℕ) (is_lane : ℕ → Bool) (past : (x : ℕ) → is_lane x ≡ true → 8320 ≤ x) where
  -- the words of one bus, and those of lanes
  abbrev pub near : ℕ → ℕ → Bool
  near n x = (nat_le (65 * n) x && nat_lt x (65 * n + 65)) || is_lane x

  pub on_bus : (n x : ℕ) → 65 * n ≤ x → x < 65 * n + 65 → near n x ≡ true
  on_bus n x low high = or_left (nat_le (65 * n) x && nat_lt x (65 * n + 65)) (is_lane x) (and_from (nat_le (65 * n) x) (nat_lt x (65 * n + 65)) (le-leb (65 * n) x low) (lt-ltb x (65 * n + 65) high))

  one_agrees : (n : ℕ) (m : Moved) (us ws : List ℕ) → IsOn is_lane n m → Agree (near n) us ws → Agree (near n) (with_lane b m us) (with_lane b m ws)
  one_agrees n m us ws is a =
      lane_agrees (near n) b m us ws
      (λ j low high. on_bus n j (omega (arith, low, is.bus)) (omega (arith, high, is.bus)))
      (λ j low high. or_right (nat_le (65 * n) j && nat_lt j (65 * n + 65)) (is_lane j) (is.lane j low high))
      a

  -- what waits for one bus sees that bus and lanes alone
  pub all_agree : (n : ℕ) (ms : List Moved) (us ws : List ℕ) → All (IsOn is_lane n) ms → Agree (near n) us ws → Agree (near n) (with_lanes b ms us) (with_lanes b ms ws)
  all_agree n [] us ws is a = a
  all_agree n (m ∷ ms) us ws is a = all_agree n ms (with_lane b m us) (with_lane b m ws) (All-tail (IsOn is_lane n) m ms is) (one_agrees n m us ws (All-head (IsOn is_lane n) m ms is) a)

  -- a lane that is added changes one bus alone
  apart_kept : (i : ℕ) (m : Moved) (ws : List ℕ) (x : ℕ) → IsOn is_lane i m → (x < 65 * i) ⊎ (65 * i + 65 ≤ x) → get_or (with_lane b m ws) x 0 ≡ get_or ws x 0
  apart_kept i m ws x is apart =
      onto_apart true b ws m.bus.at (samples_at ws (m.lane.at + 1)) x
      (⊎_elim (λ (l : x < 65 * i). inl (omega (arith, l, is.bus))) (λ (r : 65 * i + 65 ≤ x). inr (omega (arith, r, is.bus))) apart)

  beside : (i n x : ℕ) → i < 128 → n ≢ i → near n x ≡ true → (x < 65 * i) ⊎ (65 * i + 65 ≤ x)
  beside i n x low ne t = ⊎_elim
      (λ (h : (nat_le (65 * n) x && nat_lt x (65 * n + 65)) ≡ true).
      let p = and_parts (nat_le (65 * n) x) (nat_lt x (65 * n + 65)) h in
      let from = leb-true (65 * n) x p.0 in
      let to = ltb-true x (65 * n + 65) p.1 in
      ⊎_elim
      (λ (l : n < i). inl (omega (arith, from, to, l)))
      (λ (g : i ≤ n). inr (omega (arith, from, to, g, ne)))
      (cases_lt n i))
      (λ (h : is_lane x ≡ true). inr (omega (arith, past x h, low)))
      (or_cases (nat_le (65 * n) x && nat_lt x (65 * n + 65)) (is_lane x) t)

  other_agrees : (i n : ℕ) (m : Moved) (ws : List ℕ) → i < 128 → n ≢ i → IsOn is_lane i m → Agree (near n) (with_lane b m ws) ws
  other_agrees i n m ws low ne is = record {
    long = onto_long true b ws m.bus.at (samples_at ws (m.lane.at + 1));
    same = λ x t. apart_kept i m ws x is (beside i n x low ne t);
  }

  pub waits_less : (i : ℕ) (m : Moved) (queue less : ℕ → List Moved) (walked laned : List ℕ) → i < 128 → IsOn is_lane i m
      → ((n : ℕ) → n < 128 → All (IsOn is_lane n) (less n)) → queue i ≡ m ∷ less i → ((n : ℕ) → n < 128 → n ≢ i → queue n ≡ less n)
      → Waits b is_lane queue walked laned → Waits b is_lane less walked (with_lane b m laned)
  waits_less i m queue less walked laned low is on first rest w = record {
    long = w.long ∙ sym (onto_long true b laned m.bus.at (samples_at laned (m.lane.at + 1)));
    buses = λ n x lt from to. ⊎_elim
        (λ (e : n ≡ i).
        w.buses n x lt from to ∙ ap (λ (ms : List Moved). get_or (with_lanes b ms laned) x 0) (ap queue e ∙ first ∙ ap (λ k. m ∷ less k) (sym e)))
        (λ (ne : n ≢ i).
        w.buses n x lt from to ∙ ap (λ (ms : List Moved). get_or (with_lanes b ms laned) x 0) (rest n lt ne)
        ∙ sym ((all_agree n (less n) (with_lane b m laned) laned (on n lt) (other_agrees i n m laned low ne is)).same x (on_bus n x from to)))
        (cases_eq n i);
    others = λ x far off. w.others x far off ∙ sym (apart_kept i m laned x is (inr (omega (arith, far, low))));
  }

  -- ---- one lane more

  lanes_long : (ms : List Moved) (ws : List ℕ) → length (with_lanes b ms ws) ≡ length ws
  lanes_long [] ws = refl
  lanes_long (m ∷ ms) ws = lanes_long ms (with_lane b m ws) ∙ onto_long true b ws m.bus.at (samples_at ws (m.lane.at + 1))

  -- lanes that are added to a bus change nothing after the buses
  past_kept : (n : ℕ) (ms : List Moved) (ws : List ℕ) (x : ℕ) → n < 128 → All (IsOn is_lane n) ms → 8320 ≤ x → get_or (with_lanes b ms ws) x 0 ≡ get_or ws x 0
  past_kept n [] ws x low is far = refl
  past_kept n (m ∷ ms) ws x low is far =
      past_kept n ms (with_lane b m ws) x low (All-tail (IsOn is_lane n) m ms is) far
      ∙ apart_kept n m ws x (All-head (IsOn is_lane n) m ms is) (inr (omega (arith, far, low)))

  last_lane : (m : Moved) (ms : List Moved) (ws : List ℕ) → with_lanes b (ms ++ m ∷ []) ws ≡ with_lane b m (with_lanes b ms ws)
  last_lane m [] ws = refl
  last_lane m (k ∷ ms) ws = last_lane m ms (with_lane b k ws)

  abbrev pub in_bus : ℕ → ℕ → Bool
  in_bus n x = nat_le (65 * n) x && nat_lt x (65 * n + 65)

  -- The walk put a signal onto a bus for which lanes wait. If one more lane has it, and what the others need is as it
  -- was, they wait together.
  pub bus_more : (n : ℕ) (m : Moved) (ms : List Moved) (walked laned next after : List ℕ) (xs : List ℤ) → n < 128 → All (IsOn is_lane n) ms → m.bus.at ≡ 65 * n → 8320 ≤ m.lane.at
      → length walked ≡ length laned → Agree (near n) next laned
      → ((x : ℕ) → 65 * n ≤ x → x < 65 * n + 65 → get_or walked x 0 ≡ get_or (with_lanes b ms laned) x 0)
      → ((k : ℕ) → k < 64 → get_or (samples_at next (m.lane.at + 1)) k (pos 0) ≡ sat (get_or xs k (pos 0)))
      → ((x : ℕ) → 65 * n ≤ x → x < 65 * n + 65 → get_or after x 0 ≡ get_or (onto_block true b walked (65 * n) xs) x 0)
      → (x : ℕ) → 65 * n ≤ x → x < 65 * n + 65 → get_or after x 0 ≡ get_or (with_lanes b (ms ++ m ∷ []) next) x 0
  bus_more n m ms walked laned next after xs low is bus far long kept waits holds put x from to =
      let us : List ℕ = with_lanes b ms next in
      let vs : List ℕ = with_lanes b ms laned in
      let all : Agree (near n) us vs = all_agree n ms next laned is kept in
      let same : Agree (in_bus n) walked us = record {
        long = long ∙ sym (lanes_long ms laned) ∙ sym all.long;
        same = λ y t.
            let p = and_parts (nat_le (65 * n) y) (nat_lt y (65 * n + 65)) t in
            waits y (leb-true (65 * n) y p.0) (ltb-true y (65 * n + 65) p.1) ∙ sym (all.same y (or_left (in_bus n y) (is_lane y) t));
      } in
      let covered : (y : ℕ) → 65 * n ≤ y → y < 65 * n + 65 → in_bus n y ≡ true = λ y l h. and_from (nat_le (65 * n) y) (nat_lt y (65 * n + 65)) (le-leb (65 * n) y l) (lt-ltb y (65 * n + 65) h) in
      let lane : (k : ℕ) → k < 64 → get_or (samples_at us (m.lane.at + 1)) k (pos 0) ≡ sat (get_or xs k (pos 0)) =
      λ k lt.
      table_at (λ j. sample_in (get_or us (m.lane.at + 1 + j) 0)) 64 k (pos 0) lt
      ∙ ap sample_in (past_kept n ms next (m.lane.at + 1 + k) low is (omega (arith, far)))
      ∙ sym (table_at (λ j. sample_in (get_or next (m.lane.at + 1 + j) 0)) 64 k (pos 0) lt)
      ∙ holds k lt in
      put x from to
      ∙ (block_agrees (in_bus n) true b walked us (65 * n) xs covered same).same x (covered x from to)
      ∙ ap (λ (ws : List ℕ). get_or ws x 0) (sym (onto_saturated b us (65 * n) xs (samples_at us (m.lane.at + 1)) lane)
      ∙ ap (λ (at : ℕ). onto_block true b us at (samples_at us (m.lane.at + 1))) (sym bus)
      ∙ sym (last_lane m ms next))
