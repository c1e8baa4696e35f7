-- Words through lanes: each stands in one place, and a store through lanes changes one word of the view.
use Rattle.std.proofs.Common.{◌≡◌, ◌≢◌, ◌≤◌, ◌<◌, ◌⊎◌, inl, inr, ⊎_elim, ℕ, ◌+◌, ◌-◌, Bool, true, false, not, ◌&&◌, ◌||◌, List, [], ◌∷◌, length, get_or, set, sym, refl, ap, ◌∙◌, arith, true≢false, length-set, get_or-set_same, get_or-set_other, if◌then◌else◌}
use Rattle.std.specs.Prelude.{◌==◌, nat_le, nat_lt}
use Rattle.std.specs.List.{All, list_all, list_any}
use Rattle.std.proofs.lemmas.Bool.{and_from, and_parts, cases_Bool, cond-false, cond-true, cond_both, leb-true, ltb-true, not-true, or_cases, or_left, or_right, or_parts}
use Rattle.std.proofs.lemmas.List.Elements.{All-cons, All-nil}
use Rattle.std.proofs.lemmas.Bool.Decides.{Decides-eqb}
use Rattle.sn_mem.specs.declared.extents.Extent.{Extent}
use Rattle.sn_mem.specs.declared.extents.Foot.{Foot}
use Rattle.sn_mem.specs.declared.moves.Moved.{Moved}
use Rattle.sn_mem.specs.Words.{covers, has, touches, writes}
use Rattle.sn_mem.specs.Meetings.{meet}
use Rattle.sn_mem.specs.Blocks.{table}
use Rattle.sn_mem.specs.Lanes.{HasRoom, are_apart, are_moves, exchanged, foot_through, is_through, is_whole, lanes_in, place_in, places_in}
use Rattle.sn_mem.specs.Through.{is_where}
use Rattle.sn_mem.proofs.Masks.{get_or-table}
use Rattle.sn_mem.proofs.Meetings.{covered, is_meet, is_one}
use Rattle.sn_mem.proofs.Windows.{table_set}

-- ---- moves

-- what is asked of one move, and of the others
pub record IsMove (size : ℕ) (m : Moved) (ms : List Moved) : Type 0 where
  pub bus : is_whole size m.bus ≡ true
  pub lane : is_whole size m.lane ≡ true
  pub apart : meet m.bus m.lane ≡ false
  pub bus_apart : list_any (meet m.bus) (places_in ms) ≡ false
  pub lane_apart : list_any (meet m.lane) (places_in ms) ≡ false
  pub rest : are_moves size ms ≡ true

pub first_move : (size : ℕ) (m : Moved) (ms : List Moved) → are_moves size (m ∷ ms) ≡ true → IsMove size m ms
first_move size m ms h =
    let all : Bool = list_all (is_whole size) (places_in ms) in
    let others : Bool = are_apart (places_in ms) in
    let p = and_parts (is_whole size m.bus && (is_whole size m.lane && all)) (not (meet m.bus m.lane || list_any (meet m.bus) (places_in ms)) && (not (list_any (meet m.lane) (places_in ms)) && others)) h in
    let w = and_parts (is_whole size m.bus) (is_whole size m.lane && all) p.0 in
    let v = and_parts (is_whole size m.lane) all w.1 in
    let a = and_parts (not (meet m.bus m.lane || list_any (meet m.bus) (places_in ms))) (not (list_any (meet m.lane) (places_in ms)) && others) p.1 in
    let b = and_parts (not (list_any (meet m.lane) (places_in ms))) others a.1 in
    let o = or_parts (meet m.bus m.lane) (list_any (meet m.bus) (places_in ms)) (not-true (meet m.bus m.lane || list_any (meet m.bus) (places_in ms)) a.0) in
    record {
      bus = w.0;
      lane = v.0;
      apart = o.0;
      bus_apart = o.1;
      lane_apart = not-true (list_any (meet m.lane) (places_in ms)) b.0;
      rest = and_from all others v.1 b.1;
    }

-- the 65 words of an extent lie below the size
pub whole_is : (size : ℕ) (e : Extent) → is_whole size e ≡ true → (e.len ≡ 65) × ((e.at + 65 ≤ size) × (e.at + 65 < 4294967296))
whole_is size e h =
    let p = and_parts (e.len == 65) (nat_le (e.at + 65) size && nat_lt (e.at + 65) 4294967296) h in
    let q = and_parts (nat_le (e.at + 65) size) (nat_lt (e.at + 65) 4294967296) p.1 in
    ((Decides-eqb e.len 65).0 p.0, (leb-true (e.at + 65) size q.0, ltb-true (e.at + 65) 4294967296 q.1))

pub in_extent : (e : Extent) (x : ℕ) → covers e x ≡ true → (e.at ≤ x) × (x < e.at + e.len)
in_extent e x h = let p = and_parts (nat_le e.at x) (nat_lt x (e.at + e.len)) h in (leb-true e.at x p.0, ltb-true x (e.at + e.len) p.1)

pub rooms : (size : ℕ) (ms : List Moved) → are_moves size ms ≡ true → All HasRoom ms
rooms size [] h = All-nil HasRoom
rooms size (m ∷ ms) h =
    let is = first_move size m ms h in
    let b = whole_is size m.bus is.bus in
    let l = whole_is size m.lane is.lane in
    All-cons HasRoom m ms (record { bus = b.0; bus_end = b.1.1; lane = l.0; lane_end = l.1.1 }) (rooms size ms is.rest)

-- ---- where words stand

module _ (size : ℕ) where
  -- the word of another extent at the same distance
  across : (from to : Extent) (x : ℕ) → is_whole size from ≡ true → is_whole size to ≡ true → covers from x ≡ true → covers to (to.at + (x - from.at)) ≡ true
  across from to x f t c =
      let p = in_extent from x c in
      covered to (to.at + (x - from.at)) (omega arith) (omega (arith, p.0, p.1, (whole_is size from f).0, (whole_is size to t).0))

  back : (from to : Extent) (x : ℕ) → covers from x ≡ true → from.at + ((to.at + (x - from.at)) - to.at) ≡ x
  back from to x c = omega (arith, (in_extent from x c).0)

  -- a word that another extent covers is not covered by one that lies apart from it
  not_both : (a b : Extent) (x : ℕ) → meet a b ≡ false → covers b x ≡ true → covers a x ≡ false
  not_both a b x apart c = ⊎_elim
      (λ (t : covers a x ≡ true). absurd (true≢false (sym (is_meet a b x t c) ∙ apart)))
      (λ (f : covers a x ≡ false). f)
      (cases_Bool (covers a x))

  -- a word stays, or lands in a bus or a lane
  lands : (ms : List Moved) (x : ℕ) → are_moves size ms ≡ true → (place_in ms x ≡ x) ⊎ (has (places_in ms) (place_in ms x) ≡ true)
  lands [] x h = inl refl
  lands (m ∷ ms) x h =
      let is = first_move size m ms h in
      let Lands : ℕ → Type 0 = λ y. (y ≡ x) ⊎ (has (places_in (m ∷ ms)) y ≡ true) in
      let rest : ℕ → Bool = has (places_in ms) in
      cond_both (covers m.bus x) (m.lane.at + (x - m.bus.at)) (if covers m.lane x then m.bus.at + (x - m.lane.at) else place_in ms x) Lands
      (λ c. let y : ℕ = m.lane.at + (x - m.bus.at) in inr (or_right (covers m.bus y) (covers m.lane y || rest y) (or_left (covers m.lane y) (rest y) (across m.bus m.lane x is.bus is.lane c))))
      (λ c. cond_both (covers m.lane x) (m.bus.at + (x - m.lane.at)) (place_in ms x) Lands
      (λ d. let y : ℕ = m.bus.at + (x - m.lane.at) in inr (or_left (covers m.bus y) (covers m.lane y || rest y) (across m.lane m.bus x is.lane is.bus d)))
      (λ d. let y : ℕ = place_in ms x in ⊎_elim
      (λ (e : y ≡ x). inl e)
      (λ (e : rest y ≡ true). inr (or_right (covers m.bus y) (covers m.lane y || rest y) (or_right (covers m.lane y) (rest y) e)))
      (lands ms x is.rest)))

  -- what an extent apart from all does not cover, it does not cover where it stands
  stays_out : (e : Extent) (ms : List Moved) (x : ℕ) → list_any (meet e) (places_in ms) ≡ false → are_moves size ms ≡ true → covers e x ≡ false → covers e (place_in ms x) ≡ false
  stays_out e ms x apart h off = ⊎_elim
      (λ (s : place_in ms x ≡ x). ap (covers e) s ∙ off)
      (λ (t : has (places_in ms) (place_in ms x) ≡ true). ⊎_elim
      (λ (c : covers e (place_in ms x) ≡ true). absurd (true≢false (sym (is_one e (places_in ms) (place_in ms x) c t) ∙ apart)))
      (λ (c : covers e (place_in ms x) ≡ false). c)
      (cases_Bool (covers e (place_in ms x))))
      (lands ms x h)

  -- a bus and its lane change places, so that the place of a word's place is the word
  pub place_back : (ms : List Moved) (x : ℕ) → are_moves size ms ≡ true → place_in ms (place_in ms x) ≡ x
  place_back [] x h = refl
  place_back (m ∷ ms) x h =
      let is = first_move size m ms h in
      cond_both (covers m.bus x) (m.lane.at + (x - m.bus.at)) (if covers m.lane x then m.bus.at + (x - m.lane.at) else place_in ms x) (λ y. place_in (m ∷ ms) y ≡ x)
      (λ c. let y : ℕ = m.lane.at + (x - m.bus.at) in
      let on : covers m.lane y ≡ true = across m.bus m.lane x is.bus is.lane c in
      cond-false (covers m.bus y) (m.lane.at + (y - m.bus.at)) (if covers m.lane y then m.bus.at + (y - m.lane.at) else place_in ms y) (not_both m.bus m.lane y is.apart on)
      ∙ cond-true (covers m.lane y) (m.bus.at + (y - m.lane.at)) (place_in ms y) on
      ∙ back m.bus m.lane x c)
      (λ c. cond_both (covers m.lane x) (m.bus.at + (x - m.lane.at)) (place_in ms x) (λ y. place_in (m ∷ ms) y ≡ x)
      (λ d. let y : ℕ = m.bus.at + (x - m.lane.at) in
      cond-true (covers m.bus y) (m.lane.at + (y - m.bus.at)) (if covers m.lane y then m.bus.at + (y - m.lane.at) else place_in ms y) (across m.lane m.bus x is.lane is.bus d)
      ∙ back m.lane m.bus x d)
      (λ d. let y : ℕ = place_in ms x in
      cond-false (covers m.bus y) (m.lane.at + (y - m.bus.at)) (if covers m.lane y then m.bus.at + (y - m.lane.at) else place_in ms y) (stays_out m.bus ms x is.bus_apart is.rest c)
      ∙ cond-false (covers m.lane y) (m.bus.at + (y - m.lane.at)) (place_in ms y) (stays_out m.lane ms x is.lane_apart is.rest d)
      ∙ place_back ms x is.rest))

  -- it lies in as many words
  pub place_inside : (ms : List Moved) (x : ℕ) → are_moves size ms ≡ true → x < size → place_in ms x < size
  place_inside [] x h lt = lt
  place_inside (m ∷ ms) x h lt =
      let is = first_move size m ms h in
      let b = whole_is size m.bus is.bus in
      let l = whole_is size m.lane is.lane in
      cond_both (covers m.bus x) (m.lane.at + (x - m.bus.at)) (if covers m.lane x then m.bus.at + (x - m.lane.at) else place_in ms x) (λ y. y < size)
      (λ c. let p = in_extent m.bus x c in omega (arith, p.0, p.1, b.0, l.1.0))
      (λ c. cond_both (covers m.lane x) (m.bus.at + (x - m.lane.at)) (place_in ms x) (λ y. y < size)
      (λ d. let p = in_extent m.lane x d in omega (arith, p.0, p.1, l.0, b.1.0))
      (λ d. place_inside ms x is.rest lt))

-- ---- the words of the view

pub exchanged_at : (ms : List Moved) (ws : List ℕ) (x : ℕ) → x < length ws → get_or (exchanged ms ws) x 0 ≡ get_or ws (place_in ms x) 0
unfolding exchanged
exchanged_at ms ws x lt = get_or-table (λ y. get_or ws (place_in ms y) 0) (length ws) x lt

-- a store in a word's place is one in the view
pub exchanged_set : (ms : List Moved) (ws : List ℕ) (at value : ℕ) → are_moves (length ws) ms ≡ true → at < length ws → exchanged ms (set ws (place_in ms at) value) ≡ set (exchanged ms ws) at value
unfolding exchanged
exchanged_set ms ws at value h lt =
    let size : ℕ = length ws in
    let p : ℕ = place_in ms at in
    let f : ℕ → ℕ = λ x. get_or (set ws p value) (place_in ms x) 0 in
    let g : ℕ → ℕ = λ x. get_or ws (place_in ms x) 0 in
    let other : (x : ℕ) → x ≢ at → place_in ms x ≢ p = λ x ne e. ne (sym (place_back size ms x h) ∙ (ap (place_in ms) e ∙ place_back size ms at h)) in
    ap (table f) (length-set ws p value)
    ∙ table_set f g size at 0 lt (λ x low ne. get_or-set_other ws p (place_in ms x) value 0 (other x ne))
    ∙ ap (set (table g size) at) (get_or-set_same ws p value 0 (place_inside size ms at h lt))

-- ---- what may be written and touched through lanes

pub through_writes : (ms : List Moved) (size : ℕ) (f : Foot) (x : ℕ) → x < size → are_moves size ms ≡ true → has (lanes_in ms) x ≡ false → writes f (place_in ms x) ≡ true → writes (foot_through ms size f) x ≡ true
through_writes ms size f x lt are off w =
    let seen : not (has (lanes_in ms) x) ≡ true = ap not off in
    is_where (is_through ms size f.writes) size x lt
    (and_from (are_moves size ms) (not (has (lanes_in ms) x) && has f.writes (place_in ms x)) are (and_from (not (has (lanes_in ms) x)) (has f.writes (place_in ms x)) seen w))

pub through_touches : (ms : List Moved) (size : ℕ) (f : Foot) (x : ℕ) → x < size → are_moves size ms ≡ true → has (lanes_in ms) x ≡ false → touches f (place_in ms x) ≡ true → touches (foot_through ms size f) x ≡ true
through_touches ms size f x lt are off t =
    let seen : not (has (lanes_in ms) x) ≡ true = ap not off in
    let y : ℕ = place_in ms x in
    let g : Foot = foot_through ms size f in
    ⊎_elim
    (λ (w : has f.writes y ≡ true). or_left (has g.writes x) (has g.reads x) (through_writes ms size f x lt are off w))
    (λ (r : has f.reads y ≡ true). or_right (has g.writes x) (has g.reads x) (is_where (is_through ms size f.reads) size x lt
    (and_from (are_moves size ms) (not (has (lanes_in ms) x) && has f.reads y) are (and_from (not (has (lanes_in ms) x)) (has f.reads y) seen r))))
    (or_cases (has f.writes y) (has f.reads y) t)

-- a word of no move stands in its own place
pub place_same : (ms : List Moved) (x : ℕ) → has (places_in ms) x ≡ false → place_in ms x ≡ x
place_same [] x h = refl
place_same (m ∷ ms) x h =
    let p = or_parts (covers m.bus x) (covers m.lane x || has (places_in ms) x) h in
    let q = or_parts (covers m.lane x) (has (places_in ms) x) p.1 in
    cond-false (covers m.bus x) (m.lane.at + (x - m.bus.at)) (if covers m.lane x then m.bus.at + (x - m.lane.at) else place_in ms x) p.0
    ∙ cond-false (covers m.lane x) (m.bus.at + (x - m.lane.at)) (place_in ms x) q.0
    ∙ place_same ms x q.1
