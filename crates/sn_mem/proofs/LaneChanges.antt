-- What a change through lanes makes of words.
use Rattle.std.proofs.Common.{◌≡◌, ◌≤◌, ◌<◌, ◌⊎◌, ⊎_elim, ℕ, ◌+◌, ◌-◌, true, false, ◌||◌, List, [], ◌∷◌, length, get_or, sym, refl, ap, ◌∙◌, subst, arith, true≢false, if◌then◌else◌}
use Rattle.std.specs.List.{list_any}
use Rattle.std.proofs.lemmas.Bool.{cases_lt, cond-false, cond-true, false_from_ne_true, or_cases, or_left, or_right}
use Rattle.std.proofs.lemmas.List.{get_or_past}
use Rattle.sn_mem.specs.declared.extents.Extent.{Extent}
use Rattle.sn_mem.specs.declared.moves.Moved.{Moved}
use Rattle.sn_mem.specs.Words.{covers, has}
use Rattle.sn_mem.specs.Meetings.{meet}
use Rattle.sn_mem.specs.Lanes.{are_moves, buses_in, laid, lanes_in, place_in, places_in, seen_through}
use Rattle.sn_mem.proofs.LaneWords.{first_move, whole_is}
use Rattle.sn_mem.proofs.Masks.{get_or-table}
use Rattle.sn_mem.proofs.Meetings.{is_one}
use Rattle.sn_mem.proofs.Tables.{length-table}

-- the move is one of these
abbrev pub IsAmong : List Moved → Moved → Type 0
IsAmong [] m = ⊥
IsAmong (k ∷ ms) m = (k ≡ m) ⊎ IsAmong ms m

bus_among : (ms : List Moved) (m : Moved) (x : ℕ) → IsAmong ms m → covers m.bus x ≡ true → has (buses_in ms) x ≡ true
bus_among [] m x a c = absurd a
bus_among (k ∷ ms) m x a c = ⊎_elim
    (λ (e : k ≡ m). or_left (covers k.bus x) (has (buses_in ms) x) (ap (λ (l : Moved). covers l.bus x) e ∙ c))
    (λ (i : IsAmong ms m). or_right (covers k.bus x) (has (buses_in ms) x) (bus_among ms m x i c))
    a

pub lane_among : (ms : List Moved) (m : Moved) (x : ℕ) → IsAmong ms m → covers m.lane x ≡ true → has (lanes_in ms) x ≡ true
lane_among [] m x a c = absurd a
lane_among (k ∷ ms) m x a c = ⊎_elim
    (λ (e : k ≡ m). or_left (covers k.lane x) (has (lanes_in ms) x) (ap (λ (l : Moved). covers l.lane x) e ∙ c))
    (λ (i : IsAmong ms m). or_right (covers k.lane x) (has (lanes_in ms) x) (lane_among ms m x i c))
    a

bus_place : (ms : List Moved) (m : Moved) (x : ℕ) → IsAmong ms m → covers m.bus x ≡ true → has (places_in ms) x ≡ true
bus_place [] m x a c = absurd a
bus_place (k ∷ ms) m x a c = ⊎_elim
    (λ (e : k ≡ m). or_left (covers k.bus x) (covers k.lane x || has (places_in ms) x) (ap (λ (l : Moved). covers l.bus x) e ∙ c))
    (λ (i : IsAmong ms m). or_right (covers k.bus x) (covers k.lane x || has (places_in ms) x) (or_right (covers k.lane x) (has (places_in ms) x) (bus_place ms m x i c)))
    a

lane_place : (ms : List Moved) (m : Moved) (x : ℕ) → IsAmong ms m → covers m.lane x ≡ true → has (places_in ms) x ≡ true
lane_place [] m x a c = absurd a
lane_place (k ∷ ms) m x a c = ⊎_elim
    (λ (e : k ≡ m). or_right (covers k.bus x) (covers k.lane x || has (places_in ms) x) (or_left (covers k.lane x) (has (places_in ms) x) (ap (λ (l : Moved). covers l.lane x) e ∙ c)))
    (λ (i : IsAmong ms m). or_right (covers k.bus x) (covers k.lane x || has (places_in ms) x) (or_right (covers k.lane x) (has (places_in ms) x) (lane_place ms m x i c)))
    a

-- an extent that lies apart from some has no word of theirs
apart_off : (e : Extent) (es : List Extent) (x : ℕ) → list_any (meet e) es ≡ false → has es x ≡ true → covers e x ≡ false
apart_off e es x h on = false_from_ne_true (covers e x) (λ c. true≢false (sym (is_one e es x c on) ∙ h))

-- a word of a bus stands in the lane, and a word of a lane in the bus
pub in_lane : (size : ℕ) (ms : List Moved) (m : Moved) (x : ℕ) → are_moves size ms ≡ true → IsAmong ms m → covers m.bus x ≡ true → place_in ms x ≡ m.lane.at + (x - m.bus.at)
in_lane size [] m x are a c = absurd a
in_lane size (k ∷ ms) m x are a c =
    let is = first_move size k ms are in
    ⊎_elim
    (λ (e : k ≡ m).
    cond-true (covers k.bus x) (k.lane.at + (x - k.bus.at)) (if covers k.lane x then k.bus.at + (x - k.lane.at) else place_in ms x) (ap (λ (l : Moved). covers l.bus x) e ∙ c)
    ∙ ap (λ (l : Moved). l.lane.at + (x - l.bus.at)) e)
    (λ (i : IsAmong ms m).
    let on : has (places_in ms) x ≡ true = bus_place ms m x i c in
    cond-false (covers k.bus x) (k.lane.at + (x - k.bus.at)) (if covers k.lane x then k.bus.at + (x - k.lane.at) else place_in ms x) (apart_off k.bus (places_in ms) x is.bus_apart on)
    ∙ cond-false (covers k.lane x) (k.bus.at + (x - k.lane.at)) (place_in ms x) (apart_off k.lane (places_in ms) x is.lane_apart on)
    ∙ in_lane size ms m x is.rest i c)
    a

pub in_bus : (size : ℕ) (ms : List Moved) (m : Moved) (x : ℕ) → are_moves size ms ≡ true → IsAmong ms m → covers m.lane x ≡ true → place_in ms x ≡ m.bus.at + (x - m.lane.at)
in_bus size [] m x are a c = absurd a
in_bus size (k ∷ ms) m x are a c =
    let is = first_move size k ms are in
    ⊎_elim
    (λ (e : k ≡ m).
    let on : covers k.lane x ≡ true = ap (λ (l : Moved). covers l.lane x) e ∙ c in
    cond-false (covers k.bus x) (k.lane.at + (x - k.bus.at)) (if covers k.lane x then k.bus.at + (x - k.lane.at) else place_in ms x) (apart_off k.bus (k.lane ∷ []) x (one_apart k.bus k.lane is.apart) (or_left (covers k.lane x) false on))
    ∙ cond-true (covers k.lane x) (k.bus.at + (x - k.lane.at)) (place_in ms x) on
    ∙ ap (λ (l : Moved). l.bus.at + (x - l.lane.at)) e)
    (λ (i : IsAmong ms m).
    let on : has (places_in ms) x ≡ true = lane_place ms m x i c in
    cond-false (covers k.bus x) (k.lane.at + (x - k.bus.at)) (if covers k.lane x then k.bus.at + (x - k.lane.at) else place_in ms x) (apart_off k.bus (places_in ms) x is.bus_apart on)
    ∙ cond-false (covers k.lane x) (k.bus.at + (x - k.lane.at)) (place_in ms x) (apart_off k.lane (places_in ms) x is.lane_apart on)
    ∙ in_bus size ms m x is.rest i c)
    a
  where
    one_apart : (a b : Extent) → meet a b ≡ false → list_any (meet a) (b ∷ []) ≡ false
    one_apart a b h = ap (λ t. t || false) h

-- no word is of a bus and of a lane
pub not_both_places : (size : ℕ) (ms : List Moved) (x : ℕ) → are_moves size ms ≡ true → has (lanes_in ms) x ≡ true → has (buses_in ms) x ≡ false
not_both_places size [] x are h = refl
not_both_places size (k ∷ ms) x are h =
    let is = first_move size k ms are in
    ⊎_elim
    (λ (c : covers k.lane x ≡ true).
    let own : covers k.bus x ≡ false = apart_off k.bus (k.lane ∷ []) x (ap (λ t. t || false) is.apart) (or_left (covers k.lane x) false c) in
    let others : has (buses_in ms) x ≡ false = false_from_ne_true (has (buses_in ms) x) (λ b. true≢false (sym c ∙ apart_off k.lane (places_in ms) x is.lane_apart (buses_places ms x b))) in
    ap (λ t. t || has (buses_in ms) x) own ∙ others)
    (λ (c : has (lanes_in ms) x ≡ true).
    let own : covers k.bus x ≡ false = apart_off k.bus (places_in ms) x is.bus_apart (lanes_places ms x c) in
    ap (λ t. t || has (buses_in ms) x) own ∙ not_both_places size ms x is.rest c)
    (or_cases (covers k.lane x) (has (lanes_in ms) x) h)
  where
    buses_places : (ms : List Moved) (x : ℕ) → has (buses_in ms) x ≡ true → has (places_in ms) x ≡ true
    buses_places [] x h = h
    buses_places (k ∷ ms) x h = ⊎_elim
        (λ (c : covers k.bus x ≡ true). or_left (covers k.bus x) (covers k.lane x || has (places_in ms) x) c)
        (λ (c : has (buses_in ms) x ≡ true). or_right (covers k.bus x) (covers k.lane x || has (places_in ms) x) (or_right (covers k.lane x) (has (places_in ms) x) (buses_places ms x c)))
        (or_cases (covers k.bus x) (has (buses_in ms) x) h)

    lanes_places : (ms : List Moved) (x : ℕ) → has (lanes_in ms) x ≡ true → has (places_in ms) x ≡ true
    lanes_places [] x h = h
    lanes_places (k ∷ ms) x h = ⊎_elim
        (λ (c : covers k.lane x ≡ true). or_right (covers k.bus x) (covers k.lane x || has (places_in ms) x) (or_left (covers k.lane x) (has (places_in ms) x) c))
        (λ (c : has (lanes_in ms) x ≡ true). or_right (covers k.bus x) (covers k.lane x || has (places_in ms) x) (or_right (covers k.lane x) (has (places_in ms) x) (lanes_places ms x c)))
        (or_cases (covers k.lane x) (has (lanes_in ms) x) h)

-- ---- what a change sees

pub seen_long : (ms : List Moved) (ws : List ℕ) → length (seen_through ms ws) ≡ length ws
unfolding seen_through
seen_long ms ws = length-table (λ x. get_or ws (if has (buses_in ms) x then place_in ms x else x) 0) (length ws)

seen_at : (ms : List Moved) (ws : List ℕ) (x : ℕ) → x < length ws → get_or (seen_through ms ws) x 0 ≡ get_or ws (if has (buses_in ms) x then place_in ms x else x) 0
unfolding seen_through
seen_at ms ws x lt = get_or-table (λ y. get_or ws (if has (buses_in ms) y then place_in ms y else y) 0) (length ws) x lt

-- of a bus it sees the lane
pub seen_bus : (ms : List Moved) (m : Moved) (ws : List ℕ) (x : ℕ) → are_moves (length ws) ms ≡ true → IsAmong ms m → covers m.bus x ≡ true → x < length ws → get_or (seen_through ms ws) x 0 ≡ get_or ws (m.lane.at + (x - m.bus.at)) 0
seen_bus ms m ws x are a c lt =
    seen_at ms ws x lt
    ∙ ap (λ y. get_or ws y 0) (cond-true (has (buses_in ms) x) (place_in ms x) x (bus_among ms m x a c) ∙ in_lane (length ws) ms m x are a c)

-- all else it sees as it is
pub seen_else : (ms : List Moved) (ws : List ℕ) (x : ℕ) → has (buses_in ms) x ≡ false → get_or (seen_through ms ws) x 0 ≡ get_or ws x 0
seen_else ms ws x off = ⊎_elim
    (λ (lt : x < length ws). seen_at ms ws x lt ∙ ap (λ y. get_or ws y 0) (cond-false (has (buses_in ms) x) (place_in ms x) x off))
    (λ (ge : length ws ≤ x). get_or_past (seen_through ms ws) x 0 (omega (arith, ge, seen_long ms ws)) ∙ sym (get_or_past ws x 0 ge))
    (cases_lt x (length ws))

-- ---- what is made

pub laid_long : (ms : List Moved) (us ws : List ℕ) → length (laid ms us ws) ≡ length ws
unfolding laid
laid_long ms us ws = length-table (λ x. if has (buses_in ms) x then get_or ws x 0 else if has (lanes_in ms) x then get_or us (place_in ms x) 0 else get_or us x 0) (length ws)

laid_at : (ms : List Moved) (us ws : List ℕ) (x : ℕ) → x < length ws → get_or (laid ms us ws) x 0 ≡ (if has (buses_in ms) x then get_or ws x 0 else if has (lanes_in ms) x then get_or us (place_in ms x) 0 else get_or us x 0)
unfolding laid
laid_at ms us ws x lt = get_or-table (λ y. if has (buses_in ms) y then get_or ws y 0 else if has (lanes_in ms) y then get_or us (place_in ms y) 0 else get_or us y 0) (length ws) x lt

pub laid_bus : (ms : List Moved) (us ws : List ℕ) (x : ℕ) → has (buses_in ms) x ≡ true → get_or (laid ms us ws) x 0 ≡ get_or ws x 0
laid_bus ms us ws x on = ⊎_elim
    (λ (lt : x < length ws). laid_at ms us ws x lt ∙ cond-true (has (buses_in ms) x) (get_or ws x 0) (if has (lanes_in ms) x then get_or us (place_in ms x) 0 else get_or us x 0) on)
    (λ (ge : length ws ≤ x). get_or_past (laid ms us ws) x 0 (omega (arith, ge, laid_long ms us ws)) ∙ sym (get_or_past ws x 0 ge))
    (cases_lt x (length ws))

pub laid_lane : (ms : List Moved) (m : Moved) (us ws : List ℕ) (x : ℕ) → are_moves (length ws) ms ≡ true → IsAmong ms m → covers m.lane x ≡ true → x < length ws → get_or (laid ms us ws) x 0 ≡ get_or us (m.bus.at + (x - m.lane.at)) 0
laid_lane ms m us ws x are a c lt =
    let on : has (lanes_in ms) x ≡ true = lane_among ms m x a c in
    laid_at ms us ws x lt
    ∙ cond-false (has (buses_in ms) x) (get_or ws x 0) (if has (lanes_in ms) x then get_or us (place_in ms x) 0 else get_or us x 0) (not_both_places (length ws) ms x are on)
    ∙ cond-true (has (lanes_in ms) x) (get_or us (place_in ms x) 0) (get_or us x 0) on
    ∙ ap (λ y. get_or us y 0) (in_bus (length ws) ms m x are a c)

pub laid_else : (ms : List Moved) (us ws : List ℕ) (x : ℕ) → length us ≡ length ws → has (buses_in ms) x ≡ false → has (lanes_in ms) x ≡ false → get_or (laid ms us ws) x 0 ≡ get_or us x 0
laid_else ms us ws x long off far = ⊎_elim
    (λ (lt : x < length ws).
    laid_at ms us ws x lt
    ∙ cond-false (has (buses_in ms) x) (get_or ws x 0) (if has (lanes_in ms) x then get_or us (place_in ms x) 0 else get_or us x 0) off
    ∙ cond-false (has (lanes_in ms) x) (get_or us (place_in ms x) 0) (get_or us x 0) far)
    (λ (ge : length ws ≤ x). get_or_past (laid ms us ws) x 0 (omega (arith, ge, laid_long ms us ws)) ∙ sym (get_or_past us x 0 (omega (arith, ge, long))))
    (cases_lt x (length ws))

-- a lane has 65 of the words
pub lane_inside : (size : ℕ) (ms : List Moved) (m : Moved) → are_moves size ms ≡ true → IsAmong ms m → (m.lane.len ≡ 65) × (m.lane.at + 65 ≤ size)
lane_inside size [] m are a = absurd a
lane_inside size (k ∷ ms) m are a =
    let is = first_move size k ms are in
    ⊎_elim
    (λ (e : k ≡ m). let w = whole_is size k.lane is.lane in subst (λ (l : Moved). (l.lane.len ≡ 65) × (l.lane.at + 65 ≤ size)) e (w.0, w.1.0))
    (λ (i : IsAmong ms m). lane_inside size ms m is.rest i)
    a
