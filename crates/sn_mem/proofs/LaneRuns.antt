-- Runs of words through lanes: those that stand in a row are loaded and stored in one piece.
use Rattle.std.proofs.Common.{◌≡◌, ◌<◌, ℕ, zero, suc, ◌+◌, true, List, [], ◌∷◌, ◌++◌, length, get_or, set, length-set, sym, refl, ap, ◌∙◌, subst, arith}
use Rattle.std.specs.List.{All}
use Rattle.sn_mem.specs.declared.extents.Extent.{Extent}
use Rattle.sn_mem.specs.declared.extents.Foot.{Foot}
use Rattle.sn_mem.specs.declared.moves.Moved.{Moved}
use Rattle.sn_mem.specs.Words.{MayRead, MayWrite, touches, writes}
use Rattle.sn_mem.specs.Blocks.{put, samples_at, window}
use Rattle.sn_mem.specs.Lanes.{HasRoom, StandInRow, are_moves, exchanged, foot_through, place_in}
use Rattle.sn_mem.specs.Through.{touched_through, written_through}
use Rattle.sn_mem.proofs.LaneWords.{exchanged_at, exchanged_set, rooms}
use Rattle.sn_mem.proofs.Windows.{samples_of_window}

-- ---- what may be read and written

-- if a word may be read or written, the moves have room
pub read_rooms : (ms : List Moved) (size : ℕ) (f : Foot) (at n : ℕ) → MayRead (foot_through ms size f) at n → 0 < n → All HasRoom ms
read_rooms ms size f at n may lt = rooms size ms (touched_through ms size f (at + 0) (may.each 0 lt)).1.0

pub write_rooms : (ms : List Moved) (size : ℕ) (f : Foot) (at n : ℕ) → MayWrite (foot_through ms size f) at n → 0 < n → All HasRoom ms
write_rooms ms size f at n may lt = rooms size ms (written_through ms size f (at + 0) (may.each 0 lt)).1.0

pub row_reads : (ms : List Moved) (size : ℕ) (f : Foot) (run : Extent) (place : ℕ) → StandInRow ms run place → MayRead (foot_through ms size f) run.at run.len → MayRead f place run.len
row_reads ms size f run place row may = record {
  below = row.below;
  each = λ i lt. subst (λ (x : ℕ). touches f x ≡ true) (row.each i lt) (touched_through ms size f (run.at + i) (may.each i lt)).1.1;
}

pub row_writes : (ms : List Moved) (size : ℕ) (f : Foot) (run : Extent) (place : ℕ) → StandInRow ms run place → MayWrite (foot_through ms size f) run.at run.len → MayWrite f place run.len
row_writes ms size f run place row may = record {
  below = row.below;
  each = λ i lt. subst (λ (x : ℕ). writes f x ≡ true) (row.each i lt) (written_through ms size f (run.at + i) (may.each i lt)).1.1;
}

-- ---- their words

row_words : (ms : List Moved) (ws : List ℕ) (at place n : ℕ) → ((i : ℕ) → i < n → place_in ms (at + i) ≡ place + i) → ((i : ℕ) → i < n → at + i < length ws) → window ws place n ≡ window (exchanged ms ws) at n
unfolding window
row_words ms ws at place zero row inside = refl
row_words ms ws at place (suc n) row inside =
    ap (λ (us : List ℕ). us ++ get_or ws (place + n) 0 ∷ []) (row_words ms ws at place n (λ i lt. row i (omega (arith, lt))) (λ i lt. inside i (omega (arith, lt))))
    ∙ ap (λ w. window (exchanged ms ws) at n ++ w ∷ []) (ap (λ x. get_or ws x 0) (sym (row n (omega arith))) ∙ sym (exchanged_at ms ws (at + n) (inside n (omega arith))))

next : (at i : ℕ) → at + (i + 1) ≡ at + 1 + i
next at i = omega arith

row_put : (ms : List Moved) (ws : List ℕ) (at place : ℕ) (xs : List ℕ) → ((i : ℕ) → i < length xs → place_in ms (at + i) ≡ place + i) → ((i : ℕ) → i < length xs → (at + i < length ws) × (are_moves (length ws) ms ≡ true)) → exchanged ms (put ws place xs) ≡ put (exchanged ms ws) at xs
unfolding put
row_put ms ws at place [] row inside = refl
row_put ms ws at place (x ∷ xs) row inside =
    let long : length (set ws place x) ≡ length ws = length-set ws place x in
    let first : at + 0 ≡ at = omega arith in
    let here : place_in ms at ≡ place = ap (place_in ms) (sym first) ∙ (row 0 (omega arith) ∙ omega arith) in
    let low : at < length ws = subst (λ n. n < length ws) first (inside 0 (omega arith)).0 in
    row_put ms (set ws place x) (at + 1) (place + 1) xs
    (λ i lt. ap (place_in ms) (sym (next at i)) ∙ (row (i + 1) (omega (arith, lt)) ∙ next place i))
    (λ i lt. let in-ws = inside (i + 1) (omega (arith, lt)) in (omega (arith, long, in-ws.0), ap (λ n. are_moves n ms) long ∙ in-ws.1))
    ∙ ap (λ (us : List ℕ). put us (at + 1) xs)
    (ap (λ p. exchanged ms (set ws p x)) (sym here) ∙ exchanged_set ms ws at x (inside 0 (omega arith)).1 low)

-- a run that is loaded in one piece is the view's
pub row_loaded : (ms : List Moved) (ws : List ℕ) (f : Foot) (run : Extent) (place : ℕ) → StandInRow ms run place → MayRead (foot_through ms (length ws) f) run.at run.len → window ws place run.len ≡ window (exchanged ms ws) run.at run.len
row_loaded ms ws f run place row may = row_words ms ws run.at place run.len row.each (λ i lt. (touched_through ms (length ws) f (run.at + i) (may.each i lt)).0)

pub row_samples : (ms : List Moved) (ws : List ℕ) (f : Foot) (at place : ℕ) → StandInRow ms (record { at = at; len = 64 }) place → MayRead (foot_through ms (length ws) f) at 64 → samples_at ws place ≡ samples_at (exchanged ms ws) at
row_samples ms ws f at place row may =
    let us : List ℕ = window ws place 64 in
    sym (samples_of_window us ws place refl) ∙ samples_of_window us (exchanged ms ws) at (row_loaded ms ws f (record { at = at; len = 64 }) place row may)

-- a run that is stored in one piece is stored in the view
pub row_stored : (ms : List Moved) (ws : List ℕ) (f : Foot) (run : Extent) (place : ℕ) (xs : List ℕ) → length xs ≡ run.len → StandInRow ms run place → MayWrite (foot_through ms (length ws) f) run.at run.len → exchanged ms (put ws place xs) ≡ put (exchanged ms ws) run.at xs
row_stored ms ws f run place xs long row may = row_put ms ws run.at place xs
    (λ i lt. row.each i (omega (arith, lt, long)))
    (λ i lt. let w = written_through ms (length ws) f (run.at + i) (may.each i (omega (arith, lt, long))) in (w.0, w.1.0))
