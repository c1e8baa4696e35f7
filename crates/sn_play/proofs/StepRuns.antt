-- The synths of a job run one after the other, each through its lanes.
use Rattle.std.proofs.Common.{◌≡◌, ◌<◌, ⊎_elim, true, false, ℕ, zero, suc, ◌+◌, List, [], ◌∷◌, ◌++◌, ℤ, length, get_or, take, refl, ap, sym, ◌∙◌, arith}
use Rattle.std.proofs.lemmas.Bool.{cases_Bool, cond-false, cond-true}
use Rattle.std.proofs.lemmas.List.{ext_get_or}
use Rattle.sn_mem.specs.declared.extents.Foot.{Foot}
use Rattle.sn_mem.specs.declared.moves.Moved.{Moved}
use Rattle.sn_mem.specs.Lanes.{are_moves, laid, seen_through, through, through_if}
use Rattle.sn_mem.proofs.LaneChanges.{laid_else, laid_long, seen_else, seen_long}
use Rattle.sn_world.specs.declared.stage.Stage.{Stage}
use Rattle.sn_graph.specs.Plans.{Step, renders, runs_of}
use Rattle.sn_play.specs.Named.{words_by_ids}
use Rattle.sn_play.specs.Steps.{CanMove, CanMoveAll, lane_step}

-- one synth more
pub runs_more : (nodes : List ℤ) (moves : List (List Moved)) (i : ℕ) (d : ℤ) → i < length nodes → runs_of (take (i + 1) nodes) moves ≡ runs_of (take i nodes) moves ++ renders (get_or nodes i d) (get_or moves i []) ∷ []
runs_more [] moves i d lt = absurd (omega (arith, lt))
runs_more (a ∷ nodes) [] zero d lt = refl
runs_more (a ∷ nodes) (ms ∷ moves) zero d lt = refl
runs_more (a ∷ nodes) [] (suc i) d lt = let e : suc i + 1 ≡ suc (i + 1) = omega arith in ap (λ (k : ℕ). runs_of (take k (a ∷ nodes)) []) e ∙ ap (λ (steps : List Step). renders a [] ∷ steps) (runs_more nodes [] i d (omega (arith, lt)))
runs_more (a ∷ nodes) (ms ∷ moves) (suc i) d lt = let e : suc i + 1 ≡ suc (i + 1) = omega arith in ap (λ (k : ℕ). runs_of (take k (a ∷ nodes)) (ms ∷ moves)) e ∙ ap (λ (steps : List Step). renders a ms ∷ steps) (runs_more nodes moves i d (omega (arith, lt)))

pub can_at : (stage : Stage) (b : ℕ) (nodes : List ℤ) (moves : List (List Moved)) (f : Foot) (size : ℕ) (i : ℕ) (d : ℤ) → CanMoveAll stage b nodes moves f size → i < length nodes → CanMove stage b (get_or nodes i d) (get_or moves i []) f size
can_at stage b [] moves f size i d h lt = absurd (omega (arith, lt))
can_at stage b (a ∷ nodes) [] f size zero d h lt = h.0
can_at stage b (a ∷ nodes) (ms ∷ moves) f size zero d h lt = h.0
can_at stage b (a ∷ nodes) [] f size (suc i) d h lt = can_at stage b nodes [] f size i d h.1 (omega (arith, lt))
can_at stage b (a ∷ nodes) (ms ∷ moves) f size (suc i) d h lt = can_at stage b nodes moves f size i d h.1 (omega (arith, lt))

-- ---- changes through lanes

-- as many words as before
pub through_long : (ms : List Moved) (change : List ℕ → List ℕ) (ws : List ℕ) → length (through_if ms change ws) ≡ length ws
through_long ms change ws = ⊎_elim
    (λ (h : are_moves (length ws) ms ≡ true). ap (λ (us : List ℕ). length us) (cond-true (are_moves (length ws) ms) (through ms change ws) ws h) ∙ laid_long ms (change (seen_through ms ws)) ws)
    (λ (h : are_moves (length ws) ms ≡ false). ap (λ (us : List ℕ). length us) (cond-false (are_moves (length ws) ms) (through ms change ws) ws h))
    (cases_Bool (are_moves (length ws) ms))

-- if nothing is moved, they are changed as they are
seen_none : (ws : List ℕ) → seen_through [] ws ≡ ws
seen_none ws = ext_get_or 0 (seen_through [] ws) ws (seen_long [] ws) (λ x lt. seen_else [] ws x refl)

pub through_none : (change : List ℕ → List ℕ) (ws : List ℕ) → length (change ws) ≡ length ws → through_if [] change ws ≡ change ws
through_none change ws long =
    let us : List ℕ = change ws in
    ap (λ (vs : List ℕ). laid [] (change vs) ws) (seen_none ws)
    ∙ ext_get_or 0 (laid [] us ws) us (laid_long [] us ws ∙ sym long) (λ x lt. laid_else [] us ws x long refl refl)

-- ---- a step

pub step_long : (stage : Stage) (b : ℕ) (a : ℤ) (ms : List Moved) (ws : List ℕ) → length (lane_step stage b (renders a ms) ws) ≡ length ws
step_long stage b a ms ws = through_long ms (words_by_ids stage b (a ∷ [])) ws
