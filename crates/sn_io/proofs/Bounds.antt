-- The frames and the points that a unit gives lie in its buffer.
use Rattle.std.proofs.Common.{◌≡◌, ◌≢◌, ◌<◌, ⊎_elim, true≢false, ℕ, zero, suc, ◌+◌, ◌*◌, ◌/◌, ◌==◌, Bool, true, false, ◌&&◌, nat_lt, cond, List, [], ◌∷◌, ◌++◌, ℤ, pos, negsuc, Option, Some, None, get_or, refl, sym, subst, ◌∙◌, arith}
use Rattle.std.specs.Prelude.{IfSome, int_lt}
use Rattle.std.proofs.lemmas.Bool.{cases_eq, eq-eqb, ltb-true}
use Rattle.std.proofs.lemmas.Nat.{div_below}
use Rattle.sn_mem.specs.Blocks.{table, sample}
use Rattle.sn_io.specs.declared.recording.Recording.{Recording}
use Rattle.sn_io.specs.Positions.{frame_at, walk, playing_in, play_buf, recording_in, record_buf, indexed}
use Rattle.sn_io.specs.BufferUnits.{play_frames, record_frames}
use Rattle.sn_io.specs.Conditions.{AreWithin, LiesWithin, AreBetween}
use Rattle.sn_io.specs.declared.between.Point.{Point}
use Rattle.sn_io.specs.Between.{point_of, point_at, scaled_point, scaled_points, placed_in, play_buf_l, play_points}

abbrev Below : ℕ → Option ℕ → Type 0
Below n o = IfSome o (λ i. i < n)

pick_below : (n m : ℕ) (b : Bool) → b ≡ nat_lt m n → Below n (cond b (Some m) None)
pick_below n m true e = ltb-true m n (sym e)
pick_below n m false e = tt

frame_below : (n : ℕ) (x : ℤ) → Below n (frame_at n x)
frame_below n (pos m) = pick_below n m (nat_lt m n) refl
frame_below n (negsuc m) = tt

both_below : (n m : ℕ) (a b : Bool) → b ≡ nat_lt m n → Below n (cond (a && b) (Some m) None)
both_below n m true true e = ltb-true m n (sym e)
both_below n m true false e = tt
both_below n m false b e = tt

push_some : {A : Type 0} (P : A → Type 0) (xs : List (Option A)) (o : Option A) → ((k : ℕ) → IfSome (get_or xs k None) P) → IfSome o P → (k : ℕ) → IfSome (get_or (xs ++ o ∷ []) k None) P
push_some P [] o all last zero = last
push_some P [] o all last (suc k) = tt
push_some P (x ∷ xs) o all last zero = all zero
push_some P (x ∷ xs) o all last (suc k) = push_some P xs o (λ j. all (suc j)) last k

table_some : {A : Type 0} (P : A → Type 0) (f : ℕ → Option A) (m : ℕ) → ((k : ℕ) → IfSome (f k) P) → (k : ℕ) → IfSome (get_or (table f m) k None) P
unfolding table
table_some P f zero all k = tt
table_some P f (suc m) all k = push_some P (table f m) (f m) (table_some P f m all) (all m) k

walk_some : {S A : Type 0} (P : A → Type 0) (step : S → List (List ℤ) → ℕ → S × Option A) (s : S) (inputs : List (List ℤ)) (m : ℕ) → ((s : S) (k : ℕ) → IfSome (step s inputs k).1 P) → (k : ℕ) → IfSome (get_or (walk step s inputs m).1 k None) P
unfolding walk
walk_some P step s inputs zero all k = tt
walk_some P step s inputs (suc m) all k = push_some P (walk step s inputs m).1 (step (walk step s inputs m).0 inputs m).1 (walk_some P step s inputs m all) (all (walk step s inputs m).0 m) k

-- ---- by kinds

indexed_below : (o : Option ℕ) (inputs : List (List ℤ)) → AreWithin o (indexed o inputs)
indexed_below None inputs = tt
indexed_below (Some n) inputs = table_some (λ i. i < n) (λ k. frame_at n (sample inputs 1 k)) 64 (λ k. frame_below n (sample inputs 1 k))

play_below : (o : Option ℕ) (state : List ℕ) (inputs : List (List ℤ)) → AreWithin o (play_frames o state inputs).1
play_below None state inputs = tt
play_below (Some n) state inputs = walk_some (λ i. i < n) (play_buf (Some n)) (playing_in state) inputs 64 (λ s k. frame_below n _)

record_below : (o : Option ℕ) (state : List ℕ) (inputs : List (List ℤ)) → AreWithin o (record_frames o state inputs).1
record_below None state inputs = tt
record_below (Some n) state inputs = walk_some (λ i. i < n) (record_buf (Some n)) (recording_in state) inputs 64 (λ (s : Recording) k. both_below n s.position (int_lt (pos 0) (sample inputs 1 k)) (nat_lt s.position n) refl)

-- ---- points

next_below : (last loops : Bool) (q n : ℕ) → last ≡ (q + 1 == n) → q < n → cond last (cond loops 0 q) (q + 1) < n
next_below true true q n e lt = omega (arith, lt)
next_below true false q n e lt = lt
next_below false loops q n e lt = ⊎_elim (λ (h : q + 1 ≡ n). absurd (true≢false (sym (eq-eqb (q + 1) n h) ∙ sym e))) (λ (h : q + 1 ≢ n). omega (arith, lt, h)) (cases_eq (q + 1) n)

within_at : (n m : ℕ) (loop : ℤ) → m < n * 16777216 → LiesWithin n (point_of n loop m)
within_at n m loop lt =
    let q : m / 16777216 < n = div_below m 16777216 n (omega arith) lt in record {
      frame = q;
      next = next_below (m / 16777216 + 1 == n) (int_lt (pos 0) loop) (m / 16777216) n refl q;
      part = omega arith;
    }

pick_within : (n m : ℕ) (loop : ℤ) (b : Bool) → b ≡ nat_lt m (n * 16777216) → IfSome (cond b (Some (point_of n loop m)) None) (LiesWithin n)
pick_within n m loop true e = within_at n m loop (ltb-true m (n * 16777216) (sym e))
pick_within n m loop false e = tt

point_within : (n : ℕ) (loop x : ℤ) → IfSome (point_at n loop x) (LiesWithin n)
point_within n loop (pos m) = pick_within n m loop (nat_lt m (n * 16777216)) refl
point_within n loop (negsuc m) = tt

scaled_between : (o : Option ℕ) (inputs : List (List ℤ)) → AreBetween o (scaled_points o inputs)
scaled_between None inputs = tt
scaled_between (Some n) inputs = table_some (LiesWithin n) (λ k. scaled_point (Some n) (sample inputs 1 k) (sample inputs 2 k) (sample inputs 3 k)) 64 (λ k. point_within n (sample inputs 3 k) _)

placing_between : (o : Option ℕ) (state : List ℕ) (inputs : List (List ℤ)) → AreBetween o (play_points o state inputs).1
placing_between None state inputs = tt
placing_between (Some n) state inputs = walk_some (LiesWithin n) (play_buf_l (Some n)) (placed_in state) inputs 64 (λ s k. point_within n (sample inputs 4 k) _)

-- ---- the same of what is equal

pub scaled_within : (o o' : Option ℕ) (inputs : List (List ℤ)) (os : List (Option Point)) → o' ≡ o → os ≡ scaled_points o' inputs → AreBetween o os
scaled_within o o' inputs os e f =
    let P : List (Option Point) → Type 0 = λ (os : List (Option Point)). AreBetween o os in
    let Q : Option ℕ → Type 0 = λ (o : Option ℕ). AreBetween o (scaled_points o' inputs) in
    subst P (sym f) (subst Q e (scaled_between o' inputs))

pub placing_within : (o o' : Option ℕ) (state : List ℕ) (inputs : List (List ℤ)) (os : List (Option Point)) → o' ≡ o → os ≡ (play_points o' state inputs).1 → AreBetween o os
placing_within o o' state inputs os e f =
    let P : List (Option Point) → Type 0 = λ (os : List (Option Point)). AreBetween o os in
    let Q : Option ℕ → Type 0 = λ (o : Option ℕ). AreBetween o (play_points o' state inputs).1 in
    subst P (sym f) (subst Q e (placing_between o' state inputs))

pub indexed_within : (o o' : Option ℕ) (inputs : List (List ℤ)) (os : List (Option ℕ)) → o' ≡ o → os ≡ indexed o' inputs → AreWithin o os
indexed_within o o' inputs os e f =
    let P : List (Option ℕ) → Type 0 = λ (os : List (Option ℕ)). AreWithin o os in
    let Q : Option ℕ → Type 0 = λ (o : Option ℕ). AreWithin o (indexed o' inputs) in
    subst P (sym f) (subst Q e (indexed_below o' inputs))

pub play_within : (o o' : Option ℕ) (state : List ℕ) (inputs : List (List ℤ)) (os : List (Option ℕ)) → o' ≡ o → os ≡ (play_frames o' state inputs).1 → AreWithin o os
play_within o o' state inputs os e f =
    let P : List (Option ℕ) → Type 0 = λ (os : List (Option ℕ)). AreWithin o os in
    let Q : Option ℕ → Type 0 = λ (o : Option ℕ). AreWithin o (play_frames o' state inputs).1 in
    subst P (sym f) (subst Q e (play_below o' state inputs))

pub record_within : (o o' : Option ℕ) (state : List ℕ) (inputs : List (List ℤ)) (os : List (Option ℕ)) → o' ≡ o → os ≡ (record_frames o' state inputs).1 → AreWithin o os
record_within o o' state inputs os e f =
    let P : List (Option ℕ) → Type 0 = λ (os : List (Option ℕ)). AreWithin o os in
    let Q : Option ℕ → Type 0 = λ (o : Option ℕ). AreWithin o (record_frames o' state inputs).1 in
    subst P (sym f) (subst Q e (record_below o' state inputs))
