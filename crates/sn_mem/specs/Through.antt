-- Which words a foot through lanes has.
use Rattle.std.specs.Prelude.{◌≡◌, ℕ, zero, suc, ◌+◌, ◌<◌, Bool, true, false, not, ◌&&◌, ◌||◌, nat_le, nat_lt, if◌then◌else◌, List, [], ◌∷◌, ◌++◌, length, slice_index}
use Rattle.std.proofs.Common.{sym, refl, ap, ◌∙◌, ⊎_elim, true≢false, arith, ◌≤◌}
use Rattle.std.proofs.lemmas.Bool.{and_from, and_parts, cases_lt, le-leb, leb-true, lt-ltb, ltb-true, or_cases, or_left, or_right}
use Rattle.std.proofs.Math.Bool.{or_assoc}
use Rattle.sn_mem.specs.declared.extents.Extent.{Extent}
use Rattle.sn_mem.specs.declared.extents.Foot.{Foot}
use Rattle.sn_mem.specs.declared.moves.Moved.{Moved}
use Rattle.sn_mem.specs.Words.{covers, has, touches, writes}
use Rattle.sn_mem.specs.Lanes.{are_moves, exchanged, foot_through, is_through, lanes_in, place_in, words_where}
use Rattle.sn_mem.specs.Seen.{length-table}

pub has_both : (es fs : List Extent) (x : ℕ) → has (es ++ fs) x ≡ (has es x || has fs x)
has_both [] fs x = refl
has_both (e ∷ es) fs x = ap (λ b. covers e x || b) (has_both es fs x) ∙ sym (or_assoc (covers e x) (has es x) (has fs x))

one_word : (b : Bool) (n x : ℕ) → has (if b then record { at = n; len = 1 } ∷ [] else []) x ≡ true → (b ≡ true) × (x ≡ n)
one_word false n x h = absurd (true≢false (sym h))
one_word true n x h = ⊎_elim
    (λ (c : covers (record { at = n; len = 1 }) x ≡ true).
    let p = and_parts (nat_le n x) (nat_lt x (n + 1)) c in
    (refl, omega (arith, leb-true n x p.0, ltb-true x (n + 1) p.1)))
    (λ (c : false ≡ true). absurd (true≢false (sym c)))
    (or_cases (covers (record { at = n; len = 1 }) x) false h)

has_last : (b : Bool) (n x : ℕ) → x ≡ n → b ≡ true → has (if b then record { at = n; len = 1 } ∷ [] else []) x ≡ true
has_last false n x e h = absurd (true≢false (sym h))
has_last true n x e h = or_left (covers (record { at = n; len = 1 }) x) false (and_from (nat_le n x) (nat_lt x (n + 1)) (le-leb n x (omega (arith, e))) (lt-ltb x (n + 1) (omega (arith, e))))

-- such a word is below the number, and the test holds of it
pub where_is : (test : ℕ → Bool) (n x : ℕ) → has (words_where test n) x ≡ true → (x < n) × (test x ≡ true)
unfolding words_where
where_is test zero x h = absurd (true≢false (sym h))
where_is test (suc n) x h =
    let last : List Extent = if test n then record { at = n; len = 1 } ∷ [] else [] in
    ⊎_elim
    (λ (a : has (words_where test n) x ≡ true). let p = where_is test n x a in (omega (arith, p.0), p.1))
    (λ (a : has last x ≡ true). let p = one_word (test n) n x a in (omega (arith, p.1), ap test p.1 ∙ p.0))
    (or_cases (has (words_where test n) x) (has last x) (sym (has_both (words_where test n) last x) ∙ h))

-- and such words are there
pub is_where : (test : ℕ → Bool) (n x : ℕ) → x < n → test x ≡ true → has (words_where test n) x ≡ true
unfolding words_where
is_where test zero x lt h = absurd (omega arith)
is_where test (suc n) x lt h =
    let last : List Extent = if test n then record { at = n; len = 1 } ∷ [] else [] in
    has_both (words_where test n) last x
    ∙ ⊎_elim
    (λ (l : x < n). or_left (has (words_where test n) x) (has last x) (is_where test n x l h))
    (λ (g : n ≤ x). let e : x ≡ n = omega (arith, lt, g) in or_right (has (words_where test n) x) (has last x) (has_last (test n) n x e (ap test (sym e) ∙ h)))
    (cases_lt x n)

-- a word that such a foot may write has a place that the port's foot may write, and they are moves
pub written_through : (ms : List Moved) (size : ℕ) (f : Foot) (x : ℕ) → writes (foot_through ms size f) x ≡ true → (x < size) × ((are_moves size ms ≡ true) × (writes f (place_in ms x) ≡ true))
written_through ms size f x h =
    let p = where_is (is_through ms size f.writes) size x h in
    let seen : Bool = not (has (lanes_in ms) x) in
    let q = and_parts (are_moves size ms) (seen && has f.writes (place_in ms x)) p.1 in
    (p.0, (q.0, (and_parts seen (has f.writes (place_in ms x)) q.1).1))

-- a word that such a foot touches has a place that the port's foot touches, and they are moves
pub touched_through : (ms : List Moved) (size : ℕ) (f : Foot) (x : ℕ) → touches (foot_through ms size f) x ≡ true → (x < size) × ((are_moves size ms ≡ true) × (touches f (place_in ms x) ≡ true))
touched_through ms size f x t = ⊎_elim
    (λ (h : has (words_where (is_through ms size f.writes) size) x ≡ true).
    let p = where_is (is_through ms size f.writes) size x h in
    let seen : Bool = not (has (lanes_in ms) x) in
    let q = and_parts (are_moves size ms) (seen && has f.writes (place_in ms x)) p.1 in
    (p.0, (q.0, or_left (has f.writes (place_in ms x)) (has f.reads (place_in ms x)) (and_parts seen (has f.writes (place_in ms x)) q.1).1)))
    (λ (h : has (words_where (is_through ms size f.reads) size) x ≡ true).
    let p = where_is (is_through ms size f.reads) size x h in
    let seen : Bool = not (has (lanes_in ms) x) in
    let q = and_parts (are_moves size ms) (seen && has f.reads (place_in ms x)) p.1 in
    (p.0, (q.0, or_right (has f.writes (place_in ms x)) (has f.reads (place_in ms x)) (and_parts seen (has f.reads (place_in ms x)) q.1).1)))
    (or_cases (has (words_where (is_through ms size f.writes) size) x) (has (words_where (is_through ms size f.reads) size) x) t)

pub through_inside : (ms : List Moved) (ws : List ℕ) (f : Foot) (x : ℕ) → touches (foot_through ms (length ws) f) x ≡ true → x < length (exchanged ms ws)
unfolding exchanged
through_inside ms ws f x t = omega (arith, (touched_through ms (length ws) f x t).0, length-table (λ (y : ℕ). slice_index ws (place_in ms y)) (length ws))
