-- The words of the buses are copied one after the other.
use Rattle.std.proofs.Common.{◌≡◌, inl, inr, ⊎_elim, ℕ, ◌+◌, ◌*◌, ◌<◌, ◌≤◌, ◌==◌, Bool, true, cond, List, [], ◌∷◌, ◌++◌, length, get_or, set, take, sym, ap, subst, ◌∙◌, arith, append-nil, append_assoc}
use Rattle.std.specs.List.{All}
use Rattle.std.proofs.Math.Seq.{take-length}
use Rattle.std.proofs.lemmas.List.{take_more, length-take-le}
use Rattle.sn_mem.specs.declared.extents.Extent.{Extent}
use Rattle.sn_mem.specs.declared.extents.Foot.{Foot}
use Rattle.sn_mem.specs.Words.{MayRead, MayWrite, writes}
use Rattle.sn_mem.specs.Blocks.{put, table}
use Rattle.sn_mem.proofs.Steps.{put_none, put_more}
use Rattle.sn_mem.proofs.Tables.{length-table, table_more, table_none}
use Rattle.sn_mem.proofs.Windows.{apart_put, table_same}
use Rattle.sn_span.specs.Captures.{CanCapture, IsBeside, captured, heard_word, heard_words}
use Rattle.sn_span.proofs.Captured.{length-heard, word_same}

-- ---- one bus

-- a word of a bus is none of the words that were put beside it
kept : (ws : List ℕ) (e : Extent) (at n : ℕ) (xs : List ℕ) (x : ℕ) → e.len ≡ 65 → IsBeside e at n → length xs ≤ n → e.at ≤ x → x < e.at + 65 → get_or (put ws at xs) x 0 ≡ get_or ws x 0
kept ws e at n xs x long beside few low high = apart_put ws at x xs (⊎_elim
    (λ (l : e.at + e.len ≤ at). inl (omega (arith, l, long, high)))
    (λ (r : at + n ≤ e.at). inr (omega (arith, r, few, low)))
    beside)

pub capture_none : (b : ℕ) (ws : List ℕ) (e : Extent) (at : ℕ) → ws ≡ put ws at (table (heard_word b ws e) 0)
capture_none b ws e at = sym (ap (put ws at) (table_none (heard_word b ws e)) ∙ put_none ws at)

-- the next word of a bus
pub capture_step : (b : ℕ) (ws us vs : List ℕ) (e : Extent) (at frame word : ℕ) (written : Bool) → e.len ≡ 65 → IsBeside e at 64 → frame < 64 → us ≡ put ws at (table (heard_word b ws e) frame)
    → written ≡ (get_or ws e.at 0 == b + 1) → word ≡ cond written (get_or us (e.at + 1 + frame) 0) 0 → vs ≡ set us (at + frame) word → vs ≡ put ws at (table (heard_word b ws e) (frame + 1))
capture_step b ws us vs e at frame word written long beside low made tells is changed =
    let t : List ℕ = table (heard_word b ws e) frame in
    let size : length t ≡ frame = length-table (heard_word b ws e) frame in
    let was : get_or us (e.at + 1 + frame) 0 ≡ get_or ws (e.at + 1 + frame) 0 =
    ap (λ (us : List ℕ). get_or us (e.at + 1 + frame) 0) made ∙ kept ws e at 64 t (e.at + 1 + frame) long beside (omega (arith, size, low)) (omega arith) (omega (arith, low)) in
    let now : word ≡ heard_word b ws e frame = is ∙ (ap (λ (c : Bool). cond c (get_or us (e.at + 1 + frame) 0) 0) tells ∙ ap (λ w. cond (get_or ws e.at 0 == b + 1) w 0) was) in
    changed
    ∙ (ap (λ (us : List ℕ). set us (at + frame) word) made
    ∙ (ap (λ n. set (put ws at t) (at + n) word) (sym size)
    ∙ (sym (put_more ws at t word)
    ∙ (ap (λ w. put ws at (t ++ w ∷ [])) now
    ∙ ap (put ws at) (sym (table_more (heard_word b ws e) frame))))))

-- ---- one bus after the other

put_append : (ws : List ℕ) (at : ℕ) (xs ys : List ℕ) → put ws at (xs ++ ys) ≡ put (put ws at xs) (at + length xs) ys
unfolding put
put_append ws at [] ys = let e : at ≡ at + 0 = omega arith in ap (λ n. put ws n ys) e
put_append ws at (x ∷ xs) ys =
    let e : at + 1 + length xs ≡ at + length (x ∷ xs) = omega arith in
    put_append (set ws at x) (at + 1) xs ys ∙ ap (λ n. put (put (set ws at x) (at + 1) xs) n ys) e

heard_append : (b : ℕ) (ws : List ℕ) (es : List Extent) (e : Extent) → heard_words b ws (es ++ e ∷ []) ≡ heard_words b ws es ++ table (heard_word b ws e) 64
heard_append b ws [] e = append-nil (table (heard_word b ws e) 64)
heard_append b ws (d ∷ es) e =
    ap (λ (xs : List ℕ). table (heard_word b ws d) 64 ++ xs) (heard_append b ws es e)
    ∙ sym (append_assoc (table (heard_word b ws d) 64) (heard_words b ws es) (table (heard_word b ws e) 64))

pub captured_none : (b : ℕ) (ws : List ℕ) (es : List Extent) (at : ℕ) → ws ≡ put ws at (heard_words b ws (take 0 es))
captured_none b ws es at = sym (put_none ws at)

pub captured_more : (b : ℕ) (ws us vs : List ℕ) (es : List Extent) (at k : ℕ) (d : Extent) → k < length es → All (λ e. e.len ≡ 65) es → All (λ e. IsBeside e at (64 * length es)) es
    → us ≡ put ws at (heard_words b ws (take k es)) → vs ≡ put us (at + 64 * k) (table (heard_word b us (get_or es k d)) 64) → vs ≡ put ws at (heard_words b ws (take (k + 1) es))
captured_more b ws us vs es at k d l longs besides made put_there =
    let e : Extent = get_or es k d in
    let long : e.len ≡ 65 = longs k d l in
    let beside : IsBeside e at (64 * length es) = besides k d l in
    let words : List ℕ = heard_words b ws (take k es) in
    let size : length words ≡ 64 * k = length-heard b ws (take k es) ∙ ap (λ n. 64 * n) (length-take-le k es (omega (arith, l))) in
    let same : (x : ℕ) → e.at ≤ x → x < e.at + 65 → get_or us x 0 ≡ get_or ws x 0 = λ x low high.
    ap (λ (us : List ℕ). get_or us x 0) made ∙ kept ws e at (64 * length es) words x long beside (omega (arith, size, l)) low high in
    let one : table (heard_word b us e) 64 ≡ table (heard_word b ws e) 64 =
    table_same (heard_word b us e) (heard_word b ws e) 64 (λ i m. word_same b us ws e i (same e.at (omega arith) (omega arith)) (same (e.at + 1 + i) (omega arith) (omega (arith, m)))) in
    put_there
    ∙ (ap (λ (xs : List ℕ). put us (at + 64 * k) xs) one
    ∙ (ap (λ (us : List ℕ). put us (at + 64 * k) (table (heard_word b ws e) 64)) made
    ∙ (ap (λ n. put (put ws at words) (at + n) (table (heard_word b ws e) 64)) (sym size)
    ∙ (sym (put_append ws at words (table (heard_word b ws e) 64))
    ∙ (ap (put ws at) (sym (heard_append b ws (take k es) e))
    ∙ ap (λ (xs : List Extent). put ws at (heard_words b ws xs)) (sym (take_more es k d l)))))))

pub captured_all : (b : ℕ) (ws us : List ℕ) (es : List Extent) (at k : ℕ) → k ≡ length es → us ≡ put ws at (heard_words b ws (take k es)) → us ≡ captured es at b ws
captured_all b ws us es at k whole made = made ∙ (ap (λ n. put ws at (heard_words b ws (take n es))) whole ∙ ap (λ (xs : List Extent). put ws at (heard_words b ws xs)) (take-length es))

-- ---- what the foot has for each

pub reads_bus : (f g : Foot) (es : List Extent) (at k : ℕ) (d : Extent) → g ≡ f → CanCapture f es at → k < length es → MayRead g (get_or es k d).at 65
reads_bus f g es at k d same can l = subst (λ (h : Foot). MayRead h (get_or es k d).at 65) (sym same) (can.reads k d l)

pub writes_bus : (f g : Foot) (es : List Extent) (at k : ℕ) → g ≡ f → CanCapture f es at → k < length es → MayWrite g (at + 64 * k) 64
writes_bus f g es at k same can l = record {
  below = omega (arith, can.writes.below, l);
  each = λ i m.
      let place : at + (64 * k + i) ≡ at + 64 * k + i = omega arith in
      subst (λ (h : Foot). writes h (at + 64 * k + i) ≡ true) (sym same) (subst (λ x. writes f x ≡ true) place (can.writes.each (64 * k + i) (omega (arith, l, m))));
}

pub beside_bus : (f : Foot) (es : List Extent) (at k : ℕ) (d : Extent) → CanCapture f es at → k < length es → IsBeside (get_or es k d) (at + 64 * k) 64
beside_bus f es at k d can l = ⊎_elim
    (λ (b : (get_or es k d).at + (get_or es k d).len ≤ at). inl (omega (arith, b)))
    (λ (a : at + 64 * length es ≤ (get_or es k d).at). inr (omega (arith, a, l)))
    (can.beside k d l)
