-- Windows and tables, item by item: where a run of words was put, and where not.
use Rattle.std.proofs.Common.{◌≡◌, ◌≢◌, ◌≤◌, ◌<◌, ◌⊎◌, ℕ, zero, suc, ◌+◌, List, [], ◌∷◌, ◌++◌, ℤ, pos, length, replicate, get_or, set, refl, ap, sym, ◌∙◌, ⊎_elim, arith, length-set, get_or-set_same, get_or-set_other}
use Rattle.std.proofs.lemmas.Bool.{cases_eq}
use Rattle.std.proofs.lemmas.List.{ext_get_or, get_or_append_left, get_or_push}
use Rattle.sn_mem.specs.Blocks.{put, window, table, word_for, sample_in, samples_at, sample_words}
use Rattle.sn_mem.proofs.Steps.{length-put, length-window, put_more}
use Rattle.sn_mem.proofs.Tables.{length-table, past_put, table_more}
use Rattle.sn_mem.proofs.Puts.{before_put, in_put}

-- ---- tables

pub table_at : {A : Type 0} (f : ℕ → A) (n k : ℕ) (d : A) → k < n → get_or (table f n) k d ≡ f k
unfolding table
table_at f zero k d lt = absurd (omega arith)
table_at f (suc n) k d lt = ⊎_elim
    (λ (e : k ≡ n). get_or_push (table f n) (f n) d k (length-table f n ∙ sym e) ∙ ap f (sym e))
    (λ (ne : k ≢ n). get_or_append_left (table f n) (f n ∷ []) d k (omega (arith, length-table f n, ne)) ∙ table_at f n k d (omega (arith, ne)))
    (cases_eq k n)

pub table_same : {A : Type 0} (f g : ℕ → A) (n : ℕ) → ((k : ℕ) → k < n → f k ≡ g k) → table f n ≡ table g n
unfolding table
table_same f g zero h = refl
table_same {A} f g (suc n) h = ap (λ (xs : List A). xs ++ f n ∷ []) (table_same f g n (λ k lt. h k (omega (arith, lt)))) ∙ ap (λ (x : A). table g n ++ x ∷ []) (h n (omega arith))

-- a table with one item changed
pub table_set : {A : Type 0} (f g : ℕ → A) (n i : ℕ) (d : A) → i < n → ((k : ℕ) → k < n → k ≢ i → f k ≡ g k) → table f n ≡ set (table g n) i (f i)
table_set f g n i d low h = ext_get_or d (table f n) (set (table g n) i (f i)) (length-table f n ∙ sym (length-set (table g n) i (f i) ∙ length-table g n))
    (λ k lt. let l : k < n = omega (arith, lt, length-table f n) in table_at f n k d l ∙ ⊎_elim
    (λ (e : k ≡ i). ap f e ∙ (sym (get_or-set_same (table g n) i (f i) d (omega (arith, length-table g n, low))) ∙ ap (λ m. get_or (set (table g n) i (f i)) m d) (sym e)))
    (λ (ne : k ≢ i). h k l ne ∙ (sym (table_at g n k d l) ∙ sym (get_or-set_other (table g n) i k (f i) d ne)))
    (cases_eq k i))

-- ---- windows

pub window_at : (ws : List ℕ) (at n k : ℕ) → k < n → get_or (window ws at n) k 0 ≡ get_or ws (at + k) 0
unfolding window
window_at ws at zero k lt = absurd (omega arith)
window_at ws at (suc n) k lt = ⊎_elim
    (λ (e : k ≡ n). get_or_push (window ws at n) (get_or ws (at + n) 0) 0 k (length-window ws at n ∙ sym e) ∙ ap (λ m. get_or ws (at + m) 0) (sym e))
    (λ (ne : k ≢ n). get_or_append_left (window ws at n) (get_or ws (at + n) 0 ∷ []) 0 k (omega (arith, length-window ws at n, ne)) ∙ window_at ws at n k (omega (arith, ne)))
    (cases_eq k n)

pub window_same : (us ws : List ℕ) (at n : ℕ) → ((k : ℕ) → k < n → get_or us (at + k) 0 ≡ get_or ws (at + k) 0) → window us at n ≡ window ws at n
unfolding window
window_same us ws at zero h = refl
window_same us ws at (suc n) h = ap (λ (xs : List ℕ). xs ++ get_or us (at + n) 0 ∷ []) (window_same us ws at n (λ k lt. h k (omega (arith, lt)))) ∙ ap (λ x. window ws at n ++ x ∷ []) (h n (omega arith))

-- a window of a window
pub window_window : (ws : List ℕ) (at len p n : ℕ) → p + n ≤ len → window (window ws at len) p n ≡ window ws (at + p) n
unfolding window
window_window ws at len p zero le = refl
window_window ws at len p (suc n) le =
    ap (λ (xs : List ℕ). xs ++ get_or (window ws at len) (p + n) 0 ∷ []) (window_window ws at len p n (omega arith))
    ∙ ap (λ x. window ws (at + p) n ++ x ∷ []) (window_at ws at len (p + n) (omega arith) ∙ ap (λ m. get_or ws m 0) (omega arith))

window_set : (ws : List ℕ) (at n p x : ℕ) → p < n → at + p < length ws → window (set ws (at + p) x) at n ≡ set (window ws at n) p x
window_set ws at n p x low inside = ext_get_or 0 (window (set ws (at + p) x) at n) (set (window ws at n) p x) (length-window (set ws (at + p) x) at n ∙ sym (length-set (window ws at n) p x ∙ length-window ws at n))
    (λ k lt. let l : k < n = omega (arith, lt, length-window (set ws (at + p) x) at n) in window_at (set ws (at + p) x) at n k l ∙ ⊎_elim
    (λ (e : k ≡ p). ap (λ m. get_or (set ws (at + p) x) (at + m) 0) e ∙ (get_or-set_same ws (at + p) x 0 inside ∙ (sym (get_or-set_same (window ws at n) p x 0 (omega (arith, length-window ws at n, low))) ∙ ap (λ m. get_or (set (window ws at n) p x) m 0) (sym e))))
    (λ (ne : k ≢ p). get_or-set_other ws (at + p) (at + k) x 0 (omega (arith, ne)) ∙ (sym (window_at ws at n k l) ∙ sym (get_or-set_other (window ws at n) p k x 0 ne)))
    (cases_eq k p))

-- a run put into a window
pub window_put : (ws : List ℕ) (at len p : ℕ) (xs : List ℕ) → p + length xs ≤ len → at + len ≤ length ws → window (put ws (at + p) xs) at len ≡ put (window ws at len) p xs
unfolding put
window_put ws at len p [] le inside = refl
window_put ws at len p (x ∷ xs) le inside =
    ap (λ m. window (put (set ws (at + p) x) m xs) at len) (omega arith)
    ∙ (window_put (set ws (at + p) x) at len (p + 1) xs (omega (arith, le)) (omega (arith, length-set ws (at + p) x, inside))
    ∙ ap (λ (vs : List ℕ). put vs (p + 1) xs) (window_set ws at len p x (omega (arith, le)) (omega (arith, le, inside))))

-- ---- what is apart from a run

pub apart_put : (ws : List ℕ) (at j : ℕ) (xs : List ℕ) → (j < at) ⊎ (at + length xs ≤ j) → get_or (put ws at xs) j 0 ≡ get_or ws j 0
apart_put ws at j xs apart = ⊎_elim (λ (l : j < at). before_put ws at j xs l) (λ (r : at + length xs ≤ j). past_put ws at j xs r) apart

-- ---- samples in words

-- the samples of words that were loaded, and of words that are seen alike
pub samples_of_window : (us ws : List ℕ) (at : ℕ) → us ≡ window ws at 64 → samples_at us 0 ≡ samples_at ws at
samples_of_window us ws at e = table_same (λ k. sample_in (get_or us (0 + k) 0)) (λ k. sample_in (get_or ws (at + k) 0)) 64
    (λ k lt. let here : 0 + k ≡ k = omega arith in ap (λ n. sample_in (get_or us n 0)) here ∙ ap sample_in (ap (λ (vs : List ℕ). get_or vs k 0) e ∙ window_at ws at 64 k lt))

pub samples_same : (us ws : List ℕ) (at : ℕ) → window us at 64 ≡ window ws at 64 → samples_at us at ≡ samples_at ws at
samples_same us ws at e = table_same (λ k. sample_in (get_or us (at + k) 0)) (λ k. sample_in (get_or ws (at + k) 0)) 64
    (λ k lt. ap sample_in (sym (window_at us at 64 k lt) ∙ (ap (λ (vs : List ℕ). get_or vs k 0) e ∙ window_at ws at 64 k lt)))

-- one more value of a table, put into words
pub put_table : (ws us : List ℕ) (at k w : ℕ) (f : ℕ → ℕ) → us ≡ put ws at (table f k) → w ≡ f k → set us (at + k) w ≡ put ws at (table f (k + 1))
put_table ws us at k w f e h = ap (λ (us : List ℕ). set us (at + k) w) e
    ∙ (ap (λ n. set (put ws at (table f k)) (at + n) w) (sym (length-table f k))
    ∙ (sym (put_more ws at (table f k) w) ∙ ap (put ws at) (ap (λ x. table f k ++ x ∷ []) h ∙ sym (table_more f k))))

-- words that all take the place of as many
put_all : (ws xs : List ℕ) → length ws ≡ length xs → put ws 0 xs ≡ xs
put_all ws xs e = ext_get_or 0 (put ws 0 xs) xs (length-put ws 0 xs ∙ e)
    (λ k lt.
    let low : k < length xs = omega (arith, lt, length-put ws 0 xs, e) in
    let here : k ≡ 0 + k = omega arith in
    ap (λ n. get_or (put ws 0 xs) n 0) here ∙ in_put ws 0 k xs low (omega (arith, e)))

pub samples_alone : (xs : List ℤ) → put (replicate 64 0) 0 (sample_words xs) ≡ sample_words xs
samples_alone xs = put_all (replicate 64 0) (sample_words xs) (sym (length-table (λ k. word_for (get_or xs k (pos 0))) 64))
