-- Reading as loops do.
use Rattle.std.proofs.Common.{◌≡◌, ℕ, zero, suc, ◌+◌, ◌*◌, ◌%◌, ◌<◌, ◌≤◌, min, true, false, cond, ◌==◌, List, [], ◌∷◌, ◌++◌, length, get_or, drop, Some, None, Err, refl, sym, ap, ◌∙◌, append_assoc, append-nil, arith, eq-eqb, ne_eqb, length-drop}
use Rattle.std.proofs.lemmas.List.{at_drop_more, at_drop_all}
use Rattle.sn_osc.specs.Shape.{Argument}
use Rattle.sn_score.specs.Fields.{hex_value, unhex, natural_after, is_closed, byte_at, bytes_at, argument_at, arguments_at}
use Rattle.sn_score.specs.Reached.{Reached, Read, after_line, at_end, and_then, lines_at}

-- ---- digits

pub natural_goes : (digits : List ℕ) (i n : ℕ) → i < length digits → natural_after n (drop i digits) ≡ natural_after (min (n * 10 + get_or digits i 0 % 16) 4294967295) (drop (i + 1) digits)
unfolding natural_after
natural_goes digits i n lt = at_drop_more (λ (ds : List ℕ). natural_after n ds) digits i 0 lt

pub natural_stops : (digits : List ℕ) (i n : ℕ) → length digits ≤ i → natural_after n (drop i digits) ≡ n
unfolding natural_after
natural_stops digits i n le = at_drop_all (λ (ds : List ℕ). natural_after n ds) digits i le

-- ---- hexadecimal

unhex_goes : (rest : List ℕ) → 2 ≤ length rest → unhex rest ≡ hex_value (get_or rest 0 0) (get_or rest 1 0) ∷ unhex (drop 2 rest)
unhex_goes [] long = absurd (omega (arith, long))
unhex_goes (high ∷ []) long = absurd (omega (arith, long))
unhex_goes (high ∷ low ∷ rest) long = refl

unhex_stops : (rest : List ℕ) → length rest < 2 → unhex rest ≡ []
unhex_stops [] few = refl
unhex_stops (high ∷ []) few = refl
unhex_stops (high ∷ low ∷ rest) few = absurd (omega (arith, few))

-- one byte more was read
pub unhex_more : (rest after : List ℕ) (b : ℕ) (before new total : List ℕ) → 2 ≤ length rest → b ≡ hex_value (get_or rest 0 0) (get_or rest 1 0) → after ≡ drop 2 rest → new ≡ before ++ b ∷ [] → before ++ unhex rest ≡ total → new ++ unhex after ≡ total
unhex_more rest after b before new total long byte more put so_far =
    ap (λ (t : List ℕ). t ++ unhex after) put ∙ append_assoc before (b ∷ []) (unhex after) ∙ ap (λ (k : ℕ). before ++ k ∷ unhex after) byte
    ∙ ap (λ (r : List ℕ). before ++ hex_value (get_or rest 0 0) (get_or rest 1 0) ∷ unhex r) more ∙ sym (ap (λ (t : List ℕ). before ++ t) (unhex_goes rest long)) ∙ so_far

pub unhex_done : (rest before total : List ℕ) → length rest < 2 → before ++ unhex rest ≡ total → before ≡ total
unhex_done rest before total few so_far = sym (append-nil before) ∙ sym (ap (λ (t : List ℕ). before ++ t) (unhex_stops rest few)) ∙ so_far

-- ---- quoted texts

pub not_over : (rest : List ℕ) → is_closed rest ≡ false → 0 < length rest
not_over [] h = absurd cc
not_over (b ∷ rest) h = omega arith

bytes_goes : (fuel n : ℕ) (rest : List ℕ) → fuel ≡ suc n → is_closed rest ≡ false → bytes_at fuel rest ≡ ((byte_at rest).0 ∷ (bytes_at n (byte_at rest).1).0, (bytes_at n (byte_at rest).1).1)
unfolding bytes_at
bytes_goes fuel n rest is goes = ap (λ k. bytes_at k rest) is ∙ rw goes refl

pub bytes_stop : (fuel : ℕ) (rest : List ℕ) → is_closed rest ≡ true → bytes_at fuel rest ≡ ([], drop 1 rest)
unfolding bytes_at
bytes_stop zero rest h = refl
bytes_stop (suc n) rest h = rw h refl

-- one byte more was read
pub bytes_more : (fuel n : ℕ) (rest after : List ℕ) (b : ℕ) (before new text left : List ℕ) → fuel ≡ suc n → is_closed rest ≡ false → b ≡ (byte_at rest).0 → after ≡ (byte_at rest).1 → new ≡ before ++ b ∷ []
    → before ++ (bytes_at fuel rest).0 ≡ text → (bytes_at fuel rest).1 ≡ left → (new ++ (bytes_at n after).0 ≡ text) × ((bytes_at n after).1 ≡ left)
bytes_more fuel n rest after b before new text left is goes byte more put so_far behind =
    let one = bytes_goes fuel n rest is goes in
    let others = (bytes_at n after).0 in (
      ap (λ (t : List ℕ). t ++ others) put ∙ append_assoc before (b ∷ []) others ∙ ap (λ (k : ℕ). before ++ k ∷ others) byte ∙ ap (λ (r : List ℕ). before ++ (byte_at rest).0 ∷ (bytes_at n r).0) more ∙ sym (ap (λ (p : List ℕ × List ℕ). before ++ p.0) one) ∙ so_far,
      ap (λ (r : List ℕ). (bytes_at n r).1) more ∙ sym (ap (λ (p : List ℕ × List ℕ). p.1) one) ∙ behind,
    )

-- the text has ended
pub bytes_done : (fuel : ℕ) (rest before text left : List ℕ) → is_closed rest ≡ true → before ++ (bytes_at fuel rest).0 ≡ text → (bytes_at fuel rest).1 ≡ left → (before ≡ text) × (drop 1 rest ≡ left)
bytes_done fuel rest before text left over so_far behind =
    let end = bytes_stop fuel rest over in
    (sym (append-nil before) ∙ sym (ap (λ (p : List ℕ × List ℕ). before ++ p.0) end) ∙ so_far, sym (ap (λ (p : List ℕ × List ℕ). p.1) end) ∙ behind)

-- ---- arguments

arguments_goes : (fuel n : ℕ) (rest : List ℕ) → fuel ≡ suc n → (length rest == 0) ≡ false → arguments_at fuel rest ≡ (argument_at (drop 1 rest)).0 ∷ arguments_at n (argument_at (drop 1 rest)).1
unfolding arguments_at
arguments_goes fuel n rest is goes = ap (λ k. arguments_at k rest) is ∙ rw goes refl

-- one argument more was read
pub arguments_more : (fuel n : ℕ) (rest after : List ℕ) (x : Argument) (before new total : List Argument) → fuel ≡ suc n → 0 < length rest → x ≡ (argument_at (drop 1 rest)).0 → after ≡ (argument_at (drop 1 rest)).1 → new ≡ before ++ x ∷ []
    → before ++ arguments_at fuel rest ≡ total → new ++ arguments_at n after ≡ total
arguments_more fuel n rest after x before new total is some first more put so_far =
    let goes : (length rest == 0) ≡ false = ne_eqb _ _ (λ e. omega (arith, e, some)) in
    let one = arguments_goes fuel n rest is goes in
    ap (λ (t : List Argument). t ++ arguments_at n after) put ∙ append_assoc before (x ∷ []) (arguments_at n after) ∙ ap (λ (y : Argument). before ++ y ∷ arguments_at n after) first
    ∙ ap (λ (r : List ℕ). before ++ (argument_at (drop 1 rest)).0 ∷ arguments_at n r) more ∙ sym (ap (λ (ys : List Argument). before ++ ys) one) ∙ so_far

arguments_stop : (fuel : ℕ) (rest : List ℕ) → (length rest == 0) ≡ true → arguments_at fuel rest ≡ []
unfolding arguments_at
arguments_stop zero rest h = refl
arguments_stop (suc n) rest h = rw h refl

pub arguments_done : (fuel : ℕ) (rest : List ℕ) (before total : List Argument) → length rest ≡ 0 → before ++ arguments_at fuel rest ≡ total → before ≡ total
arguments_done fuel rest before total none so_far = sym (append-nil before) ∙ sym (ap (λ (ys : List Argument). before ++ ys) (arguments_stop fuel rest (eq-eqb _ _ none))) ∙ so_far

-- ---- lines

at_line : (s : Reached) (lines : List (List ℕ)) (i n : ℕ) → i < length lines
    → lines_at s n (drop i lines) ≡ cond (length (drop (i + 1) lines) == 0) (at_end s n (get_or lines i [])) (and_then (after_line s (get_or lines i [])) n (λ next. lines_at next (n + 1) (drop (i + 1) lines)))
unfolding lines_at
at_line s lines i n lt = at_drop_more (λ (ls : List (List ℕ)). lines_at s n ls) lines i [] lt

-- what follows the last line feed
pub last_line : (s : Reached) (lines : List (List ℕ)) (i n : ℕ) (total : Read) → i + 1 ≡ length lines → lines_at s n (drop i lines) ≡ total → total ≡ at_end s n (get_or lines i [])
last_line s lines i n total is so_far =
    let over : (length (drop (i + 1) lines) == 0) ≡ true = eq-eqb _ _ (omega (arith, is, length-drop (i + 1) lines)) in
    sym so_far ∙ at_line s lines i n (omega (arith, is)) ∙ rw over refl

inner_line : (s : Reached) (lines : List (List ℕ)) (i n : ℕ) (total : Read) → i + 1 < length lines → lines_at s n (drop i lines) ≡ total → total ≡ and_then (after_line s (get_or lines i [])) n (λ next. lines_at next (n + 1) (drop (i + 1) lines))
inner_line s lines i n total lt so_far =
    let goes : (length (drop (i + 1) lines) == 0) ≡ false = ne_eqb _ _ (λ e. omega (arith, e, lt, length-drop (i + 1) lines)) in
    sym so_far ∙ at_line s lines i n (omega (arith, lt)) ∙ rw goes refl

pub goes_on : (s t : Reached) (lines : List (List ℕ)) (i n : ℕ) (total : Read) → i + 1 < length lines → after_line s (get_or lines i []) ≡ Some t → lines_at s n (drop i lines) ≡ total → lines_at t (n + 1) (drop (i + 1) lines) ≡ total
goes_on s t lines i n total lt is so_far = sym (inner_line s lines i n total lt so_far ∙ rw is refl)

pub is_fault : (s : Reached) (lines : List (List ℕ)) (i n : ℕ) (total : Read) → i + 1 < length lines → after_line s (get_or lines i []) ≡ None → lines_at s n (drop i lines) ≡ total → total ≡ Err n
is_fault s lines i n total lt is so_far = inner_line s lines i n total lt so_far ∙ rw is refl

pub no_line : (s : Reached) (lines : List (List ℕ)) (i n : ℕ) (total : Read) → length lines ≤ i → lines_at s n (drop i lines) ≡ total → total ≡ Err n
unfolding lines_at
no_line s lines i n total le so_far = sym so_far ∙ at_drop_all (λ (ls : List (List ℕ)). lines_at s n ls) lines i le
