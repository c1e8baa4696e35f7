-- A literal has digits, `-` and `.` alone.
use Rattle.std.proofs.Common.{◌≡◌, ◌<◌, ℕ, suc, ◌+◌, ◌==◌, ◌&&◌, cond, nat_le, not, ℤ, pos, Bool, true, false, List, [], ◌∷◌, ◌++◌, length, get_or, slice_index, take, drop, Option, Some, None, refl, sym, ap, ◌∙◌, add-one, arith}
use Rattle.std.proofs.Math.Seq.{drop-cons}
use Rattle.std.proofs.lemmas.List.{take-append-drop}
use Rattle.std.specs.List.{list_all, position}
use Rattle.std.specs.Char.{is_ascii_digit}
use Rattle.std.proofs.lemmas.List.Folds.{list_all-append}
use Rattle.std.proofs.lemmas.List.Quantifiers.{position-Some}
use Rattle.std.proofs.lemmas.Bool.{and_parts}
use Rattle.std.proofs.lemmas.Bool.Decides.{nat_tests}
use Rattle.sn_fixed.specs.Literal.{literal, unsigned, divided, whole, fraction, is_positive, is_zero, is_front, is_places}
use Rattle.sn_fixed.specs.Laws.{is_literal_byte, HasLiteralBytes}

cond_some : (b : Bool) (o : Option ℤ) (z : ℤ) → cond b o None ≡ Some z → b ≡ true
cond_some true o z e = refl
cond_some false o z e = absurd (cc)

wider : (ds : List ℕ) → list_all is_ascii_digit ds ≡ true → list_all is_literal_byte ds ≡ true
wider [] e = refl
wider (c ∷ ds) e = let b = and_parts (is_ascii_digit c) (list_all is_ascii_digit ds) e in let more = wider ds b.1 in rw (b.0, more)

zero_digits : (ds : List ℕ) → is_zero ds ≡ true → list_all is_ascii_digit ds ≡ true
zero_digits [] e = refl
zero_digits (c ∷ []) e = let is : c ≡ 48 = grind (arith, nat_tests) in rw is
zero_digits (c ∷ d ∷ ds) e = absurd (grind (arith, nat_tests))

positive_digits : (ds : List ℕ) → is_positive ds ≡ true → list_all is_ascii_digit ds ≡ true
positive_digits ds e = (and_parts (list_all is_ascii_digit ds) (nat_le 49 (slice_index ds 0)) e).0

front_digits : (ds : List ℕ) → is_front ds ≡ true → list_all is_ascii_digit ds ≡ true
front_digits ds e = let z : is_zero ds ≡ true → list_all is_ascii_digit ds ≡ true = zero_digits ds in let p : is_positive ds ≡ true → list_all is_ascii_digit ds ≡ true = positive_digits ds in grind (arith, nat_tests)

places_digits : (ds : List ℕ) → is_places ds ≡ true → list_all is_ascii_digit ds ≡ true
places_digits ds e = (and_parts (list_all is_ascii_digit ds) (nat_le 1 (length ds)) (and_parts (list_all is_ascii_digit ds && nat_le 1 (length ds)) (nat_le (length ds) 8) e).0).0

fraction_bytes : (negative : Bool) (front places : List ℕ) (z : ℤ) → fraction negative front places ≡ Some z → (list_all is_ascii_digit front ≡ true) × (list_all is_ascii_digit places ≡ true)
fraction_bytes negative front places z e =
    let b = and_parts (is_front front) (is_places places) (cond_some (is_front front && is_places places) _ z e) in
    (front_digits front b.0, places_digits places b.1)

one_of_two : (p q : Bool) (a b : Option ℤ) (z : ℤ) (R : Type 0) → (p ≡ true → R) → (q ≡ true → R) → cond p a (cond q b None) ≡ Some z → R
one_of_two true q a b z R f g e = f refl
one_of_two false true a b z R f g e = g refl
one_of_two false false a b z R f g e = absurd (cc)

whole_bytes : (negative : Bool) (ds : List ℕ) (z : ℤ) → whole negative ds ≡ Some z → list_all is_ascii_digit ds ≡ true
whole_bytes negative ds z e = one_of_two (is_positive ds) (is_zero ds && not negative) _ (Some (pos 0)) z (list_all is_ascii_digit ds ≡ true) (positive_digits ds) (λ (h : (is_zero ds && not negative) ≡ true). zero_digits ds (and_parts (is_zero ds) (not negative) h).0) e

joined_bytes : (front places : List ℕ) → list_all is_ascii_digit front ≡ true → list_all is_ascii_digit places ≡ true → list_all is_literal_byte (front ++ 46 ∷ places) ≡ true
joined_bytes front places f p = let a : list_all is_literal_byte front ≡ true = wider front f in let b : list_all is_literal_byte places ≡ true = wider places p in rw (list_all-append is_literal_byte front (46 ∷ places)) (rw (a, b))

is_byte : (c d : ℕ) → (c == d) ≡ true → c ≡ d
is_byte c d e = grind (arith, nat_tests)

divided_here : (ds : List ℕ) (point byte : ℕ) → point < length ds → get_or ds point 0 ≡ byte → ds ≡ take point ds ++ byte ∷ drop (point + 1) ds
divided_here ds point byte h is =
    let rest : drop point ds ≡ byte ∷ drop (point + 1) ds = rw add-one (drop-cons ds point 0 h ∙ ap (λ b. b ∷ drop (suc point) ds) is) in
    sym (take-append-drop point ds) ∙ ap (λ r. take point ds ++ r) rest

divided_bytes : (negative : Bool) (ds : List ℕ) (o : Option ℕ) (z : ℤ) → position (λ byte. byte == 46) ds ≡ o → divided negative ds o ≡ Some z → list_all is_literal_byte ds ≡ true
divided_bytes negative ds None z at e = wider ds (whole_bytes negative ds z e)
divided_bytes negative ds (Some point) z at e =
    let found = position-Some (λ byte. byte == 46) ds point 0 at in
    let byte : get_or ds point 0 ≡ 46 = is_byte (get_or ds point 0) 46 found.1 in
    let parts = fraction_bytes negative (take point ds) (drop (point + 1) ds) z e in
    let whole : ds ≡ take point ds ++ 46 ∷ drop (point + 1) ds = divided_here ds point 46 found.0 byte in
    rw whole (joined_bytes (take point ds) (drop (point + 1) ds) parts.0 parts.1)

unsigned_bytes : (negative : Bool) (ds : List ℕ) (z : ℤ) → unsigned negative ds ≡ Some z → list_all is_literal_byte ds ≡ true
unsigned_bytes negative ds z e = divided_bytes negative ds (position (λ byte. byte == 46) ds) z refl e

after_minus : (text : List ℕ) → (slice_index text 0 == 45) ≡ true → list_all is_literal_byte (drop 1 text) ≡ true → list_all is_literal_byte text ≡ true
after_minus [] m e = refl
after_minus (c ∷ rest) m e = let is : c ≡ 45 = is_byte c 45 m in rw is e

by_sign : (b : Bool) (text : List ℕ) (z : ℤ) → (slice_index text 0 == 45) ≡ b → cond b (unsigned true (drop 1 text)) (unsigned false text) ≡ Some z → list_all is_literal_byte text ≡ true
by_sign true text z m e = after_minus text m (unsigned_bytes true (drop 1 text) z e)
by_sign false text z m e = unsigned_bytes false text z e

pub literal_bytes : (text : List ℕ) → HasLiteralBytes text
unfolding literal
literal_bytes text z e = by_sign (slice_index text 0 == 45) text z refl e
