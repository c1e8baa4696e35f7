-- Fields without spaces and line feeds, and the lines that they make.
use Rattle.std.proofs.Common.{◌≡◌, ◌≢◌, ℕ, ◌+◌, ◌==◌, ◌&&◌, not, Bool, true, false, nat_lt, nat_le, ℤ, List, [], ◌∷◌, ◌++◌, length, get_or, All, slice_index, position, Option, Some, None, refl, ap, ◌∙◌, arith, codes, leb-true, ◌≤◌}
use Rattle.std.specs.List.{list_all, list_any, join_with_byte, position_from}
use Rattle.std.specs.Str.{bytes_eq}
use Rattle.std.proofs.lemmas.Bool.{and_parts, and_from, or_parts, eqb-true, not-true, both_ways, false_from_ne_true}
use Rattle.std.proofs.lemmas.Bool.Decides.{nat_tests}
use Rattle.std.proofs.lemmas.List.Splits.{slice_split_none, slice_split_at}
use Rattle.std.proofs.lemmas.List.Folds.{list_all-append, list_all_at}
use Rattle.std.proofs.lemmas.Iterator.Adapters.{position_from-zero}
use Rattle.std.proofs.lemmas.Slice.Eq.{bytes_eq-Decides}
use Rattle.sn_fixed.specs.Literal.{literal}
use Rattle.sn_fixed.specs.Laws.{is_literal_byte, HasLiteralBytes}
use Rattle.sn_def.specs.declared.version.Version.{Version}
use Rattle.sn_def.specs.Reading.{pieces, is_name, is_name_byte, begins_name, is_reserved}
use Rattle.sn_def.specs.Grammar.{is_given_byte, is_given_name}

-- a field that is not empty and has neither space nor line feed
pub record IsField (f : List ℕ) : Type 0 where
  pub some : length f ≢ 0
  pub plain : list_all (λ b. nat_lt 32 b) f ≡ true

-- a byte that is above c is not c
apart : (c : ℕ) (f : List ℕ) → list_all (λ b. nat_lt c b) f ≡ true → All (λ b. (b == c) ≡ false) f
apart c f h = λ k d lt. false_from_ne_true (get_or f k d == c) (λ e. both_ways (list_all (λ b. nat_lt c b) f) (list_all_at (λ b. nat_lt c b) f k d lt (below (get_or f k d) (eqb-true (get_or f k d) c e))) h)
  where
    below : (b : ℕ) → b ≡ c → nat_lt c b ≡ false
    below b e = grind (arith, nat_tests)

pub one_piece : (c : ℕ) (f : List ℕ) → list_all (λ b. nat_lt c b) f ≡ true → pieces c f ≡ f ∷ []
one_piece c f h = slice_split_none (λ x. x == c) f (apart c f h)

pub first_piece : (c : ℕ) (f rest : List ℕ) → list_all (λ b. nat_lt c b) f ≡ true → pieces c (f ++ c ∷ rest) ≡ f ∷ pieces c rest
first_piece c f rest h = slice_split_at (λ x. x == c) f c rest (apart c f h) (itself c)
  where
    itself : (c : ℕ) → (c == c) ≡ true
    itself c = grind (arith, nat_tests)

-- each piece is above c
abbrev pub AllAbove : ℕ → List (List ℕ) → Type 0
AllAbove c [] = Unit {0}
AllAbove c (f ∷ fs) = (list_all (λ b. nat_lt c b) f ≡ true) × AllAbove c fs

-- what is joined is cut into the same pieces
pub cut : (c : ℕ) (f : List ℕ) (fs : List (List ℕ)) → AllAbove c (f ∷ fs) → pieces c (join_with_byte c (f ∷ fs)) ≡ f ∷ fs
cut c f [] h = one_piece c f h.0
cut c f (g ∷ gs) h = first_piece c f (join_with_byte c (g ∷ gs)) h.0 ∙ ap (λ (t : List (List ℕ)). f ∷ t) (cut c g gs h.1)

abbrev pub AreFields : List (List ℕ) → Type 0
AreFields [] = Unit {0}
AreFields (f ∷ fs) = IsField f × AreFields fs

pub fields_append : (xs ys : List (List ℕ)) → AreFields xs → AreFields ys → AreFields (xs ++ ys)
fields_append [] ys h i = i
fields_append (x ∷ xs) ys h i = (h.0, fields_append xs ys h.1 i)

all_above : (fs : List (List ℕ)) → AreFields fs → AllAbove 32 fs
all_above [] h = tt
all_above (f ∷ fs) h = (h.0.plain, all_above fs h.1)

pub cut_fields : (f : List ℕ) (fs : List (List ℕ)) → AreFields (f ∷ fs) → pieces 32 (join_with_byte 32 (f ∷ fs)) ≡ f ∷ fs
cut_fields f fs h = cut 32 f fs (all_above (f ∷ fs) h)

pub none_empty : (fs : List (List ℕ)) → AreFields fs → list_any (λ f. length f == 0) fs ≡ false
none_empty [] h = refl
none_empty (f ∷ fs) h =
    let here : (length f == 0) ≡ false = false_from_ne_true (length f == 0) (λ e. h.0.some (eqb-true (length f) 0 e)) in
    rw (here, none_empty fs h.1) refl

wider : (f : List ℕ) → list_all (λ b. nat_lt 32 b) f ≡ true → list_all (λ b. nat_lt 10 b) f ≡ true
wider [] h = refl
wider (b ∷ bs) h =
    let p = and_parts (nat_lt 32 b) (list_all (λ b. nat_lt 32 b) bs) h in
    let one : nat_lt 10 b ≡ true = grind (arith, nat_tests) in
    and_from (nat_lt 10 b) (list_all (λ b. nat_lt 10 b) bs) one (wider bs p.1)

-- a line has no line feed
pub whole_line : (fs : List (List ℕ)) → AreFields fs → list_all (λ b. nat_lt 10 b) (join_with_byte 32 fs) ≡ true
whole_line [] h = refl
whole_line (f ∷ []) h = wider f h.0.plain
whole_line (f ∷ g ∷ gs) h =
    list_all-append (λ b. nat_lt 10 b) f (32 ∷ join_with_byte 32 (g ∷ gs)) ∙ and_from (list_all (λ b. nat_lt 10 b) f) _ (wider f h.0.plain) (whole_line (g ∷ gs) h.1)

letter_above : (b : ℕ) → is_given_byte b ≡ true → nat_lt 32 b ≡ true
letter_above b h = grind (arith, nat_tests)

letters_above : (f : List ℕ) → list_all is_given_byte f ≡ true → list_all (λ b. nat_lt 32 b) f ≡ true
letters_above [] h = refl
letters_above (b ∷ bs) h =
    let p = and_parts (is_given_byte b) (list_all is_given_byte bs) h in
    and_from (nat_lt 32 b) (list_all (λ b. nat_lt 32 b) bs) (letter_above b p.0) (letters_above bs p.1)

-- what a name is
pub record NameParts (v : Version) (n : List ℕ) : Type 0 where
  pub begins : begins_name (slice_index n 0) ≡ true
  pub few : length n ≤ 31
  pub bytes : list_all is_name_byte n ≡ true
  pub free : is_reserved v n ≡ false

pub name_parts : (v : Version) (n : List ℕ) → is_name v n ≡ true → NameParts v n
unfolding is_name
name_parts v n h =
    let a = and_parts (begins_name (slice_index n 0) && nat_le (length n) 31 && list_all is_name_byte n) (not (is_reserved v n)) h in
    let b = and_parts (begins_name (slice_index n 0) && nat_le (length n) 31) (list_all is_name_byte n) a.0 in
    let c = and_parts (begins_name (slice_index n 0)) (nat_le (length n) 31) b.0 in
    record { begins = c.0; few = leb-true (length n) 31 c.1; bytes = b.1; free = not-true (is_reserved v n) a.1 }

-- what a name is that a text gives, be it an element's
pub record GivenParts (n : List ℕ) : Type 0 where
  pub begins : begins_name (slice_index n 0) ≡ true
  pub few : length n ≤ 35
  pub bytes : list_all is_given_byte n ≡ true

pub given_parts : (n : List ℕ) → is_given_name n ≡ true → GivenParts n
unfolding is_given_name
given_parts n h =
    let b = and_parts (begins_name (slice_index n 0) && nat_le (length n) 35) (list_all is_given_byte n) h in
    let c = and_parts (begins_name (slice_index n 0)) (nat_le (length n) 35) b.0 in
    record { begins = c.0; few = leb-true (length n) 35 c.1; bytes = b.1 }

begins_some : (n : List ℕ) → begins_name (slice_index n 0) ≡ true → length n ≢ 0
begins_some [] h = cc
begins_some (b ∷ bs) h = λ z. omega arith

pub name_field : (n : List ℕ) → is_given_name n ≡ true → IsField n
name_field n h = let p = given_parts n h in record { some = begins_some n p.begins; plain = letters_above n p.bytes }

-- a name is no literal
literal_above : (b : ℕ) → is_literal_byte b ≡ true → nat_lt 32 b ≡ true
literal_above b h = grind (arith, nat_tests)

literals_above : (f : List ℕ) → list_all is_literal_byte f ≡ true → list_all (λ b. nat_lt 32 b) f ≡ true
literals_above [] h = refl
literals_above (b ∷ bs) h =
    let p = and_parts (is_literal_byte b) (list_all is_literal_byte bs) h in
    and_from (nat_lt 32 b) (list_all (λ b. nat_lt 32 b) bs) (literal_above b p.0) (literals_above bs p.1)

no_letter : (b : ℕ) → is_literal_byte b ≡ true → begins_name b ≡ false
no_letter b h = grind (arith, nat_tests)

no_name : (f : List ℕ) → list_all is_literal_byte f ≡ true → begins_name (slice_index f 0) ≡ false
no_name [] h = refl
no_name (b ∷ bs) h = no_letter b (and_parts (is_literal_byte b) (list_all is_literal_byte bs) h).0

no_literal : (n : List ℕ) (o : Option ℤ) → literal n ≡ o → ((z : ℤ) → literal n ≡ Some z → list_all is_literal_byte n ≡ true) → begins_name (slice_index n 0) ≡ true → o ≡ None
no_literal n None is h begins = refl
no_literal n (Some z) is h begins = absurd (both_ways (begins_name (slice_index n 0)) (no_name n (h z is)) begins)

pub name_no_literal : (n : List ℕ) → HasLiteralBytes n → is_given_name n ≡ true → literal n ≡ None
name_no_literal n bytes h = no_literal n (literal n) refl bytes (given_parts n h).begins

empty_no_literal : literal [] ≡ None
unfolding literal
empty_no_literal = refl

literal_some : (f : List ℕ) (z : ℤ) → literal f ≡ Some z → length f ≢ 0
literal_some [] z h = let e = empty_no_literal in cc
literal_some (b ∷ bs) z h = λ e. omega arith

pub literal_field : (f : List ℕ) (z : ℤ) → HasLiteralBytes f → literal f ≡ Some z → IsField f
literal_field f z bytes h = record { some = literal_some f z h; plain = literals_above f (bytes z h) }

pub name_no_equals : (n : List ℕ) → is_given_name n ≡ true → bytes_eq n (codes "=") ≡ false
name_no_equals n h =
    let p = given_parts n h in
    false_from_ne_true (bytes_eq n (codes "=")) (λ e. both_ways (begins_name (slice_index n 0)) (ap (λ (m : List ℕ). begins_name (slice_index m 0)) ((bytes_eq-Decides n (codes "=")).0 e)) p.begins)

pub literal_no_equals : (f : List ℕ) (z : ℤ) → HasLiteralBytes f → literal f ≡ Some z → bytes_eq f (codes "=") ≡ false
literal_no_equals f z bytes h =
    false_from_ne_true (bytes_eq f (codes "=")) (λ e. both_ways (list_all is_literal_byte f) (ap (list_all is_literal_byte) ((bytes_eq-Decides f (codes "=")).0 e)) (bytes z h))

-- the place of the first that passes
from_at : (p : List ℕ → Bool) (i : ℕ) (xs : List (List ℕ)) (y : List ℕ) (ys : List (List ℕ)) → list_any p xs ≡ false → p y ≡ true → position_from p i (xs ++ y ∷ ys) ≡ Some (i + length xs)
from_at p i [] y ys h is = rw is (ap (λ (k : ℕ). Some k) (omega arith))
from_at p i (x ∷ xs) y ys h is =
    let q = or_parts (p x) (list_any p xs) h in
    rw q.0 (from_at p (i + 1) xs y ys q.1 is ∙ ap (λ (k : ℕ). Some k) (omega arith))

from_none : (p : List ℕ → Bool) (i : ℕ) (xs : List (List ℕ)) → list_any p xs ≡ false → position_from p i xs ≡ None
from_none p i [] h = refl
from_none p i (x ∷ xs) h = let q = or_parts (p x) (list_any p xs) h in rw q.0 (from_none p (i + 1) xs q.1)

pub position_at : (p : List ℕ → Bool) (xs : List (List ℕ)) (y : List ℕ) (ys : List (List ℕ)) → list_any p xs ≡ false → p y ≡ true → position p (xs ++ y ∷ ys) ≡ Some (length xs)
position_at p xs y ys h is = position_from-zero p (xs ++ y ∷ ys) ∙ from_at p 0 xs y ys h is ∙ ap (λ (k : ℕ). Some k) (omega arith)

pub position_none : (p : List ℕ → Bool) (xs : List (List ℕ)) → list_any p xs ≡ false → position p xs ≡ None
position_none p xs h = position_from-zero p xs ∙ from_none p 0 xs h
