-- Quoted texts and words are read as what they are written of.
use Rattle.std.proofs.Common.{◌≡◌, ℕ, zero, suc, ◌/◌, ◌%◌, ◌<◌, ◌≤◌, Bool, true, false, not, cond, ltb, leb, ◌&&◌, ◌||◌, ◌==◌, List, [], ◌∷◌, ◌++◌, length, take, drop, flat_map, refl, sym, ap, ◌∙◌, append_assoc, arith, inl, inr, ◌⊎◌, ne_eqb, lit<}
use Rattle.std.proofs.lemmas.Bool.{ltb-true, eqb-true, leb-true}
use Rattle.std.proofs.lemmas.List.{length-append, take_at, drop_at}
use Rattle.std.proofs.lemmas.List.Folds.{list_all-append}
use Rattle.sn_osc.specs.Bytes.{are_octets}
use Rattle.sn_osc.proofs.Fields.{and_yes, not_yes}
use Rattle.sn_osc.proofs.PacketLaws.{or_no}
use Rattle.sn_score.specs.Words.{digit, hex_byte, quoted_byte, quoted}
use Rattle.sn_score.specs.Lines.{fields}
use Rattle.sn_score.specs.Fields.{word_len, is_closed, byte_at, bytes_at, unquoted}
use Rattle.sn_score.proofs.Digits.{not_empty, hex_again, has_no, no_in_digit}

-- ---- words that end at a space

pub word_len_is : (word : List ℕ) (words : List (List ℕ)) → has_no 32 word ≡ true → word_len (word ++ fields words) ≡ length word
word_len_is [] [] h = refl
word_len_is [] (w ∷ words) h = refl
word_len_is (b ∷ word) words h =
    let both = and_yes (not (b == 32)) (has_no 32 word) h in
    rw (not_yes (b == 32) both.0) (omega (arith, word_len_is word words both.1))

pub word_taken : (word : List ℕ) (words : List (List ℕ)) → has_no 32 word ≡ true → take (word_len (word ++ fields words)) (word ++ fields words) ≡ word
word_taken word words h = take_at word (fields words) _ (sym (word_len_is word words h))

pub word_dropped : (word : List ℕ) (words : List (List ℕ)) → has_no 32 word ≡ true → drop (word_len (word ++ fields words)) (word ++ fields words) ≡ fields words
word_dropped word words h = drop_at word (fields words) _ (sym (word_len_is word words h))

-- ---- one byte of a quoted text

pub record Byte (b : ℕ) (written : List ℕ) : Type 0 where
  pub read : (rest : List ℕ) → byte_at (written ++ rest) ≡ (b, rest)
  pub goes_on : (rest : List ℕ) → is_closed (written ++ rest) ≡ false
  pub some : 1 ≤ length written
  pub one_line : has_no 10 written ≡ true

escaped : (b : ℕ) → (b == 34 || b == 92) ≡ true → Byte b (92 ∷ b ∷ [])
escaped b h =
    let one = special_is (b == 34) (b == 92) h in
    let not_x : (b == 120) ≡ false = ne_eqb b 120 (λ e. elim one [ inl q ↦ omega (arith, e, eqb-true b 34 q) | inr s ↦ omega (arith, e, eqb-true b 92 s) ]) in
    let not_line : (b == 10) ≡ false = ne_eqb b 10 (λ e. elim one [ inl q ↦ omega (arith, e, eqb-true b 34 q) | inr s ↦ omega (arith, e, eqb-true b 92 s) ]) in
    record { read = λ rest. rw not_x refl; goes_on = λ rest. rw (not_empty 92 (b ∷ rest)) refl; some = omega arith; one_line = rw not_line refl }
  where
    special_is : (x y : Bool) → (x || y) ≡ true → (x ≡ true) ⊎ (y ≡ true)
    special_is true y e = inl refl
    special_is false y e = inr e

plain : (b : ℕ) → (b == 34 || b == 92) ≡ false → (leb 32 b && leb b 126) ≡ true → Byte b (b ∷ [])
plain b h inside =
    let other = or_no (b == 34) (b == 92) h in
    let range = and_yes (leb 32 b) (leb b 126) inside in
    let not_line : (b == 10) ≡ false = ne_eqb b 10 (λ e. omega (arith, e, leb-true 32 b range.0)) in
    record { read = λ rest. rw other.1 refl; goes_on = λ rest. rw (not_empty b rest) other.0; some = omega arith; one_line = rw not_line refl }

digits : (b : ℕ) → b < 256 → Byte b (92 ∷ 120 ∷ hex_byte b)
digits b few = record {
  read = λ rest. rw (hex_again b few) refl;
  goes_on = λ rest. rw (not_empty 92 (120 ∷ digit (b / 16) ∷ digit (b % 16) ∷ rest)) refl;
  some = omega arith;
  one_line = rw (no_in_digit 10 (b / 16) (lit< tt), no_in_digit 10 (b % 16) (lit< tt)) refl;
}

by_test : (b : ℕ) (special inside : Bool) → b < 256 → (b == 34 || b == 92) ≡ special → (leb 32 b && leb b 126) ≡ inside → Byte b (cond special (92 ∷ b ∷ []) (cond inside (b ∷ []) (92 ∷ 120 ∷ hex_byte b)))
by_test b true inside few s i = escaped b s
by_test b false true few s i = plain b s i
by_test b false false few s i = digits b few

pub byte_again : (b : ℕ) → b < 256 → Byte b (quoted_byte b)
byte_again b few = by_test b (b == 34 || b == 92) (leb 32 b && leb b 126) few refl refl

-- ---- a quoted text

pub one_line_quoted : (bytes : List ℕ) → are_octets bytes ≡ true → has_no 10 (flat_map quoted_byte bytes) ≡ true
one_line_quoted [] h = refl
one_line_quoted (b ∷ bytes) h =
    let both = and_yes (ltb b 256) (are_octets bytes) h in
    let byte = byte_again b (ltb-true b 256 both.0) in
    list_all-append (λ x. not (x == 10)) (quoted_byte b) (flat_map quoted_byte bytes) ∙ rw (byte.one_line, one_line_quoted bytes both.1) refl

pub long_quoted : (bytes : List ℕ) → are_octets bytes ≡ true → length bytes ≤ length (flat_map quoted_byte bytes)
long_quoted [] h = omega arith
long_quoted (b ∷ bytes) h =
    let both = and_yes (ltb b 256) (are_octets bytes) h in
    let byte = byte_again b (ltb-true b 256 both.0) in
    omega (arith, byte.some, long_quoted bytes both.1, length-append (quoted_byte b) (flat_map quoted_byte bytes))

-- one byte, and then the others
then_others : (n b : ℕ) (bytes whole more rest : List ℕ) → is_closed whole ≡ false → byte_at whole ≡ (b, more) → bytes_at n more ≡ (bytes, rest) → bytes_at (suc n) whole ≡ (b ∷ bytes, rest)
unfolding bytes_at
then_others n b bytes whole more rest goes first others = rw (goes, first, others) refl

bytes_again : (n : ℕ) (bytes rest : List ℕ) → are_octets bytes ≡ true → length bytes ≤ n → bytes_at n (flat_map quoted_byte bytes ++ 34 ∷ rest) ≡ (bytes, rest)
unfolding bytes_at
bytes_again zero [] rest h le = refl
bytes_again (suc n) [] rest h le = rw (not_empty 34 rest) refl
bytes_again zero (b ∷ bytes) rest h le = absurd (omega (arith, le))
bytes_again (suc n) (b ∷ bytes) rest h le =
    let both = and_yes (ltb b 256) (are_octets bytes) h in
    let byte = byte_again b (ltb-true b 256 both.0) in
    let more = flat_map quoted_byte bytes ++ 34 ∷ rest in
    ap (bytes_at (suc n)) (append_assoc (quoted_byte b) (flat_map quoted_byte bytes) (34 ∷ rest))
    ∙ then_others n b bytes (quoted_byte b ++ more) more rest (byte.goes_on more) (byte.read more) (bytes_again n bytes rest both.1 (omega (arith, le)))

-- after the first `"`
pub quoted_again : (bytes rest : List ℕ) → are_octets bytes ≡ true → unquoted (drop 1 (quoted bytes ++ rest)) ≡ (bytes, rest)
quoted_again bytes rest h =
    let inside = flat_map quoted_byte bytes in
    let parts : drop 1 (quoted bytes ++ rest) ≡ inside ++ 34 ∷ rest = append_assoc inside (34 ∷ []) rest in
    let long : length bytes ≤ length (inside ++ 34 ∷ rest) = omega (arith, long_quoted bytes h, length-append inside (34 ∷ rest)) in
    ap (λ t. unquoted t) parts ∙ bytes_again (length (inside ++ 34 ∷ rest)) bytes rest h long

pub one_line_in_quotes : (bytes : List ℕ) → are_octets bytes ≡ true → has_no 10 (quoted bytes) ≡ true
one_line_in_quotes bytes h = list_all-append (λ x. not (x == 10)) (flat_map quoted_byte bytes) (34 ∷ []) ∙ rw (one_line_quoted bytes h) refl
