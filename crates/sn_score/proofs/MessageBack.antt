-- The line of a message is read as the message.
use Rattle.std.proofs.Common.{◌≡◌, ℕ, ℤ, pos, negsuc, zero, suc, ◌-◌, ◌^◌, ◌<◌, ◌≤◌, Bool, true, false, not, cond, eqb, leb, ◌&&◌, ◌||◌, ◌==◌, List, [], ◌∷◌, ◌++◌, length, drop, map, codes, refl, sym, ap, ◌∙◌, append-nil, arith, inl, inr, ◌⊎◌, ⊎_elim, ne_eqb, lit<, replicate, ◌%◌}
use Rattle.std.specs.Int.{w32, to_be_bytes}
use Rattle.std.specs.List.{list_all}
use Rattle.std.specs.Str.{bytes_eq}
use Rattle.std.proofs.lemmas.Bool.{ltb-true, leb-true, eqb-true}
use Rattle.std.proofs.lemmas.Fmt.{decimal_nonempty}
use Rattle.std.proofs.lemmas.List.{length-append}
use Rattle.std.proofs.lemmas.List.Folds.{list_all-append}
use Rattle.sn_osc.specs.Shape.{Argument, int, string, blob, BodyShape, bare, arguments, foreign, MessageShape}
use Rattle.sn_osc.specs.Bytes.{are_octets, string_bytes, blob_bytes, argument_bytes, arguments_bytes, body_bytes, message_bytes, tags_bytes, tag_of, begins_with, has_no_null, is_argument, is_body, is_message}
use Rattle.sn_osc.proofs.Fields.{and_yes, not_yes}
use Rattle.sn_osc.proofs.PacketLaws.{or_no}
use Rattle.sn_score.specs.Words.{quoted, is_plain_byte, address_word, blob_word, hex}
use Rattle.sn_score.specs.Lines.{argument_word, body_words, fields, message_line}
use Rattle.sn_score.specs.Fields.{string_at, word_at, argument_at, arguments_at, foreign_at, body_at, address_at, message_at}
use Rattle.sn_score.proofs.Digits.{not_empty, has_no, unhex_again, no_in_hex, signed_again, no_in_signed, first_of_signed}
use Rattle.sn_score.proofs.Packets.{octets_apart}
use Rattle.sn_score.proofs.Quoting.{word_taken, word_dropped, quoted_again, one_line_in_quotes}

-- ---- bytes of the parts

-- what is written of an argument that has a spelling in bytes
abbrev pub FineArgument : Argument → Type 0
FineArgument x = (is_argument x ≡ true) × (are_octets (argument_bytes x) ≡ true)

abbrev pub FineArguments : List Argument → Type 0
FineArguments xs = (list_all is_argument xs ≡ true) × (are_octets (arguments_bytes xs) ≡ true)

first_fine : (x : Argument) (xs : List Argument) → FineArguments (x ∷ xs) → FineArgument x × FineArguments xs
first_fine x xs h =
    let kinds = and_yes (is_argument x) (list_all is_argument xs) h.0 in
    let octets = octets_apart (argument_bytes x) (arguments_bytes xs) h.1 in
    ((kinds.0, octets.0), (kinds.1, octets.1))

string_octets : (s : List ℕ) → are_octets (string_bytes s) ≡ true → are_octets s ≡ true
string_octets s h = (octets_apart s _ h).0

blob_octets : (b : List ℕ) → are_octets (blob_bytes b) ≡ true → are_octets b ≡ true
blob_octets b h = (octets_apart (to_be_bytes w32 (length b)) b (octets_apart (to_be_bytes w32 (length b) ++ b) (replicate ((4 - length b % 4) % 4) 0) h).0).1

-- ---- one argument

in_quotes : (bytes : List ℕ) (words : List (List ℕ)) → are_octets bytes ≡ true → string_at (drop 1 (quoted bytes ++ fields words)) ≡ (string bytes, fields words)
in_quotes bytes words h = rw (quoted_again bytes (fields words) h) refl

number_word : (n : ℤ) → is_argument (int n) ≡ true → word_at (argument_word (int n)) ≡ int n
number_word n h = rw (first_of_signed 35 n (inl (lit< tt)) h, signed_again n h) refl

blob_back : (b : List ℕ) → are_octets b ≡ true → word_at (blob_word b) ≡ blob b
blob_back b h = rw (unhex_again b h) refl

-- an argument that is one word
one_word : (x : Argument) (words : List (List ℕ)) → begins_with 34 (argument_word x ++ fields words) ≡ false → has_no 32 (argument_word x) ≡ true → word_at (argument_word x) ≡ x → argument_at (argument_word x ++ fields words) ≡ (x, fields words)
unfolding argument_at
one_word x words first free is = rw (first, word_taken (argument_word x) words free, word_dropped (argument_word x) words free, is) refl

signed_some : (c : ℕ) (n : ℤ) (words : List (List ℕ)) → ((c < 45) × (c ≡ 32 → ⊥)) ⊎ (57 < c) → is_argument (int n) ≡ true → begins_with c (argument_word (int n) ++ fields words) ≡ false
signed_some c n words other h = by_word (argument_word (int n)) words (first_of_signed c n (elim other [ inl few ↦ inl few.0 | inr more ↦ inr more ]) h)
  where
    by_word : (w : List ℕ) (words : List (List ℕ)) → begins_with c w ≡ false → begins_with c (w ++ fields words) ≡ false
    by_word (b ∷ w) words h = h
    by_word [] [] h = refl
    by_word [] (w ∷ ws) h = elim other [ inl few ↦ ne_eqb 32 c (λ e. few.1 (sym e)) | inr more ↦ ne_eqb 32 c (λ e. omega (arith, e, more)) ]

pub argument_again : (x : Argument) (words : List (List ℕ)) → FineArgument x → argument_at (argument_word x ++ fields words) ≡ (x, fields words)
unfolding argument_at
argument_again (int n) words h = one_word (int n) words (signed_some 34 n words (inl (lit< tt, λ e. omega (arith, e))) h.0) (no_in_signed 32 n (lit< tt) h.0) (number_word n h.0)
argument_again (string s) words h = in_quotes s words (string_octets s h.1)
argument_again (blob b) words h = one_word (blob b) words refl (no_in_hex 32 b (lit< tt)) (blob_back b (blob_octets b h.1))

-- ---- arguments

then_arguments : (n : ℕ) (x : Argument) (xs : List Argument) (word more : List ℕ) → argument_at (word ++ more) ≡ (x, more) → arguments_at n more ≡ xs → arguments_at (suc n) (32 ∷ word ++ more) ≡ x ∷ xs
unfolding arguments_at
then_arguments n x xs word more first others = rw (not_empty 32 (word ++ more), first, others) refl

arguments_again : (n : ℕ) (xs : List Argument) → FineArguments xs → length xs ≤ n → arguments_at n (fields (map argument_word xs)) ≡ xs
unfolding arguments_at
arguments_again zero [] h le = refl
arguments_again (suc n) [] h le = refl
arguments_again zero (x ∷ xs) h le = absurd (omega (arith, le))
arguments_again (suc n) (x ∷ xs) h le =
    let fine = first_fine x xs h in
    then_arguments n x xs (argument_word x) (fields (map argument_word xs)) (argument_again x (map argument_word xs) fine.0) (arguments_again n xs fine.1 (omega (arith, le)))

many_fields : (words : List (List ℕ)) → length words ≤ length (fields words)
many_fields [] = omega arith
many_fields (w ∷ words) = omega (arith, many_fields words, length-append w (fields words))

as_many : (xs : List Argument) → length (map argument_word xs) ≡ length xs
as_many [] = refl
as_many (x ∷ xs) = ap suc (as_many xs)

-- ---- the body

-- After an address comes a space and then a byte that is neither `(` nor `?`.
other_body : (w : List ℕ) (words : List (List ℕ)) (x : BodyShape) → begins_with 40 (w ++ fields words) ≡ false → begins_with 63 (w ++ fields words) ≡ false → 0 < length w
    → arguments (arguments_at (length (32 ∷ w ++ fields words)) (32 ∷ w ++ fields words)) ≡ x → body_at (32 ∷ w ++ fields words) ≡ x
unfolding body_at
other_body [] words x opens mark some is = absurd (omega (arith, some))
other_body (b ∷ w) words x opens mark some is = rw (not_empty 32 ((b ∷ w) ++ fields words), opens, mark) is

first_argument : (c : ℕ) (x : Argument) (words : List (List ℕ)) → (c ≡ 40) ⊎ (c ≡ 63) → FineArgument x → begins_with c (argument_word x ++ fields words) ≡ false
first_argument c (int n) words other h = signed_some c n words (elim other [ inl e ↦ inl (omega (arith, e), λ s. omega (arith, e, s)) | inr e ↦ inr (omega (arith, e)) ]) h.0
first_argument c (string s) words other h = ne_eqb 34 c (λ s. ⊎_elim (λ e. omega (arith, e, s)) (λ e. omega (arith, e, s)) other)
first_argument c (blob b) words other h = ne_eqb 35 c (λ s. ⊎_elim (λ e. omega (arith, e, s)) (λ e. omega (arith, e, s)) other)

some_word : (x : Argument) → FineArgument x → 0 < length (argument_word x)
some_word (int n) h = some_number n h.0
  where
    some_number : (n : ℤ) → is_argument (int n) ≡ true → 0 < length (argument_word (int n))
    some_number (pos n) h = decimal_nonempty n (omega (arith, ltb-true n (2 ^ 31) h))
    some_number (negsuc n) h = omega arith
some_word (string s) h = omega arith
some_word (blob b) h = omega arith

foreign_back : (tags rest : List ℕ) → are_octets tags ≡ true → are_octets rest ≡ true → foreign_at (drop 1 (quoted tags ++ fields (blob_word rest ∷ []))) ≡ foreign tags rest
foreign_back tags rest h k = rw (quoted_again tags (fields (blob_word rest ∷ [])) h, append-nil (hex rest), unhex_again rest k) refl

pub body_again : (x : BodyShape) → is_body x ≡ true → are_octets (body_bytes x) ≡ true → body_at (fields (body_words x)) ≡ x
unfolding body_at
body_again bare h k = refl
body_again (arguments []) h k = refl
body_again (arguments (x ∷ xs)) h k =
    let fine : FineArguments (x ∷ xs) = (h, (octets_apart (tags_bytes (map tag_of (x ∷ xs))) (arguments_bytes (x ∷ xs)) k).1) in
    let first = (first_fine x xs fine).0 in
    let words = map argument_word xs in
    let few : length (x ∷ xs) ≤ length (fields (map argument_word (x ∷ xs))) = omega (arith, many_fields (map argument_word (x ∷ xs)), as_many xs) in
    other_body (argument_word x) words (arguments (x ∷ xs)) (first_argument 40 x words (inl refl) first) (first_argument 63 x words (inr refl) first) (some_word x first)
    (ap (λ (ys : List Argument). arguments ys) (arguments_again (length (fields (map argument_word (x ∷ xs)))) (x ∷ xs) fine few))
body_again (foreign tags rest) h k =
    let octets = octets_apart (tags_bytes tags) rest k in
    rw (not_empty 32 (63 ∷ (quoted tags ++ fields (blob_word rest ∷ [])))) (foreign_back tags rest (string_octets (44 ∷ tags) octets.0) octets.1)

-- ---- the message

plain_has_no : (c : ℕ) (a : List ℕ) → (c < 33) ⊎ ((c ≡ 34) ⊎ (c ≡ 92)) → list_all is_plain_byte a ≡ true → has_no c a ≡ true
plain_has_no c [] h plain = refl
plain_has_no c (b ∷ a) h plain =
    let both = and_yes (is_plain_byte b) (list_all is_plain_byte a) plain in
    let tests = and_yes (leb 33 b && leb b 126) (not (b == 34 || b == 92)) both.0 in
    let inside = leb-true 33 b (and_yes (leb 33 b) (leb b 126) tests.0).0 in
    let special = or_no (b == 34) (b == 92) (not_yes (b == 34 || b == 92) tests.1) in
    let other : (b == c) ≡ false = ⊎_elim (λ few. ne_eqb b c (λ e. omega (arith, e, few, inside))) (λ some. ⊎_elim (λ q. ap (eqb b) q ∙ special.0) (λ s. ap (eqb b) s ∙ special.1) some) h in
    rw (other, plain_has_no c a h both.1) refl

plain_first : (b : ℕ) (a : List ℕ) → list_all is_plain_byte (b ∷ a) ≡ true → (b == 34) ≡ false
plain_first b a is =
    let both = and_yes (is_plain_byte b) (list_all is_plain_byte a) is in
    let tests = and_yes (leb 33 b && leb b 126) (not (b == 34 || b == 92)) both.0 in
    (or_no (b == 34) (b == 92) (not_yes (b == 34 || b == 92) tests.1)).0

address_by : (plain : Bool) (a : List ℕ) (words : List (List ℕ)) → list_all is_plain_byte a ≡ plain → begins_with 47 a ≡ true → are_octets a ≡ true → address_at (cond plain a (quoted a) ++ fields words) ≡ (a, fields words)
unfolding address_at
address_by true [] words is slash octets = absurd cc
address_by true (b ∷ a) words is slash octets =
    let free = plain_has_no 32 (b ∷ a) (inl (lit< tt)) is in
    rw (plain_first b a is, word_taken (b ∷ a) words free, word_dropped (b ∷ a) words free) refl
address_by false a words is slash octets = quoted_again a (fields words) octets

pub message_again : (m : MessageShape) → is_message m ≡ true → are_octets (message_bytes m) ≡ true → message_at (message_line m) ≡ m
unfolding message_at
message_again m h k =
    let fine = and_yes (begins_with 47 m.address && has_no_null m.address) (is_body m.body) h in
    let slash = and_yes (begins_with 47 m.address) (has_no_null m.address) fine.0 in
    let octets = octets_apart (string_bytes m.address) (body_bytes m.body) k in
    let address = address_by (list_all is_plain_byte m.address) m.address (body_words m.body) refl slash.0 (string_octets m.address octets.0) in
    rw (address, body_again m.body fine.1 octets.1) refl

-- ---- a message's line is one line

one_line_argument : (x : Argument) → FineArgument x → has_no 10 (argument_word x) ≡ true
one_line_argument (int n) h = no_in_signed 10 n (lit< tt) h.0
one_line_argument (string s) h = one_line_in_quotes s (string_octets s h.1)
one_line_argument (blob b) h = no_in_hex 10 b (lit< tt)

-- a word and further fields
one_line_fields : (w : List ℕ) (words : List (List ℕ)) → has_no 10 w ≡ true → has_no 10 (fields words) ≡ true → has_no 10 (fields (w ∷ words)) ≡ true
one_line_fields w words h k = list_all-append (λ x. not (x == 10)) w (fields words) ∙ rw (h, k) refl

one_line_arguments : (xs : List Argument) → FineArguments xs → has_no 10 (fields (map argument_word xs)) ≡ true
one_line_arguments [] h = refl
one_line_arguments (x ∷ xs) h =
    let fine = first_fine x xs h in
    one_line_fields (argument_word x) (map argument_word xs) (one_line_argument x fine.0) (one_line_arguments xs fine.1)

one_line_body : (x : BodyShape) → is_body x ≡ true → are_octets (body_bytes x) ≡ true → has_no 10 (fields (body_words x)) ≡ true
one_line_body bare h k = refl
one_line_body (arguments []) h k = refl
one_line_body (arguments (x ∷ xs)) h k = one_line_arguments (x ∷ xs) (h, (octets_apart (tags_bytes (map tag_of (x ∷ xs))) (arguments_bytes (x ∷ xs)) k).1)
one_line_body (foreign tags rest) h k =
    let octets = octets_apart (tags_bytes tags) rest k in
    one_line_fields (63 ∷ quoted tags) (blob_word rest ∷ []) (one_line_in_quotes tags (string_octets (44 ∷ tags) octets.0)) (one_line_fields (blob_word rest) [] (no_in_hex 10 rest (lit< tt)) refl)

one_line_address : (plain : Bool) (a : List ℕ) → list_all is_plain_byte a ≡ plain → are_octets a ≡ true → has_no 10 (cond plain a (quoted a)) ≡ true
one_line_address true a is octets = plain_has_no 10 a (inl (lit< tt)) is
one_line_address false a is octets = one_line_in_quotes a octets

pub one_line_message : (m : MessageShape) → is_message m ≡ true → are_octets (message_bytes m) ≡ true → has_no 10 (message_line m) ≡ true
one_line_message m h k =
    let fine = and_yes (begins_with 47 m.address && has_no_null m.address) (is_body m.body) h in
    let octets = octets_apart (string_bytes m.address) (body_bytes m.body) k in
    list_all-append (λ x. not (x == 10)) (address_word m.address) (fields (body_words m.body))
    ∙ rw (one_line_address (list_all is_plain_byte m.address) m.address refl (string_octets m.address octets.0), one_line_body m.body fine.1 octets.1) refl

-- ---- a message's line begins with a slash or a quote

first_address : (plain : Bool) (a rest : List ℕ) → begins_with 47 a ≡ true → (begins_with 91 (cond plain a (quoted a) ++ rest) ≡ false) × (bytes_eq (cond plain a (quoted a) ++ rest) (codes "]") ≡ false)
first_address true [] rest slash = absurd cc
first_address true (b ∷ a) rest slash =
    let is : b ≡ 47 = eqb-true b 47 slash in
    let last : (b == 93) ≡ false = ne_eqb b 93 (λ e. omega (arith, e, is)) in
    (ne_eqb b 91 (λ e. omega (arith, e, is)), rw last refl)
first_address false a rest slash = (refl, refl)

pub first_message : (m : MessageShape) → is_message m ≡ true → (begins_with 91 (message_line m) ≡ false) × (bytes_eq (message_line m) (codes "]") ≡ false)
first_message m h =
    let fine = and_yes (begins_with 47 m.address && has_no_null m.address) (is_body m.body) h in
    first_address (list_all is_plain_byte m.address) m.address (fields (body_words m.body)) (and_yes (begins_with 47 m.address) (has_no_null m.address) fine.0).0
