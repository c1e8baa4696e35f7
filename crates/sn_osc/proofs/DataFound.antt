-- Reading a message meets the fault that stands after whole data that the grammar allows.
use Rattle.std.proofs.Common.{◌≡◌, ◌≢◌, ℕ, pos, negsuc, zero, suc, ◌+◌, ◌-◌, ◌%◌, ◌^◌, ◌<◌, inl, inr, Bool, true, false, not, cond, ltb, leb, eqb, ◌&&◌, List, [], ◌∷◌, ◌++◌, length, take, drop, map, replicate, Ok, refl, sym, ap, ◌∙◌, append_assoc, append-nil, arith, ne_eqb}
use Rattle.std.specs.Int.{w32, to_be_bytes, cast_signed}
use Rattle.std.proofs.lemmas.Bool.{ltb-false, lt-ltb, le-ltb, le-leb, lt-leb}
use Rattle.std.proofs.lemmas.List.{length-append, length-drop, length-replicate, drop_at, drop-take}
use mir.Val.{sel}
use Rattle.sn_osc.specs.declared.fault.PacketKind.{PacketKind}
use Rattle.sn_osc.specs.declared.fault.PacketKind.TheVariants.{Unended, Padding, NoTags, ShortArgs, LongArgs, BlobSize}
use Rattle.sn_osc.specs.Shape.{Argument}
use Rattle.sn_osc.specs.Bytes.{tag_of, has_no_null, begins_with}
use Rattle.sn_osc.specs.Grammar.{SpellsArguments}
use Rattle.sn_osc.specs.Reading.{fault, size_in, text_len, string_len, null_len, is_ended, string_at, blob_len, blob_at, argument_at, arguments_at, tags_at, arguments_in, body_in, message_in}
use Rattle.sn_osc.specs.Faults.{BadPadding, StringFault, IsOver, BlobFault, ArgumentFault, NextArgumentFault, ArgumentsFault, TagsFault, BodyFault, MessageFault}
use Rattle.sn_osc.proofs.Fields.{and_yes, not_yes, size_again, after_size, text_len_is, string_again, string_len-is}
use Rattle.sn_osc.proofs.Messages.{argument_again, arguments_whole, arguments_again, tags_again}

-- ---- padding

null_len_is : (k other : ℕ) (rest : List ℕ) → other ≢ 0 → null_len (replicate k 0 ++ other ∷ rest) ≡ k
null_len_is zero other rest differs = rw (ne_eqb other 0 differs) refl
null_len_is (suc k) other rest differs = omega (arith, null_len_is k other rest differs)

take_past : (k room other : ℕ) (rest : List ℕ) → k < room → (more : List ℕ) × (take room (replicate k 0 ++ other ∷ rest) ≡ replicate k 0 ++ other ∷ more)
take_past k zero other rest lt = absurd (omega (arith, lt))
take_past zero (suc room) other rest lt = (take room rest, refl)
take_past (suc k) (suc room) other rest lt = let (more, is) = take_past k room other rest (omega (arith, lt)) in (more, ap (λ (t : List ℕ). 0 ∷ t) is)

padding_found : (at room : ℕ) (bytes : List ℕ) (place : ℕ) → BadPadding at room bytes place → (place ≡ at + null_len (take room bytes)) × (null_len (take room bytes) < length (take room bytes)) × (null_len (take room bytes) < length bytes)
padding_found at room bytes place h =
    let (more, is) = take_past h.nulls room h.other h.rest h.inside in
    let front : take room bytes ≡ replicate h.nulls 0 ++ h.other ∷ more = ap (take room) h.parts ∙ is in
    let nulls : null_len (take room bytes) ≡ h.nulls = ap null_len front ∙ null_len_is h.nulls h.other more h.not_null in
    let len : length (take room bytes) ≡ h.nulls + suc (length more) = ap length front ∙ length-append (replicate h.nulls 0) (h.other ∷ more) ∙ ap (λ (k : ℕ). k + suc (length more)) (length-replicate {A = ℕ} h.nulls 0) in
    let whole : length bytes ≡ h.nulls + suc (length h.rest) = ap length h.parts ∙ length-append (replicate h.nulls 0) (h.other ∷ h.rest) ∙ ap (λ (k : ℕ). k + suc (length h.rest)) (length-replicate {A = ℕ} h.nulls 0) in
    (omega (arith, nulls, h.there), omega (arith, nulls, len), omega (arith, nulls, whole))

-- ---- strings

text_all : (xs : List ℕ) → has_no_null xs ≡ true → text_len xs ≡ length xs
text_all [] h = refl
text_all (x ∷ xs) h =
    let both = and_yes (not (eqb x 0)) (has_no_null xs) h in
    rw (not_yes (eqb x 0) both.0) (omega (arith, text_all xs both.1))

text_below : (xs : List ℕ) → has_no_null xs ≡ false → text_len xs < length xs
text_below [] h = absurd cc
text_below (x ∷ xs) h = by_first x xs (eqb x 0) refl h (text_below xs)
  where
    by_first : (x : ℕ) (xs : List ℕ) (b : Bool) → eqb x 0 ≡ b → (not b && has_no_null xs) ≡ false → (has_no_null xs ≡ false → text_len xs < length xs) → cond (not b) (1 + text_len xs) 0 < suc (length xs)
    by_first x xs true e h others = omega arith
    by_first x xs false e h others = omega (arith, others h)

pub unended_is : (bytes : List ℕ) → has_no_null bytes ≡ true → is_ended bytes ≡ false
unended_is bytes h = lt-leb _ _ (omega (arith, text_all bytes h))

pub ended_is : (bytes : List ℕ) → length bytes % 4 ≡ 0 → text_len bytes < length bytes → is_ended bytes ≡ true
ended_is bytes whole lt = le-leb _ _ (omega (arith, whole, lt))

pub string_found : (end at : ℕ) (bytes : List ℕ) (kind : PacketKind) (place : ℕ) → at + length bytes ≡ end → length bytes % 4 ≡ 0 → StringFault at bytes kind place → string_at end bytes ≡ fault kind place
unfolding string_at
string_found end at bytes Unended place is whole h =
    let here : end - length bytes ≡ place = omega (arith, is, h.1) in
    rw (unended_is bytes h.0) (ap (λ (p : ℕ). fault Unended p) here)
string_found end at bytes Padding place is whole h =
    let (text, rest, pure, parts, bad) = h in
    let n : text_len bytes ≡ length text = ap text_len parts ∙ text_len_is text rest pure in
    let len : length bytes ≡ length text + suc (length rest) = ap length parts ∙ length-append text (0 ∷ rest) in
    let ended = ended_is bytes whole (omega (arith, n, len)) in
    let room = 3 - length text % 4 in
    let found = padding_found (at + length text + 1) room rest place bad in
    let behind : drop (length text) bytes ≡ 0 ∷ rest = ap (drop (length text)) parts ∙ drop_at text (0 ∷ rest) (length text) refl in
    let many : 4 - length text % 4 ≡ suc room = omega arith in
    let padding : drop (length text) (take (string_len (length text)) bytes) ≡ 0 ∷ take room rest =
    drop-take (length text) (4 - length text % 4) bytes ∙ ap (take (4 - length text % 4)) behind ∙ ap (λ (k : ℕ). take k (0 ∷ rest)) many in
    let less : ltb (null_len (0 ∷ take room rest)) (length (0 ∷ take room rest)) ≡ true = lt-ltb _ _ (omega (arith, found.1)) in
    let here : end - length bytes + (length text + null_len (0 ∷ take room rest)) ≡ place = omega (arith, is, len, found.0) in
    rw (ended, n, padding, less) (ap (λ (p : ℕ). fault Padding p) here)
string_found end at bytes kind place is whole h = absurd h

-- ---- blobs

is_over : (n left : ℕ) → left < 2 ^ 31 → IsOver (cast_signed w32 n) left → left < n
is_over n left few h = by_sign (ltb n (2 ^ 31)) refl h
  where
    by_sign : (b : Bool) → ltb n (2 ^ 31) ≡ b → IsOver (sel b (pos n) (negsuc (2 ^ 32 - suc n))) left → left < n
    by_sign true e over = over
    by_sign false e over = omega (arith, ltb-false _ _ e, few)

blob_found : (end at : ℕ) (bytes : List ℕ) (kind : PacketKind) (place : ℕ) → at + length bytes ≡ end → length bytes % 4 ≡ 0 → length bytes < 2 ^ 31 → BlobFault at bytes kind place → blob_at end bytes ≡ fault kind place
unfolding blob_at
blob_found end at bytes BlobSize place is whole small h =
    let here : end - length bytes ≡ place = omega (arith, is, h.2) in
    let over : leb (blob_len (size_in bytes)) (length (drop 4 bytes)) ≡ false = lt-leb _ _ (omega (arith, is_over (size_in bytes) (length (drop 4 bytes)) (omega (arith, small, length-drop 4 bytes)) h.1)) in
    rw over (ap (λ (p : ℕ). fault BlobSize p) here)
blob_found end at bytes Padding place is whole small h =
    let (inner, rest, parts, bad) = h in
    let n = length inner in
    let regrouped : bytes ≡ to_be_bytes w32 n ++ (inner ++ rest) = parts ∙ append_assoc (to_be_bytes w32 n) inner rest in
    let len : length bytes ≡ 4 + n + length rest = ap length regrouped ∙ omega (arith, length-append (to_be_bytes w32 n) (inner ++ rest), length-append inner rest) in
    let size : size_in bytes ≡ n = ap (λ t. size_in t) regrouped ∙ size_again n (inner ++ rest) (omega (arith, small, len)) in
    let after : drop 4 bytes ≡ inner ++ rest = ap (drop 4) regrouped ∙ after_size n (inner ++ rest) in
    let room = (4 - n % 4) % 4 in
    let found = padding_found (at + 4 + n) room rest place bad in
    let there : leb (blob_len n) (length (inner ++ rest)) ≡ true = le-leb _ _ (omega (arith, length-append inner rest, whole, len, found.2)) in
    let padding : drop n (take (blob_len n) (inner ++ rest)) ≡ take room rest = drop-take n room (inner ++ rest) ∙ ap (take room) (drop_at inner rest n refl) in
    let less : ltb (null_len (take room rest)) (length (take room rest)) ≡ true = lt-ltb _ _ found.1 in
    let here : end - length (inner ++ rest) + (n + null_len (take room rest)) ≡ place = omega (arith, is, len, length-append inner rest, found.0) in
    rw (size, after, there, padding, less) (ap (λ (p : ℕ). fault Padding p) here)
blob_found end at bytes kind place is whole small h = absurd h

-- ---- arguments

argument_found : (end at tag : ℕ) (bytes : List ℕ) (kind : PacketKind) (place : ℕ) → at + length bytes ≡ end → length bytes % 4 ≡ 0 → length bytes < 2 ^ 31 → ArgumentFault at tag bytes kind place → argument_at end tag bytes ≡ fault kind place
unfolding argument_at
argument_found end at tag [] kind place is whole small h =
    let here : end ≡ place = omega (arith, is, h.1) in
    ap (λ (p : ℕ). fault ShortArgs p) here ∙ ap (λ (k : PacketKind). fault k place) (sym h.0)
argument_found end at tag (b ∷ bytes) kind place is whole small h =
    let long : ltb (length (b ∷ bytes)) 4 ≡ false = le-ltb _ _ (omega (arith, whole)) in
    elim h [
      | inl a ↦ rw (long, a.0, string_found end at (b ∷ bytes) kind place is whole a.1) refl
      | inr a ↦ rw (long, a.0, blob_found end at (b ∷ bytes) kind place is whole small a.1) refl
    ]

arguments_found : (end at tag : ℕ) (left : List ℕ) (before : List Argument) (front rest : List ℕ) (kind : PacketKind) (place : ℕ) → SpellsArguments before front → at + length rest ≡ end → length rest % 4 ≡ 0 → length rest < 2 ^ 31 → ArgumentFault at tag rest kind place
    → arguments_at end (map tag_of before ++ tag ∷ left) (front ++ rest) ≡ fault kind place
unfolding arguments_at
arguments_found end at tag left [] front rest kind place spelled is whole small h =
    ap (λ (t : List ℕ). arguments_at end (tag ∷ left) (t ++ rest)) spelled ∙ rw (argument_found end at tag rest kind place is whole small h) refl
arguments_found end at tag left (x ∷ xs) front rest kind place spelled is whole small h =
    let (first, others, one, more, parts) = spelled in
    let bytes : front ++ rest ≡ first ++ (others ++ rest) = ap (λ (t : List ℕ). t ++ rest) parts ∙ append_assoc first others rest in
    ap (arguments_at end (tag_of x ∷ (map tag_of xs ++ tag ∷ left))) bytes ∙ rw (argument_again end x first (others ++ rest) one, arguments_found end at tag left xs others rest kind place more is whole small h) refl

-- by what is left of the tags
next_found : (end at : ℕ) (left : List ℕ) (before : List Argument) (front rest : List ℕ) (kind : PacketKind) (place : ℕ) → SpellsArguments before front → at + length rest ≡ end → length rest % 4 ≡ 0 → length rest < 2 ^ 31 → NextArgumentFault at left rest kind place
    → arguments_in end (map tag_of before ++ left) (front ++ rest) ≡ fault kind place
unfolding arguments_in
next_found end at [] before front rest kind place spelled is whole small h =
    let tags : map tag_of before ++ [] ≡ map tag_of before = append-nil (map tag_of before) in
    let some : eqb (length rest) 0 ≡ false = ne_eqb _ _ (λ e. omega (arith, e, h.0)) in
    let here : end - length rest ≡ place = omega (arith, is, h.2) in
    rw (tags, arguments_again end before front rest spelled, some) (ap (λ (p : ℕ). fault LongArgs p) here ∙ ap (λ (k : PacketKind). fault k place) (sym h.1))
next_found end at (tag ∷ left) before front rest kind place spelled is whole small h =
    rw (arguments_found end at tag left before front rest kind place spelled is whole small h) refl

all_found : (end at : ℕ) (tags bytes : List ℕ) (kind : PacketKind) (place : ℕ) → at + length bytes ≡ end → length bytes % 4 ≡ 0 → length bytes < 2 ^ 31 → ArgumentsFault at tags bytes kind place → arguments_in end tags bytes ≡ fault kind place
all_found end at tags bytes kind place is whole small h =
    let len : length bytes ≡ length h.front + length h.rest = ap length h.parts ∙ length-append h.front h.rest in
    ap (λ (t : List ℕ). arguments_in end t bytes) h.tagged ∙ ap (arguments_in end (map tag_of h.before ++ h.left)) h.parts
    ∙ next_found end (at + length h.front) h.left h.before h.front h.rest kind place h.spelled (omega (arith, is, len)) (omega (arith, whole, len, arguments_whole h.before h.front h.spelled)) (omega (arith, small, len)) h.why

-- ---- the body

no_tags : (a b : Bool) → b ≡ true → (a && not b) ≡ false
no_tags true b e = ap not e
no_tags false b e = refl

tags_found : (end at : ℕ) (bytes : List ℕ) (kind : PacketKind) (place : ℕ) → at + length bytes ≡ end → length bytes % 4 ≡ 0 → TagsFault at bytes kind place → tags_at end bytes ≡ fault kind place
unfolding tags_at
tags_found end at bytes NoTags place is whole h =
    let ended = ended_is bytes whole (text_below bytes (not_yes (has_no_null bytes) h.0)) in
    let here : end - length bytes ≡ place = omega (arith, is, h.2) in
    rw (ended, h.1) (ap (λ (p : ℕ). fault NoTags p) here)
tags_found end at bytes Padding place is whole h = rw (no_tags (is_ended bytes) (begins_with 44 bytes) h.0, string_found end at bytes Padding place is whole h.1) refl
tags_found end at bytes Unended place is whole h = rw (unended_is bytes h.0, string_found end at bytes Unended place is whole h) refl
tags_found end at bytes kind place is whole h = absurd h

body_found : (end at : ℕ) (bytes : List ℕ) (kind : PacketKind) (place : ℕ) → at + length bytes ≡ end → length bytes % 4 ≡ 0 → length bytes < 2 ^ 31 → BodyFault at bytes kind place → body_in end bytes ≡ fault kind place
unfolding body_in
body_found end at bytes kind place is whole small h =
    let some : eqb (length bytes) 0 ≡ false = ne_eqb _ _ (λ e. omega (arith, e, h.0)) in
    elim h.1 [
      | inl a ↦ rw (some, tags_found end at bytes kind place is whole a) refl
      | inr a ↦
          let len : length bytes ≡ length a.front + length a.rest = ap length a.parts ∙ length-append a.front a.rest in
          let rest : length a.rest % 4 ≡ 0 = omega (arith, whole, len, string_len-is (44 ∷ a.tags) a.front a.spelled) in
          let tags : tags_at end bytes ≡ Ok (a.tags, a.rest) = ap (tags_at end) a.parts ∙ tags_again end a.tags a.front a.rest a.spelled in
          rw (some, tags, a.known, all_found end (at + length a.front) a.tags a.rest kind place (omega (arith, is, len)) rest (omega (arith, small, len)) a.why) refl
    ]

-- ---- the message

pub message_found : (end at : ℕ) (bytes : List ℕ) (kind : PacketKind) (place : ℕ) → at + length bytes ≡ end → length bytes % 4 ≡ 0 → length bytes < 2 ^ 31 → MessageFault at bytes kind place → message_in end bytes ≡ fault kind place
unfolding message_in
message_found end at bytes kind place is whole small h =
    elim h [
      | inl a ↦ rw (string_found end at bytes kind place is whole a) refl
      | inr a ↦
          let len : length bytes ≡ length a.front + length a.rest = ap length a.parts ∙ length-append a.front a.rest in
          let rest : length a.rest % 4 ≡ 0 = omega (arith, whole, len, string_len-is a.address a.front a.spelled) in
          let address : string_at end bytes ≡ Ok (a.address, a.rest) = ap (string_at end) a.parts ∙ string_again end a.address a.front a.rest a.spelled in
          rw (address, body_found end (at + length a.front) a.rest kind place (omega (arith, is, len)) rest (omega (arith, small, len)) a.why) refl
    ]
