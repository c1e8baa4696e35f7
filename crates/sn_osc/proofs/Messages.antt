-- A message that is read is the one that is spelled, and what is spelled is read.
use Rattle.std.proofs.Common.{◌≡◌, ℕ, ◌-◌, ◌%◌, ◌^◌, ◌<◌, ◌≤◌, Bool, true, false, not, cond, ltb, eqb, ◌&&◌, List, [], ◌∷◌, ◌++◌, length, take, drop, map, Result, Ok, refl, sym, ap, subst, ◌∙◌, append_assoc, append-nil, arith, ne_eqb}
use Rattle.std.specs.List.{list_all}
use Rattle.std.proofs.lemmas.Bool.{ltb-false, le-ltb, eqb-true}
use Rattle.std.proofs.lemmas.List.{take-append-drop, length-append, nil_from_length}
use Rattle.sn_osc.specs.declared.fault.PacketFault.{PacketFault}
use Rattle.sn_osc.specs.declared.fault.PacketKind.TheVariants.{LongArgs}
use Rattle.sn_osc.specs.Shape.{Argument, int, string, blob, BodyShape, bare, arguments, foreign, MessageShape}
use Rattle.sn_osc.specs.Bytes.{string_bytes, tag_of, begins_with, is_argument_tag}
use Rattle.sn_osc.specs.Grammar.{SpellsString, SpellsArgument, SpellsArguments, SpellsBody, SpellsMessage}
use Rattle.sn_osc.specs.Reading.{◌>>=◌, fault, int_in, text_len, string_len, is_ended, padded_at, string_at, blob_at, argument_at, arguments_at, tags_at, arguments_in, body_in, message_in}
use Rattle.sn_osc.proofs.Fields.{IsBytes, IsBytes-drop, bind_ok, guard_not, guard_yes, ok_is, and_yes, not_yes, Takes, then_takes, int_takes, int_again, string_takes, string_again, string_len-is, blob_takes, blob_again, blob_len-is}

-- ---- one argument

abbrev pub ArgumentTaken : ℕ → List ℕ → Argument × List ℕ → Type 0
ArgumentTaken tag bytes x = (front : List ℕ) × SpellsArgument x.0 front × (tag_of x.0 ≡ tag) × Takes bytes front x.1

abbrev pub read_string : ℕ → List ℕ → Result (Argument × List ℕ) PacketFault
read_string end bytes = string_at end bytes >>= λ s. Ok (string s.0, s.1)

abbrev pub read_blob : ℕ → List ℕ → Result (Argument × List ℕ) PacketFault
read_blob end bytes = blob_at end bytes >>= λ b. Ok (blob b.0, b.1)

argument_by_tag : (end tag : ℕ) (bytes : List ℕ) (x : Argument × List ℕ) (i s : Bool) → eqb tag 105 ≡ i → eqb tag 115 ≡ s → IsBytes bytes → cond i true (cond s true (eqb tag 98)) ≡ true → 4 ≤ length bytes → length bytes < 2 ^ 31
    → cond i (Ok (int (int_in bytes), drop 4 bytes)) (cond s (read_string end bytes) (read_blob end bytes)) ≡ Ok x → ArgumentTaken tag bytes x
argument_by_tag end tag bytes x true s is-i is-s fits known long small e =
    subst (ArgumentTaken tag bytes) (ok_is (int (int_in bytes), drop 4 bytes) x e)
    (take 4 bytes, int_takes bytes fits long, sym (eqb-true _ _ is-i), record { parts = sym (take-append-drop 4 bytes); rest_fits = IsBytes-drop 4 bytes fits })
argument_by_tag end tag bytes x false true is-i is-s fits known long small e =
    let b = bind_ok (string_at end bytes) (λ s. Ok (string s.0, s.1)) x e in
    let t = string_takes end bytes b.0 fits b.1 in
    subst (ArgumentTaken tag bytes) (ok_is (string b.0.0, b.0.1) x b.2) (t.0, t.1, sym (eqb-true _ _ is-s), t.2)
argument_by_tag end tag bytes x false false is-i is-s fits known long small e =
    let b = bind_ok (blob_at end bytes) (λ s. Ok (blob s.0, s.1)) x e in
    let t = blob_takes end bytes b.0 fits long small b.1 in
    subst (ArgumentTaken tag bytes) (ok_is (blob b.0.0, b.0.1) x b.2) (t.0, t.1, sym (eqb-true _ _ known), t.2)

pub argument_takes : (end tag : ℕ) (bytes : List ℕ) (x : Argument × List ℕ) → IsBytes bytes → is_argument_tag tag ≡ true → length bytes < 2 ^ 31 → argument_at end tag bytes ≡ Ok x → ArgumentTaken tag bytes x
unfolding argument_at
argument_takes end tag bytes x fits known small e =
    let g = guard_not (ltb (length bytes) 4) _ (cond (eqb tag 105) (Ok (int (int_in bytes), drop 4 bytes)) (cond (eqb tag 115) (read_string end bytes) (read_blob end bytes))) x e in
    argument_by_tag end tag bytes x (eqb tag 105) (eqb tag 115) refl refl fits known (ltb-false _ _ g.0) small g.1

pub argument_again : (end : ℕ) (x : Argument) (front rest : List ℕ) → SpellsArgument x front → argument_at end (tag_of x) (front ++ rest) ≡ Ok (x, rest)
unfolding argument_at
argument_again end (int n) front rest h =
    let t = int_again n front rest h in
    let long : ltb (length (front ++ rest)) 4 ≡ false = le-ltb _ _ (omega (arith, length-append front rest, t.2)) in
    rw (long, t.0, t.1) refl
argument_again end (string s) front rest h =
    let long : ltb (length (front ++ rest)) 4 ≡ false = le-ltb _ _ (omega (arith, length-append front rest, string_len-is s front h)) in
    rw (long, string_again end s front rest h) refl
argument_again end (blob b) front rest h =
    let long : ltb (length (front ++ rest)) 4 ≡ false = le-ltb _ _ (omega (arith, length-append front rest, blob_len-is b front h)) in
    rw (long, blob_again end b front rest h) refl

-- ---- the arguments

abbrev pub ArgumentsTaken : List ℕ → List ℕ → List Argument × List ℕ → Type 0
ArgumentsTaken tags bytes x = (front : List ℕ) × SpellsArguments x.0 front × (map tag_of x.0 ≡ tags) × Takes bytes front x.1

pub arguments_take : (end : ℕ) (tags bytes : List ℕ) (x : List Argument × List ℕ) → IsBytes bytes → list_all is_argument_tag tags ≡ true → length bytes < 2 ^ 31 → arguments_at end tags bytes ≡ Ok x → ArgumentsTaken tags bytes x
unfolding arguments_at
arguments_take end [] bytes x fits known small e = subst (ArgumentsTaken [] bytes) (ok_is ([], bytes) x e) ([], refl, refl, record { parts = refl; rest_fits = fits })
arguments_take end (tag ∷ tags) bytes x fits known small e =
    let tests = and_yes (is_argument_tag tag) (list_all is_argument_tag tags) known in
    let a = bind_ok (argument_at end tag bytes) (λ first. arguments_at end tags first.1 >>= λ others. Ok (first.0 ∷ others.0, others.1)) x e in
    let b = bind_ok (arguments_at end tags a.0.1) (λ others. Ok (a.0.0 ∷ others.0, others.1)) x a.2 in
    let first = argument_takes end tag bytes a.0 fits tests.0 small a.1 in
    let fewer : length a.0.1 < 2 ^ 31 = omega (arith, ap length first.3.parts, length-append first.0 a.0.1, small) in
    let others = arguments_take end tags a.0.1 b.0 first.3.rest_fits tests.1 fewer b.1 in
    subst (ArgumentsTaken (tag ∷ tags) bytes) (ok_is (a.0.0 ∷ b.0.0, b.0.1) x b.2)
    (first.0 ++ others.0, (first.0, others.0, first.1, others.1, refl), ap (λ t. tag_of a.0.0 ∷ t) others.2 ∙ ap (λ t. t ∷ tags) first.2, then_takes bytes first.0 a.0.1 others.0 b.0.1 first.3 others.3)

pub arguments_again : (end : ℕ) (xs : List Argument) (front rest : List ℕ) → SpellsArguments xs front → arguments_at end (map tag_of xs) (front ++ rest) ≡ Ok (xs, rest)
unfolding arguments_at
arguments_again end [] front rest h = ap (λ (t : List ℕ). Ok ([], t ++ rest)) h
arguments_again end (x ∷ xs) front rest h =
    let (first, others, spelled, more, parts) = h in
    let bytes : front ++ rest ≡ first ++ (others ++ rest) = ap (λ (t : List ℕ). t ++ rest) parts ∙ append_assoc first others rest in
    ap (arguments_at end (tag_of x ∷ map tag_of xs)) bytes ∙ rw (argument_again end x first (others ++ rest) spelled, arguments_again end xs others rest more) refl

pub known_tags : (xs : List Argument) → list_all is_argument_tag (map tag_of xs) ≡ true
known_tags [] = refl
known_tags (int n ∷ xs) = known_tags xs
known_tags (string s ∷ xs) = known_tags xs
known_tags (blob b ∷ xs) = known_tags xs

-- ---- the tags

-- the string at the start begins as the bytes do
pub first_byte : (k : ℕ) (s bytes front rest : List ℕ) → eqb 0 k ≡ false → front ≡ string_bytes s → bytes ≡ front ++ rest → begins_with k bytes ≡ true → begins_with k s ≡ true
first_byte k [] bytes front rest other spelled parts begins =
    let zero_first : begins_with k bytes ≡ eqb 0 k = ap (begins_with k) (parts ∙ ap (λ (t : List ℕ). t ++ rest) spelled) in
    absurd (let e : true ≡ false = sym begins ∙ zero_first ∙ other in cc)
first_byte k (x ∷ xs) bytes front rest other spelled parts begins = sym (ap (begins_with k) (parts ∙ ap (λ (t : List ℕ). t ++ rest) spelled)) ∙ begins

pub begins_with-append : (k : ℕ) (s front rest : List ℕ) → front ≡ string_bytes s → begins_with k s ≡ true → begins_with k (front ++ rest) ≡ true
begins_with-append k [] front rest spelled begins = absurd cc
begins_with-append k (x ∷ xs) front rest spelled begins = ap (λ (t : List ℕ). begins_with k (t ++ rest)) spelled ∙ begins

comma_is : (s : List ℕ) → begins_with 44 s ≡ true → 44 ∷ drop 1 s ≡ s
comma_is [] begins = absurd cc
comma_is (x ∷ xs) begins = ap (λ k. k ∷ xs) (sym (eqb-true _ _ begins))

pub string_ended : (end : ℕ) (bytes : List ℕ) (x : List ℕ × List ℕ) → string_at end bytes ≡ Ok x → is_ended bytes ≡ true
unfolding string_at
string_ended end bytes x e = (guard_yes (is_ended bytes) _ (padded_at end (text_len bytes) (string_len (text_len bytes)) bytes) x e).0

abbrev pub TagsTaken : List ℕ → List ℕ × List ℕ → Type 0
TagsTaken bytes x = (front : List ℕ) × SpellsString (44 ∷ x.0) front × Takes bytes front x.1

pub tags_take : (end : ℕ) (bytes : List ℕ) (x : List ℕ × List ℕ) → IsBytes bytes → tags_at end bytes ≡ Ok x → TagsTaken bytes x
unfolding tags_at
tags_take end bytes x fits e =
    let g = guard_not (is_ended bytes && not (begins_with 44 bytes)) _ (string_at end bytes >>= λ tagged. Ok (drop 1 tagged.0, tagged.1)) x e in
    let b = bind_ok (string_at end bytes) (λ tagged. Ok (drop 1 tagged.0, tagged.1)) x g.1 in
    let t = string_takes end bytes b.0 fits b.1 in
    let begins = no_other (is_ended bytes) (begins_with 44 bytes) (string_ended end bytes b.0 b.1) g.0 in
    let comma = comma_is b.0.0 (first_byte 44 b.0.0 bytes t.0 b.0.1 refl t.1.1 t.2.parts begins) in
    subst (TagsTaken bytes) (ok_is (drop 1 b.0.0, b.0.1) x b.2) (t.0, subst (λ s. SpellsString s t.0) (sym comma) t.1, t.2)
  where
    no_other : (a b : Bool) → a ≡ true → (a && not b) ≡ false → b ≡ true
    no_other true true is e = refl
    no_other true false is e = absurd cc
    no_other false b is e = absurd cc

pub tags_again : (end : ℕ) (ts front rest : List ℕ) → SpellsString (44 ∷ ts) front → tags_at end (front ++ rest) ≡ Ok (ts, rest)
unfolding tags_at
tags_again end ts front rest h =
    let read = string_again end (44 ∷ ts) front rest h in
    let comma : begins_with 44 (front ++ rest) ≡ true = begins_with-append 44 (44 ∷ ts) front rest h.1 refl in
    rw (string_ended end (front ++ rest) (44 ∷ ts, rest) read, comma, read) refl

-- ---- the body

arguments_all : (end : ℕ) (tags bytes : List ℕ) (xs : List Argument) → IsBytes bytes → list_all is_argument_tag tags ≡ true → length bytes < 2 ^ 31 → arguments_in end tags bytes ≡ Ok xs
    → SpellsArguments xs bytes × (map tag_of xs ≡ tags)
unfolding arguments_in
arguments_all end tags bytes xs fits known small e =
    let b = bind_ok (arguments_at end tags bytes) (λ ys. cond (eqb (length ys.1) 0) (Ok ys.0) (fault LongArgs (end - length ys.1))) xs e in
    let g = guard_yes (eqb (length b.0.1) 0) _ (Ok b.0.0) xs b.2 in
    let t = arguments_take end tags bytes b.0 fits known small b.1 in
    let none_left : b.0.1 ≡ [] = nil_from_length b.0.1 (eqb-true _ _ g.0) in
    let whole : bytes ≡ t.0 = t.3.parts ∙ ap (λ (r : List ℕ). t.0 ++ r) none_left ∙ append-nil t.0 in
    subst (λ ys. SpellsArguments ys bytes × (map tag_of ys ≡ tags)) (ok_is b.0.0 xs g.1) (subst (SpellsArguments b.0.0) (sym whole) t.1, t.2)

arguments_all_again : (end : ℕ) (xs : List Argument) (bytes : List ℕ) → SpellsArguments xs bytes → arguments_in end (map tag_of xs) bytes ≡ Ok xs
unfolding arguments_in
arguments_all_again end xs bytes h =
    let whole : bytes ≡ bytes ++ [] = sym (append-nil bytes) in
    let read : arguments_at end (map tag_of xs) bytes ≡ Ok (xs, []) = ap (arguments_at end (map tag_of xs)) whole ∙ arguments_again end xs bytes [] h in
    rw read refl

abbrev pub read_body : ℕ → Bool → List ℕ × List ℕ → Result BodyShape PacketFault
read_body end known tags = cond known (arguments_in end tags.0 tags.1 >>= λ xs. Ok (arguments xs)) (Ok (foreign tags.0 tags.1))

body_by_tags : (end : ℕ) (bytes : List ℕ) (x : BodyShape) (tags : List ℕ × List ℕ) (known : Bool) → list_all is_argument_tag tags.0 ≡ known → length bytes < 2 ^ 31 → length bytes % 4 ≡ 0 → TagsTaken bytes tags
    → read_body end known tags ≡ Ok x → SpellsBody x bytes
body_by_tags end bytes x tags true known small whole t e =
    let b = bind_ok (arguments_in end tags.0 tags.1) (λ xs. Ok (arguments xs)) x e in
    let fewer : length tags.1 < 2 ^ 31 = omega (arith, ap length t.2.parts, length-append t.0 tags.1, small) in
    let given = arguments_all end tags.0 tags.1 b.0 t.2.rest_fits known fewer b.1 in
    subst (λ y. SpellsBody y bytes) (ok_is (arguments b.0) x b.2) (t.0, tags.1, subst (λ ts. SpellsString (44 ∷ ts) t.0) (sym given.1) t.1, given.0, t.2.parts)
body_by_tags end bytes x tags false known small whole t e =
    let rest : length tags.1 % 4 ≡ 0 = omega (arith, ap length t.2.parts, length-append t.0 tags.1, string_len-is (44 ∷ tags.0) t.0 t.1, whole) in
    subst (λ y. SpellsBody y bytes) (ok_is (foreign tags.0 tags.1) x e) (t.0, t.1, ap not known, rest, t.2.parts)

body_by_length : (end : ℕ) (bytes : List ℕ) (x : BodyShape) (none : Bool) → eqb (length bytes) 0 ≡ none → IsBytes bytes → length bytes < 2 ^ 31 → length bytes % 4 ≡ 0
    → cond none (Ok bare) (tags_at end bytes >>= λ tags. read_body end (list_all is_argument_tag tags.0) tags) ≡ Ok x → SpellsBody x bytes
body_by_length end bytes x true none fits small whole e = subst (λ y. SpellsBody y bytes) (ok_is bare x e) (nil_from_length bytes (eqb-true _ _ none))
body_by_length end bytes x false none fits small whole e =
    let b = bind_ok (tags_at end bytes) (λ tags. read_body end (list_all is_argument_tag tags.0) tags) x e in
    body_by_tags end bytes x b.0 (list_all is_argument_tag b.0.0) refl small whole (tags_take end bytes b.0 fits b.1) b.2

body_takes : (end : ℕ) (bytes : List ℕ) (x : BodyShape) → IsBytes bytes → length bytes < 2 ^ 31 → length bytes % 4 ≡ 0 → body_in end bytes ≡ Ok x → SpellsBody x bytes
unfolding body_in
body_takes end bytes x fits small whole e = body_by_length end bytes x (eqb (length bytes) 0) refl fits small whole e

pub some_bytes : (s front rest : List ℕ) → SpellsString s front → eqb (length (front ++ rest)) 0 ≡ false
some_bytes s front rest h = ne_eqb _ _ (λ e. omega (arith, e, length-append front rest, string_len-is s front h))

body_again : (end : ℕ) (x : BodyShape) (bytes : List ℕ) → SpellsBody x bytes → body_in end bytes ≡ Ok x
unfolding body_in
body_again end bare bytes h = ap (body_in end) h
body_again end (arguments xs) bytes h =
    let (tags, rest, spelled, given, parts) = h in
    ap (body_in end) parts ∙ rw (some_bytes (44 ∷ map tag_of xs) tags rest spelled, tags_again end (map tag_of xs) tags rest spelled, known_tags xs, arguments_all_again end xs rest given) refl
body_again end (foreign ts rest) bytes h =
    let (tags, spelled, other, whole, parts) = h in
    ap (body_in end) parts ∙ rw (some_bytes (44 ∷ ts) tags rest spelled, tags_again end ts tags rest spelled, not_yes (list_all is_argument_tag ts) other) refl

-- ---- the message

pub message_takes : (end : ℕ) (bytes : List ℕ) (x : MessageShape) → IsBytes bytes → length bytes < 2 ^ 31 → length bytes % 4 ≡ 0 → begins_with 47 bytes ≡ true → message_in end bytes ≡ Ok x → SpellsMessage x bytes
unfolding message_in
message_takes end bytes x fits small whole slash e =
    let a = bind_ok (string_at end bytes) (λ address. body_in end address.1 >>= λ body. Ok (record { address = address.0; body = body })) x e in
    let b = bind_ok (body_in end a.0.1) (λ body. Ok (record { address = a.0.0; body = body })) x a.2 in
    let t = string_takes end bytes a.0 fits a.1 in
    let len = string_len-is a.0.0 t.0 t.1 in
    let fewer : length a.0.1 < 2 ^ 31 = omega (arith, ap length t.2.parts, length-append t.0 a.0.1, small) in
    let rest : length a.0.1 % 4 ≡ 0 = omega (arith, ap length t.2.parts, length-append t.0 a.0.1, len, whole) in
    let body = body_takes end a.0.1 b.0 t.2.rest_fits fewer rest b.1 in
    subst (λ m. SpellsMessage m bytes) (ok_is (record { address = a.0.0; body = b.0 }) x b.2) (t.0, a.0.1, first_byte 47 a.0.0 bytes t.0 a.0.1 refl t.1.1 t.2.parts slash, t.1, body, t.2.parts)

pub message_again : (end : ℕ) (x : MessageShape) (bytes : List ℕ) → SpellsMessage x bytes → message_in end bytes ≡ Ok x
unfolding message_in
message_again end x bytes h =
    let (address, rest, slash, spelled, body, parts) = h in
    ap (message_in end) parts ∙ rw (string_again end x.address address rest spelled, body_again end x.body rest body) refl

pub message_slash : (x : MessageShape) (bytes : List ℕ) → SpellsMessage x bytes → begins_with 47 bytes ≡ true
message_slash x bytes h =
    let (address, rest, slash, spelled, body, parts) = h in
    ap (begins_with 47) parts ∙ begins_with-append 47 x.address address rest spelled.1 slash

-- ---- lengths are multiples of 4

pub argument_whole : (x : Argument) (bytes : List ℕ) → SpellsArgument x bytes → length bytes % 4 ≡ 0
argument_whole (int n) bytes h = omega (arith, ap length h.1)
argument_whole (string s) bytes h = omega (arith, string_len-is s bytes h)
argument_whole (blob b) bytes h = omega (arith, blob_len-is b bytes h)

pub arguments_whole : (xs : List Argument) (bytes : List ℕ) → SpellsArguments xs bytes → length bytes % 4 ≡ 0
arguments_whole [] bytes h = omega (arith, ap length h)
arguments_whole (x ∷ xs) bytes h =
    let (front, rest, spelled, others, parts) = h in
    omega (arith, ap length parts, length-append front rest, argument_whole x front spelled, arguments_whole xs rest others)

body_whole : (x : BodyShape) (bytes : List ℕ) → SpellsBody x bytes → length bytes % 4 ≡ 0
body_whole bare bytes h = omega (arith, ap length h)
body_whole (arguments xs) bytes h =
    let (tags, rest, spelled, given, parts) = h in
    omega (arith, ap length parts, length-append tags rest, string_len-is (44 ∷ map tag_of xs) tags spelled, arguments_whole xs rest given)
body_whole (foreign ts rest) bytes h =
    let (tags, spelled, other, whole, parts) = h in
    omega (arith, ap length parts, length-append tags rest, string_len-is (44 ∷ ts) tags spelled, whole)

pub message_whole : (x : MessageShape) (bytes : List ℕ) → SpellsMessage x bytes → (4 ≤ length bytes) × (length bytes % 4 ≡ 0)
message_whole x bytes h =
    let (address, rest, slash, spelled, body, parts) = h in
    let len = string_len-is x.address address spelled in
    (omega (arith, ap length parts, length-append address rest, len), omega (arith, ap length parts, length-append address rest, len, body_whole x.body rest body))
