-- The bytes of a packet are its one spelling.
use Rattle.std.proofs.Common.{◌≡◌, ℕ, zero, suc, ◌-◌, ◌*◌, ◌%◌, ◌^◌, ◌<◌, ◌≤◌, Bool, true, not, ltb, eqb, ◌&&◌, List, [], ◌∷◌, ◌++◌, length, map, replicate, refl, sym, ap, subst, ◌∙◌, append_assoc, arith, eq-eqb}
use Rattle.std.specs.Int.{w32, w64, to_be_bytes}
use Rattle.std.specs.List.{list_all}
use Rattle.std.proofs.lemmas.Bool.{and_from, ltb-true, lt-ltb, eqb-true}
use Rattle.std.proofs.lemmas.List.{length-append, length-replicate}
use Rattle.sn_osc.specs.Shape.{Argument, int, string, blob, BodyShape, bare, arguments, foreign, MessageShape, Shape, Shapes, message, bundle, none, more}
use Rattle.sn_osc.specs.Bytes.{string_bytes, argument_bytes, arguments_bytes, tag_of, body_bytes, message_bytes, bundle_head, packet_bytes, elements_bytes, has_no_null, begins_with, is_argument, is_argument_tag, is_body, is_message, counts_as, is_early, is_packet, are_packets}
use Rattle.sn_osc.specs.Grammar.{SpellsArgument, SpellsArguments, SpellsBody, SpellsMessage, SpellsWithin, SpellsElements, Spells, IsSpellable}
use Rattle.sn_osc.proofs.Fields.{and_yes}

-- ---- what is spelled is allowed, and its spelling is the bytes

argument_is : (x : Argument) (bytes : List ℕ) → SpellsArgument x bytes → (bytes ≡ argument_bytes x) × (is_argument x ≡ true)
argument_is (int n) bytes h = (h.1, h.0)
argument_is (string s) bytes h = (h.1, h.0)
argument_is (blob b) bytes h = (h.1, refl)

arguments_are : (xs : List Argument) (bytes : List ℕ) → SpellsArguments xs bytes → (bytes ≡ arguments_bytes xs) × (list_all is_argument xs ≡ true)
arguments_are [] bytes h = (h, refl)
arguments_are (x ∷ xs) bytes h =
    let (front, rest, spelled, others, parts) = h in
    let a = argument_is x front spelled in
    let b = arguments_are xs rest others in
    (parts ∙ ap (λ (t : List ℕ). t ++ rest) a.0 ∙ ap (λ (t : List ℕ). argument_bytes x ++ t) b.0, and_from _ _ a.1 b.1)

-- the tags of arguments have no null byte
tags_have_none : (xs : List Argument) → has_no_null (map tag_of xs) ≡ true
tags_have_none [] = refl
tags_have_none (int n ∷ xs) = tags_have_none xs
tags_have_none (string s ∷ xs) = tags_have_none xs
tags_have_none (blob b ∷ xs) = tags_have_none xs

body_is : (x : BodyShape) (bytes : List ℕ) → SpellsBody x bytes → (bytes ≡ body_bytes x) × (is_body x ≡ true)
body_is bare bytes h = (h, refl)
body_is (arguments xs) bytes h =
    let (tags, rest, spelled, given, parts) = h in
    let b = arguments_are xs rest given in
    (parts ∙ ap (λ (t : List ℕ). t ++ rest) spelled.1 ∙ ap (λ (t : List ℕ). string_bytes (44 ∷ map tag_of xs) ++ t) b.0, b.1)
body_is (foreign ts rest) bytes h =
    let (tags, spelled, other, whole, parts) = h in
    (parts ∙ ap (λ (t : List ℕ). t ++ rest) spelled.1, and_from _ _ (and_from _ _ spelled.0 other) (eq-eqb _ _ whole))

message_is : (x : MessageShape) (bytes : List ℕ) → SpellsMessage x bytes → (bytes ≡ message_bytes x) × (is_message x ≡ true)
message_is x bytes h =
    let (address, rest, slash, spelled, body, parts) = h in
    let b = body_is x.body rest body in
    (parts ∙ ap (λ (t : List ℕ). t ++ rest) spelled.1 ∙ ap (λ (t : List ℕ). string_bytes x.address ++ t) b.0, and_from _ _ (and_from _ _ slash spelled.0) b.1)

mutual
  pub packet_is : (x : Shape) (deep around : ℕ) (bytes : List ℕ) → SpellsWithin deep around x bytes → (bytes ≡ packet_bytes x) × (is_packet deep around x ≡ true)
  packet_is (message m) deep around bytes h = message_is m bytes h
  packet_is (bundle tag inner) zero around bytes h = absurd h
  packet_is (bundle tag inner) (suc deep) around bytes h =
      let (rest, fits, late, spelled, parts) = h in
      let inside = elements_are inner deep (counts_as around tag) rest spelled in
      (parts ∙ ap (λ (t : List ℕ). bundle_head ++ to_be_bytes w64 tag ++ t) inside.0, and_from _ _ (and_from _ _ (lt-ltb _ _ fits) late) inside.1)

  pub elements_are : (xs : Shapes) (deep around : ℕ) (bytes : List ℕ) → SpellsElements deep around xs bytes → (bytes ≡ elements_bytes xs) × (are_packets deep around xs ≡ true)
  elements_are none deep around bytes h = (h, refl)
  elements_are (more x xs) deep around bytes h =
      let (front, rest, short, spelled, others, parts) = h in
      let a = packet_is x deep around front spelled in
      let b = elements_are xs deep around rest others in
      (parts ∙ ap (λ (t : List ℕ). to_be_bytes w32 (length t) ++ t ++ rest) a.0 ∙ ap (λ (t : List ℕ). to_be_bytes w32 (length (packet_bytes x)) ++ packet_bytes x ++ t) b.0, and_from _ _ a.1 b.1)

-- ---- what is allowed is spelled by its bytes, if these are few enough

argument_spelled : (x : Argument) → is_argument x ≡ true → length (argument_bytes x) < 2 ^ 31 → SpellsArgument x (argument_bytes x)
argument_spelled (int n) h small = (h, refl)
argument_spelled (string s) h small = (h, refl)
argument_spelled (blob b) h small =
    (omega (arith, small, length-append (to_be_bytes w32 (length b) ++ b) (replicate ((4 - length b % 4) % 4) 0), length-append (to_be_bytes w32 (length b)) b), refl)

arguments_spelled : (xs : List Argument) → list_all is_argument xs ≡ true → length (arguments_bytes xs) < 2 ^ 31 → SpellsArguments xs (arguments_bytes xs)
arguments_spelled [] h small = refl
arguments_spelled (x ∷ xs) h small =
    let tests = and_yes (is_argument x) (list_all is_argument xs) h in
    let len = length-append (argument_bytes x) (arguments_bytes xs) in
    (argument_bytes x, arguments_bytes xs, argument_spelled x tests.0 (omega (arith, small, len)), arguments_spelled xs tests.1 (omega (arith, small, len)), refl)

body_spelled : (x : BodyShape) → is_body x ≡ true → length (body_bytes x) < 2 ^ 31 → SpellsBody x (body_bytes x)
body_spelled bare h small = refl
body_spelled (arguments xs) h small =
    (string_bytes (44 ∷ map tag_of xs), arguments_bytes xs, (tags_have_none xs, refl), arguments_spelled xs h (omega (arith, small, length-append (string_bytes (44 ∷ map tag_of xs)) (arguments_bytes xs))), refl)
body_spelled (foreign ts rest) h small =
    let tests = and_yes (has_no_null ts && not (list_all is_argument_tag ts)) (eqb (length rest % 4) 0) h in
    let tags = and_yes (has_no_null ts) (not (list_all is_argument_tag ts)) tests.0 in
    (string_bytes (44 ∷ ts), (tags.0, refl), tags.1, eqb-true _ _ tests.1, refl)

message_spelled : (x : MessageShape) → is_message x ≡ true → length (message_bytes x) < 2 ^ 31 → SpellsMessage x (message_bytes x)
message_spelled x h small =
    let tests = and_yes (begins_with 47 x.address && has_no_null x.address) (is_body x.body) h in
    let address = and_yes (begins_with 47 x.address) (has_no_null x.address) tests.0 in
    (string_bytes x.address, body_bytes x.body, address.0, (address.1, refl), body_spelled x.body tests.1 (omega (arith, small, length-append (string_bytes x.address) (body_bytes x.body))), refl)

mutual
  pub packet_spelled : (x : Shape) (deep around : ℕ) → is_packet deep around x ≡ true → length (packet_bytes x) < 2 ^ 31 → SpellsWithin deep around x (packet_bytes x)
  packet_spelled (message m) deep around h small = message_spelled m h small
  packet_spelled (bundle tag inner) zero around h small = absurd cc
  packet_spelled (bundle tag inner) (suc deep) around h small =
      let tests = and_yes (ltb tag (2 ^ 64) && not (is_early around tag)) (are_packets deep (counts_as around tag) inner) h in
      let tags = and_yes (ltb tag (2 ^ 64)) (not (is_early around tag)) tests.0 in
      (elements_bytes inner, ltb-true _ _ tags.0, tags.1, elements_spelled inner deep (counts_as around tag) tests.1 (omega (arith, small, length-append (bundle_head ++ to_be_bytes w64 tag) (elements_bytes inner))), refl)

  pub elements_spelled : (xs : Shapes) (deep around : ℕ) → are_packets deep around xs ≡ true → length (elements_bytes xs) < 2 ^ 31 → SpellsElements deep around xs (elements_bytes xs)
  elements_spelled none deep around h small = refl
  elements_spelled (more x xs) deep around h small =
      let tests = and_yes (is_packet deep around x) (are_packets deep around xs) h in
      let len = length-append (to_be_bytes w32 (length (packet_bytes x)) ++ packet_bytes x) (elements_bytes xs) in
      let first = length-append (to_be_bytes w32 (length (packet_bytes x))) (packet_bytes x) in
      (packet_bytes x, elements_bytes xs, omega (arith, small, len, first), packet_spelled x deep around tests.0 (omega (arith, small, len, first)), elements_spelled xs deep around tests.1 (omega (arith, small, len, first)), refl)

-- ---- which packets have a spelling of fewer than 2 ^ 31 bytes

pub few_bytes : (x : Shape) → IsSpellable x → length (packet_bytes x) < 2 ^ 31
few_bytes x h =
    let (bytes, spelled, small) = h in
    omega (arith, small, ap length (packet_is x 8 1 bytes spelled).0)

pub is_spelled : (x : Shape) → IsSpellable x → Spells x (packet_bytes x)
is_spelled x h =
    let (bytes, spelled, small) = h in
    subst (Spells x) (packet_is x 8 1 bytes spelled).0 spelled

pub spellable_is : (x : Shape) → is_packet 8 1 x ≡ true → length (packet_bytes x) < 2 ^ 31 → IsSpellable x
spellable_is x h small = (packet_bytes x, packet_spelled x 8 1 h small, small)

pub spellable_tests : (x : Shape) → IsSpellable x → (is_packet 8 1 x ≡ true) × (length (packet_bytes x) < 2 ^ 31)
spellable_tests x h =
    let (bytes, spelled, small) = h in
    ((packet_is x 8 1 bytes spelled).1, few_bytes x h)

pub is_packet-deeper : (deep around : ℕ) (x y : Shape) (r : Bool) → 0 < deep → r ≡ is_packet (suc (deep - 1)) around y → x ≡ y → r ≡ is_packet deep around x
is_packet-deeper deep around x y r some is same =
    let deeper : suc (deep - 1) ≡ deep = omega arith in
    is ∙ ap (λ d. is_packet d around y) deeper ∙ ap (is_packet deep around) (sym same)

-- ---- bundles put one element after the other

pub bundle_put : (before head : List ℕ) (tag : ℕ) (inner : Shapes) → head ≡ before ++ bundle_head ++ to_be_bytes w64 tag → head ++ elements_bytes inner ≡ before ++ packet_bytes (bundle tag inner)
bundle_put before head tag inner is =
    ap (λ (t : List ℕ). t ++ elements_bytes inner) (is ∙ append_assoc before bundle_head (to_be_bytes w64 tag)) ∙ append_assoc before (bundle_head ++ to_be_bytes w64 tag) (elements_bytes inner)

pub few_inside : (tag : ℕ) (inner : Shapes) → length (packet_bytes (bundle tag inner)) < 2 ^ 31 → length (elements_bytes inner) < 2 ^ 31
few_inside tag inner few = omega (arith, few, length-append (bundle_head ++ to_be_bytes w64 tag) (elements_bytes inner))

-- ---- each argument has 4 bytes or more

pub four_each : (xs : List Argument) → 4 * length xs ≤ length (arguments_bytes xs)
four_each [] = omega arith
four_each (int n ∷ xs) = omega (arith, four_each xs, length-append (argument_bytes (int n)) (arguments_bytes xs))
four_each (string s ∷ xs) = omega (arith, four_each xs, length-append (string_bytes s) (arguments_bytes xs), length-append s (replicate (4 - length s % 4) 0), length-replicate {A = ℕ} (4 - length s % 4) 0)
four_each (blob b ∷ xs) =
    let k = (4 - length b % 4) % 4 in
    omega (arith, four_each xs, length-append (argument_bytes (blob b)) (arguments_bytes xs), length-append (to_be_bytes w32 (length b) ++ b) (replicate k 0), length-append (to_be_bytes w32 (length b)) b, length-replicate {A = ℕ} k 0)

pub few_arguments : (x : MessageShape) (xs : List Argument) → x.body ≡ arguments xs → 4 * length xs ≤ length (message_bytes x)
few_arguments x xs is =
    let whole : length (message_bytes x) ≡ length (string_bytes x.address ++ body_bytes (arguments xs)) = ap (λ b. length (string_bytes x.address ++ body_bytes b)) is in
    omega (arith, whole, length-append (string_bytes x.address) (body_bytes (arguments xs)), length-append (string_bytes (44 ∷ map tag_of xs)) (arguments_bytes xs), four_each xs)
