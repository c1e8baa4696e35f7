-- Lengths of messages, and replies that can be sent.
use Rattle.std.proofs.Common.{◌≡◌, ◌≤◌, ◌<◌, ℕ, zero, suc, ◌+◌, ◌-◌, ◌*◌, ◌^◌, ◌%◌, Bool, true, false, not, ◌&&◌, List, [], ◌∷◌, ◌++◌, length, map, replicate, refl, ap, subst, ◌∙◌, arith, length-append}
use Rattle.std.specs.Prelude.{codes, ◌==◌}
use Rattle.std.specs.List.{list_all}
use Rattle.std.specs.Fmt.{decimal}
use Rattle.std.specs.Str.Parse.{AllDigits}
use Rattle.std.proofs.lemmas.Fmt.{decimal_is_IsNumeral, length-decimal-le}
use Rattle.std.proofs.lemmas.List.{length-map, length-replicate}
use Rattle.std.proofs.lemmas.Grind.{common_steps}
use Rattle.std.proofs.lemmas.List.Folds.{list_all-append}
use Rattle.sn_osc.specs.Shape.{Argument, string, BodyShape, arguments, MessageShape}
use Rattle.sn_osc.specs.Bytes.{begins_with, is_body, body_bytes, string_bytes, argument_bytes, arguments_bytes, tags_bytes, tag_of, has_no_null, is_argument}
use Rattle.sn_osc.proofs.Encoded.{four_each}
use Rattle.sn_reply.specs.Failing.{definition_line}
use Rattle.sn_reply.specs.Sending.{IsSendable, IsAnswerable, IsShortText}
use Rattle.sn_reply.specs.Answering.{AreShort, IsAddress}

-- ---- tests

pub both : (a b : Bool) → a ≡ true → b ≡ true → (a && b) ≡ true
both a b p q = ap (λ c. c && b) p ∙ q

pub first-of : (a b : Bool) → (a && b) ≡ true → a ≡ true
first-of true b h = refl
first-of false b h = absurd cc

pub second-of : (a b : Bool) → (a && b) ≡ true → b ≡ true
second-of true b h = h
second-of false b h = absurd cc

-- ---- lengths

pub length-string_bytes : (s : List ℕ) → length (string_bytes s) ≡ length s + (4 - length s % 4)
length-string_bytes s = length-append s (replicate (4 - length s % 4) 0) ∙ ap (λ n. length s + n) (length-replicate (4 - length s % 4) 0)

pub length-arguments_bytes-least : (xs : List Argument) → 4 * length xs ≤ length (arguments_bytes xs)
length-arguments_bytes-least xs = four_each xs

-- a message of arguments has few of them, since each has a tag and at least four bytes
few-arguments : (address : List ℕ) (xs : List Argument) → IsAnswerable (record { address = address; body = arguments xs }) → 20 * length xs + 2 ^ 20 < 2 ^ 31
few-arguments address xs a =
    let tags = 44 ∷ map tag_of xs in
    let whole = length-append (string_bytes address) (string_bytes tags ++ arguments_bytes xs) in
    let body = length-append (string_bytes tags) (arguments_bytes xs) in
    let padded = length-string_bytes tags in
    let names : length (map tag_of xs) ≡ length xs = length-map xs tag_of in
    let least = length-arguments_bytes-least xs in
    let short = a.short in
    omega arith

-- ---- `/fail`

not_null : (c : ℕ) → (suc c == 0) ≡ false
not_null c = grind (arith, common_steps)

no_null-digits : (ds : List ℕ) → AllDigits 10 ds → has_no_null ds ≡ true
no_null-digits [] h = refl
no_null-digits (zero ∷ cs) h = absurd (omega (arith, h.0))
no_null-digits (suc c ∷ cs) h = ap (λ b. not b && has_no_null cs) (not_null c) ∙ no_null-digits cs h.1

pub no_null-definition_line : (line : ℕ) → line < 2 ^ 32 → has_no_null (definition_line line) ≡ true
no_null-definition_line line small =
    let wide : line < 2 ^ 64 = omega arith in
    list_all-append (λ b. not (b == 0)) (codes "definition line ") (decimal line) ∙ no_null-digits (decimal line) (decimal_is_IsNumeral line wide).0.1

pub length-definition_line : (line : ℕ) → line < 2 ^ 32 → length (definition_line line) ≤ 26
length-definition_line line small =
    let wide : line < 2 ^ 64 = omega arith in
    let ten : line < 10 ^ 10 = omega arith in
    omega (arith, length-append (codes "definition line ") (decimal line), length-decimal-le 10 line (omega arith) ten wide)

pub short-definition_line : (text : List ℕ) (line : ℕ) → line < 2 ^ 32 → text ≡ definition_line line → IsShortText text
short-definition_line text line small is = record {
  clean = ap has_no_null is ∙ no_null-definition_line line small;
  short = omega (arith, ap length is, length-definition_line line small);
}

-- the arguments of a message of two strings
length-two : (a b : List ℕ) → length (arguments_bytes (string a ∷ string b ∷ [])) ≤ length a + length b + 8
length-two a b =
    omega (arith, length-append (string_bytes a) (string_bytes b ++ []), length-append (string_bytes b) [], length-string_bytes a, length-string_bytes b)

pub sendable-fail : (address text : List ℕ) → IsShortText text → has_no_null address ≡ true → length address < 2 ^ 30
    → IsSendable (record { address = codes "/fail"; body = arguments (string address ∷ string text ∷ []) })
sendable-fail address text words clean short = record {
  valid = both (has_no_null address) (has_no_null text && true) clean (both (has_no_null text) true words.clean refl);
  short =
      let few = words.short in
      let two = length-two address text in
      let whole = length-append (string_bytes (codes "/fail")) (tags_bytes (115 ∷ 115 ∷ []) ++ arguments_bytes (string address ∷ string text ∷ [])) in
      let body = length-append (tags_bytes (115 ∷ 115 ∷ [])) (arguments_bytes (string address ∷ string text ∷ [])) in
      omega arith;
}

-- the address of a message that can be answered
pub answerable-address : (m : MessageShape) → IsAnswerable m → (has_no_null m.address ≡ true) × (length m.address < 2 ^ 30)
answerable-address m a =
    let clean = second-of (begins_with 47 m.address) (has_no_null m.address) (first-of (begins_with 47 m.address && has_no_null m.address) (is_body m.body) a.valid) in
    let whole = length-append (string_bytes m.address) (body_bytes m.body) in
    let address = length-string_bytes m.address in
    let short = a.short in
    (clean, omega arith)

pub few-arguments_of : (m : MessageShape) (xs : List Argument) → m.body ≡ arguments xs → IsAnswerable m → 20 * length xs + 2 ^ 20 < 2 ^ 31
few-arguments_of m xs is a = few-arguments m.address xs (subst (λ (b : BodyShape). IsAnswerable (record { address = m.address; body = b })) is a)

-- the bytes of a message's arguments
short-arguments : (address : List ℕ) (xs : List Argument) → IsAnswerable (record { address = address; body = arguments xs }) → 4 * length (arguments_bytes xs) + 2 ^ 20 < 2 ^ 31
short-arguments address xs a =
    let whole = length-append (string_bytes address) (tags_bytes (map tag_of xs) ++ arguments_bytes xs) in
    let body = length-append (tags_bytes (map tag_of xs)) (arguments_bytes xs) in
    let short = a.short in
    omega arith

pub short-arguments_of : (m : MessageShape) (xs : List Argument) → m.body ≡ arguments xs → IsAnswerable m → 4 * length (arguments_bytes xs) + 2 ^ 20 < 2 ^ 31
short-arguments_of m xs is a = short-arguments m.address xs (subst (λ (b : BodyShape). IsAnswerable (record { address = m.address; body = b })) is a)

-- ---- replies of numbers and short names

all-valid : (xs : List Argument) → AreShort xs → list_all is_argument xs ≡ true
all-valid [] all = refl
all-valid (x ∷ xs) all = both (is_argument x) (list_all is_argument xs) all.0.valid (all-valid xs all.1)

few-bytes : (xs : List Argument) → AreShort xs → length (arguments_bytes xs) ≤ 64 * length xs
few-bytes [] all = omega arith
few-bytes (x ∷ xs) all = omega (arith, length-append (argument_bytes x) (arguments_bytes xs), all.0.short, few-bytes xs all.1)

pub sendable_long : (address : List ℕ) (xs : List Argument) → IsAddress address → AreShort xs → length (arguments_bytes xs) + length xs + 256 < 2 ^ 31 → IsSendable (record { address = address; body = arguments xs })
sendable_long address xs is all few = record {
  valid = both (begins_with 47 address && has_no_null address) (list_all is_argument xs) (both (begins_with 47 address) (has_no_null address) is.begins is.clean) (all-valid xs all);
  short =
      let tags = 44 ∷ map tag_of xs in
      let whole = length-append (string_bytes address) (string_bytes tags ++ arguments_bytes xs) in
      let body = length-append (string_bytes tags) (arguments_bytes xs) in
      let front = length-string_bytes address in
      let padded = length-string_bytes tags in
      let names : length (map tag_of xs) ≡ length xs = length-map xs tag_of in
      let short = is.short in
      omega arith;
}

pub sendable_answer : (address : List ℕ) (xs : List Argument) → IsAddress address → AreShort xs → length xs < 2 ^ 24 → IsSendable (record { address = address; body = arguments xs })
sendable_answer address xs is all few = sendable_long address xs is all (omega (arith, few-bytes xs all))
