-- In how many bytes a packet spells, and what a message's line gives by that.
use Rattle.std.proofs.Common.{◌≡◌, ◌↔◌, ℕ, ◌^◌, ◌<◌, ◌≤◌, Bool, true, false, cond, leb, ◌&&◌, List, length, min, Option, Some, None, refl, sym, ap, ◌∙◌, arith, inl, inr}
use Rattle.std.specs.Prelude.{IsTrue}
use Rattle.std.specs.Str.{bytes_eq}
use Rattle.std.proofs.lemmas.Bool.{cases_lt, lt-leb, le-leb, and_from}
use Rattle.sn_osc.specs.Shape.{MessageShape, Shape, message}
use Rattle.sn_osc.specs.Bytes.{are_octets, message_bytes, packet_bytes, is_message}
use Rattle.sn_osc.specs.Grammar.{IsSpellable}
use Rattle.sn_osc.proofs.Encoded.{spellable_is, spellable_tests}
use Rattle.sn_score.specs.Lines.{message_line}
use Rattle.sn_score.specs.Reached.{Reached, with_packet, is_spelled, after_message_line}
use Rattle.sn_score.specs.Answers.{IsSpellingLen}

-- ---- how many bytes

pub no_spelling : (x : Shape) (b : Bool) → (IsTrue b ↔ IsSpellable x) → b ≡ false → IsSpellingLen None x
no_spelling x b is fails = λ allowed. elim (cases_lt (length (packet_bytes x)) (2 ^ 31)) [
  | inl lt ↦ let passes : b ≡ true = is.1 (spellable_is x allowed lt) in absurd cc
  | inr le ↦ omega (arith, le)
]

pub long_spelling : (x : Shape) (n : ℕ) → n ≡ min (length (packet_bytes x)) (2 ^ 31) → 65536 < n → IsSpellingLen None x
long_spelling x n is long = λ allowed. omega (arith, is, long)

pub some_spelling : (x : Shape) (b : Bool) (n : ℕ) → (IsTrue b ↔ IsSpellable x) → b ≡ true → are_octets (packet_bytes x) ≡ true → n ≡ min (length (packet_bytes x)) (2 ^ 31) → n ≤ 65536 → IsSpellingLen (Some n) x
some_spelling x b n is passes octets count short = ((spellable_tests x (is.0 passes)).0, octets, omega (arith, count, short), short)

-- ---- a message's line

pub after_spelled : (s : Reached) (m : MessageShape) (line : List ℕ) (n : ℕ) → bytes_eq (message_line m) line ≡ true → IsSpellingLen (Some n) (message m) → after_message_line s m line ≡ with_packet s (message m) n
unfolding after_message_line
after_spelled s m line n same is =
    let short : leb (length (message_bytes m)) 65536 ≡ true = le-leb _ _ (omega (arith, is.2, is.3)) in
    let spelled : is_spelled m ≡ true = and_from _ _ (and_from _ _ is.0 is.1) short in
    ap (λ b. cond b (with_packet s (message m) (length (message_bytes m))) None) (and_from _ _ same spelled) ∙ ap (with_packet s (message m)) (sym is.2)

none_last : (a b c : Bool) → (a ≡ true → c ≡ false) → (a && b && c) ≡ false
none_last true true c h = h refl
none_last true false c h = refl
none_last false b c h = refl

guard_none : {X : Type 0} (a b : Bool) (o : Option X) → b ≡ false → cond (a && b) o None ≡ None
guard_none true true o h = absurd cc
guard_none true false o h = refl
guard_none false b o h = refl

pub after_unspelled : (s : Reached) (m : MessageShape) (line : List ℕ) → IsSpellingLen None (message m) → after_message_line s m line ≡ None
unfolding after_message_line
after_unspelled s m line none =
    guard_none (bytes_eq (message_line m) line) (is_spelled m) (with_packet s (message m) (length (message_bytes m)))
    (none_last (is_message m) (are_octets (message_bytes m)) (leb (length (message_bytes m)) 65536) (λ allowed. lt-leb _ _ (none allowed)))
