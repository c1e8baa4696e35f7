-- The packets of a drill as a stream.
use Rattle.std.proofs.Common.{◌≡◌, ◌<◌, ◌≤◌, ◌+◌, ◌-◌, ◌*◌, ◌/◌, ◌%◌, ◌^◌, ℕ, zero, suc, Bool, true, false, not, ◌&&◌, ◌==◌, nat_lt, if◌then◌else◌, List, [], ◌∷◌, ◌++◌, length, refl, ap, subst, ◌∙◌, arith}
use Rattle.std.specs.Prelude.{IsTrue}
use Rattle.std.specs.Int.{w32, to_be_bytes}
use Rattle.std.proofs.lemmas.Bool.{and_from, lt-ltb}
use Rattle.std.proofs.lemmas.List.{length-append}
use Rattle.sn_osc.specs.Shape.{MessageShape, Shape, bare, message, bundle, none, more}
use Rattle.sn_osc.specs.Bytes.{frame_bytes, is_early, is_message, is_packet, packet_bytes}
use Rattle.sn_osc.specs.Frames.{Frames, is_frame_size}
use Rattle.sn_osc.specs.Grammar.{Spells}
use Rattle.sn_osc.proofs.Encoded.{is_spelled, spellable_is}
use Rattle.sn_osc.proofs.Streams.{no_more, one_more, frame_len}
use Rattle.sn_queue.specs.Time.{at}
use Rattle.sn_drill.specs.Stream.{number_at, drawn, draw, frequency, retuning, beginning, before, note, note_at, notes, opening, closing, drill_stream}
use Rattle.sn_drill.specs.Valid.{HasStream}
use Rattle.sn_drill.proofs.StreamLemmas.{tag_small, next_number}

-- a packet that a frame can hold, of so many bytes at most
record IsFramed (x : Shape) (most : ℕ) : Type 0 where
  pub size : IsTrue (is_frame_size (length (packet_bytes x)))
  pub spelled : Spells x (packet_bytes x)
  pub few : length (packet_bytes x) ≤ most

framed_of : (x : Shape) (n most : ℕ) → is_packet 8 1 x ≡ true → length (packet_bytes x) ≡ n → is_frame_size n ≡ true → n ≤ most → IsFramed x most
framed_of x n most is len size few =
    let whole : IsTrue (is_frame_size (length (packet_bytes x))) = ap is_frame_size len ∙ size in
    record {
      size = whole;
      spelled = is_spelled x (spellable_is x is (omega (arith, no_more (length (packet_bytes x)) whole)));
      few = omega (arith, len, few);
    }

-- ---- bundles

not_early : (one late : Bool) → not (not one && false && late) ≡ true
not_early true late = refl
not_early false late = refl

never_early : (tag : ℕ) → not (is_early 1 tag) ≡ true
never_early tag = not_early (tag == 1) (nat_lt tag 1)

tag_may : (tag : ℕ) → tag < 2 ^ 64 → (nat_lt tag (2 ^ 64) && not (is_early 1 tag)) ≡ true
tag_may tag small = and_from (nat_lt tag (2 ^ 64)) (not (is_early 1 tag)) (lt-ltb tag (2 ^ 64) small) (never_early tag)

one_packet : (tag : ℕ) (m : MessageShape) → tag < 2 ^ 64 → is_message m ≡ true → is_packet 8 1 (bundle tag (more (message m) none)) ≡ true
one_packet tag m small is = and_from (nat_lt tag (2 ^ 64) && not (is_early 1 tag)) (is_message m && true) (tag_may tag small) (and_from (is_message m) true is refl)

no_packet : (tag : ℕ) → tag < 2 ^ 64 → is_packet 8 1 (bundle tag none) ≡ true
no_packet tag small = and_from (nat_lt tag (2 ^ 64) && not (is_early 1 tag)) true (tag_may tag small) refl

-- ---- notes

drawn_small : (seed n : ℕ) → drawn (number_at seed (n + 1)) < 65536
drawn_small seed n = let next = next_number seed n in omega (arith, next)

abbrev pub message_in : Shape → MessageShape
message_in (message m) = m
message_in (bundle tag inner) = record { address = []; body = bare }

retuned : (freq : ℕ) → freq < 2 ^ 31 → is_message (message_in (retuning freq)) ≡ true
retuned freq small = and_from (nat_lt freq (2 ^ 31)) true (lt-ltb freq (2 ^ 31) small) refl

begun : (freq bus : ℕ) → freq < 2 ^ 31 → bus < 2 ^ 31 → is_message (message_in (beginning freq bus)) ≡ true
begun freq bus small low =
    and_from (nat_lt freq (2 ^ 31)) (nat_lt bus (2 ^ 31) && true) (lt-ltb freq (2 ^ 31) small) (and_from (nat_lt bus (2 ^ 31)) true (lt-ltb bus (2 ^ 31) low) refl)

retuning_framed : (rate block freq : ℕ) → 0 < rate → block ≤ 20000 → freq < 2 ^ 31 → IsFramed (before rate block (retuning freq)) 80
retuning_framed rate block freq some few small =
    let tag : ℕ = at block 0 rate in
    let is : is_packet 8 1 (before rate block (retuning freq)) ≡ true = one_packet tag (message_in (retuning freq)) (tag_small block rate some few) (retuned freq small) in
    framed_of (before rate block (retuning freq)) 52 80 is refl refl (omega arith)

beginning_framed : (rate block freq bus : ℕ) → 0 < rate → block ≤ 20000 → freq < 2 ^ 31 → bus < 2 ^ 31 → IsFramed (before rate block (beginning freq bus)) 80
beginning_framed rate block freq bus some few small low =
    let tag : ℕ = at block 0 rate in
    let is : is_packet 8 1 (before rate block (beginning freq bus)) ≡ true = one_packet tag (message_in (beginning freq bus)) (tag_small block rate some few) (begun freq bus small low) in
    framed_of (before rate block (beginning freq bus)) 80 80 is refl refl (omega arith)

chosen_framed : (rate block freq bus : ℕ) (tunes : Bool) → 0 < rate → block ≤ 20000 → freq < 2 ^ 31 → bus < 2 ^ 31
    → IsFramed (before rate block (if tunes then retuning freq else beginning freq bus)) 80
chosen_framed rate block freq bus true some few small low = retuning_framed rate block freq some few small
chosen_framed rate block freq bus false some few small low = beginning_framed rate block freq bus some few small low

note_framed : (seed rate index : ℕ) → 0 < rate → 8 * index + 8 ≤ 20000 → IsFramed (note_at seed rate index) 80
note_framed seed rate index some few =
    let x : ℕ = draw seed (2 * index + 1) in
    let y : ℕ = draw seed (2 * index + 2) in
    let twice : 2 * index + 1 + 1 ≡ 2 * index + 2 = omega arith in
    let small : y < 65536 = subst (λ (n : ℕ). draw seed n < 65536) twice (drawn_small seed (2 * index + 1)) in
    let low : x / 4 % 8 < 8 = omega arith in
    chosen_framed rate (8 * index + 8) (frequency y) (16 + x / 4 % 8) (x % 4 == 3) some few (omega (arith, small)) (omega (arith, low))

-- ---- all of them

notes_framed : (seed rate n : ℕ) → 0 < rate → n ≤ 2499 → (bytes : List ℕ) × Frames (notes seed rate n) bytes × (length bytes ≤ 84 * n)
unfolding notes
notes_framed seed rate zero some few = ([], refl, omega arith)
notes_framed seed rate (suc n) some few =
    let (front, frames, small) = notes_framed seed rate n some (omega (arith, few)) in
    let note = note_framed seed rate n some (omega (arith, few)) in
    let bytes : List ℕ = packet_bytes (note_at seed rate n) in (
      front ++ frame_bytes bytes,
      one_more (notes seed rate n) front bytes (note_at seed rate n) frames note.size note.spelled,
      omega (arith, small, note.few, length-append front (frame_bytes bytes), length-append (to_be_bytes w32 (length bytes)) bytes),
    )

opening_framed : IsFramed opening 400
opening_framed = framed_of opening 400 400 refl refl refl (omega arith)

closing_framed : (rate block : ℕ) → 0 < rate → block ≤ 20000 → IsFramed (closing rate block) 16
closing_framed rate block some few = framed_of (closing rate block) 16 16 (no_packet (at block 0 rate) (tag_small block rate some few)) refl refl (omega arith)

pub framed : (seed blocks rate : ℕ) → 0 < rate → blocks ≤ 20000 → HasStream (drill_stream seed blocks rate)
framed seed blocks rate some few =
    let n : ℕ = (blocks - 1) / 8 in
    let (middle, frames, small) = notes_framed seed rate n some (omega (arith, few)) in
    let first = opening_framed in
    let last = closing_framed rate blocks some few in
    let begins : List ℕ = packet_bytes opening in
    let ends : List ℕ = packet_bytes (closing rate blocks) in
    let front : Frames (opening ∷ notes seed rate n) (frame_bytes begins ++ middle) = (begins, middle, first.size, first.spelled, frames, refl) in (
      (frame_bytes begins ++ middle) ++ frame_bytes ends,
      one_more (opening ∷ notes seed rate n) (frame_bytes begins ++ middle) ends (closing rate blocks) front last.size last.spelled,
      omega (arith, few, small, first.few, last.few, frame_len begins middle, length-append (frame_bytes begins ++ middle) (frame_bytes ends), length-append (to_be_bytes w32 (length ends)) ends),
    )
