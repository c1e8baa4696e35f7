-- Entries that are put into a waiting list.
use Rattle.std.proofs.Common.{◌≡◌, ℕ, zero, ◌+◌, ◌≤◌, ◌<◌, suc, Bool, true, false, cond, leb, List, [], ◌∷◌, ◌++◌, length, ap, arith}
use Rattle.std.specs.List.{AllByRecursion}
use Rattle.std.specs.Int.{w32, w64, to_be_bytes}
use Rattle.std.proofs.lemmas.List.{length-append}
use Rattle.sn_osc.specs.Shape.{MessageShape, Shape, Shapes, message, bundle, none, more}
use Rattle.sn_osc.specs.Bytes.{message_bytes, packet_bytes, elements_bytes, bundle_head, is_message, is_packet, are_packets, counts_as}
use Rattle.sn_osc.specs.Grammar.{Spells}
use Rattle.sn_osc.proofs.Encoded.{packet_is}
use Rattle.sn_osc.proofs.Fields.{and_yes}
use Rattle.sn_queue.specs.Waiting.{Waiting, WaitingList}
use Rattle.sn_queue.specs.Steps.{insert, entry_of, put}
use Rattle.sn_reply.specs.Sending.{IsAnswerable}
use Rattle.sn_engine.specs.Answerable.{AllAnswerable, AreAnswerable}
use Rattle.sn_engine.specs.Arriving.{IsSpelled}
use Rattle.sn_engine.specs.Entries.{messages_in, bundle_entries, enclosed_entries, entries_of}

insert_all : (P : Waiting → Type 0) (w : Waiting) (ws : List Waiting) → P w → AllByRecursion P ws → AllByRecursion P (insert w ws)
insert_all P w [] here all = (here, tt)
insert_all P w (v ∷ vs) here all = at (leb v.key w.key) (insert_all P w vs here all.1)
  where
    at : (b : Bool) → AllByRecursion P (insert w vs) → AllByRecursion P (cond b (v ∷ insert w vs) (w ∷ v ∷ vs))
    at true ih = (all.0, ih)
    at false ih = (here, all)

pub put_answerable : (q : WaitingList) (tag b from : ℕ) (ms : List MessageShape) → AllByRecursion IsAnswerable ms → AllAnswerable q.waiting → AllAnswerable (put q tag b from ms).waiting
put_answerable q tag b from ms here all = insert_all (λ w. AllByRecursion IsAnswerable w.messages) (entry_of q tag b from ms) q.waiting here all

pub all_of_both : {X : Type 0} (P : X → Type 0) (xs ys : List X) → AllByRecursion P xs → AllByRecursion P ys → AllByRecursion P (xs ++ ys)
all_of_both P [] ys a b = b
all_of_both P (x ∷ xs) ys a b = (a.0, all_of_both P xs ys a.1 b)

-- ---- the entries of a packet that was decoded

message_answerable : (m : MessageShape) → is_message m ≡ true → length (message_bytes m) ≤ 134217728 → IsAnswerable m
message_answerable m valid few = record { valid = valid; short = omega arith }

element_len : (x : Shape) (xs : Shapes) → length (elements_bytes (more x xs)) ≡ 4 + length (packet_bytes x) + length (elements_bytes xs)
element_len x xs = omega (arith, length-append (to_be_bytes w32 (length (packet_bytes x)) ++ packet_bytes x) (elements_bytes xs), length-append (to_be_bytes w32 (length (packet_bytes x))) (packet_bytes x))

bundle_len : (tag : ℕ) (inner : Shapes) → length (packet_bytes (bundle tag inner)) ≡ 16 + length (elements_bytes inner)
bundle_len tag inner = omega (arith, length-append (bundle_head ++ to_be_bytes w64 tag) (elements_bytes inner), length-append bundle_head (to_be_bytes w64 tag))

messages_answerable : (xs : Shapes) (deep around : ℕ) → are_packets deep around xs ≡ true → length (elements_bytes xs) ≤ 134217728 → AllByRecursion IsAnswerable (messages_in xs)
messages_answerable none deep around valid few = tt
messages_answerable (more (message m) xs) deep around valid few =
    let parts = and_yes (is_message m) (are_packets deep around xs) valid in
    (message_answerable m parts.0 (omega (arith, few, element_len (message m) xs)), messages_answerable xs deep around parts.1 (omega (arith, few, element_len (message m) xs)))
messages_answerable (more (bundle tag inner) xs) deep around valid few =
    let parts = and_yes (is_packet deep around (bundle tag inner)) (are_packets deep around xs) valid in
    messages_answerable xs deep around parts.1 (omega (arith, few, element_len (bundle tag inner) xs))

mutual
  bundle_answerable : (x : Shape) (deep around counts : ℕ) → is_packet deep around x ≡ true → length (packet_bytes x) ≤ 134217728 → AreAnswerable (bundle_entries counts x)
  bundle_answerable (message m) deep around counts valid few = tt
  bundle_answerable (bundle tag inner) zero around counts valid few = absurd cc
  bundle_answerable (bundle tag inner) (suc deep) around counts valid few =
      let parts = and_yes _ (are_packets deep (counts_as around tag) inner) valid in
      let less : length (elements_bytes inner) ≤ 134217728 = omega (arith, few, bundle_len tag inner) in
      (messages_answerable inner deep (counts_as around tag) parts.1 less, enclosed_answerable inner deep (counts_as around tag) (counts_as counts tag) parts.1 less)

  enclosed_answerable : (xs : Shapes) (deep around counts : ℕ) → are_packets deep around xs ≡ true → length (elements_bytes xs) ≤ 134217728 → AreAnswerable (enclosed_entries counts xs)
  enclosed_answerable none deep around counts valid few = tt
  enclosed_answerable (more x xs) deep around counts valid few =
      let parts = and_yes (is_packet deep around x) (are_packets deep around xs) valid in
      all_of_both (λ e. AllByRecursion IsAnswerable e.messages) (bundle_entries counts x) (enclosed_entries counts xs)
      (bundle_answerable x deep around counts parts.0 (omega (arith, few, element_len x xs)))
      (enclosed_answerable xs deep around counts parts.1 (omega (arith, few, element_len x xs)))

pub entries_answerable : (x : Shape) (bytes : List ℕ) → Spells x bytes → length bytes ≤ 134217728 → AreAnswerable (entries_of x)
entries_answerable (message m) bytes spelled few =
    let is = packet_is (message m) 8 1 bytes spelled in
    ((message_answerable m is.1 (omega (arith, few, ap length is.0)), tt), tt)
entries_answerable (bundle tag inner) bytes spelled few =
    let is = packet_is (bundle tag inner) 8 1 bytes spelled in
    bundle_answerable (bundle tag inner) 8 1 1 is.1 (omega (arith, few, ap length is.0))

-- ---- there are no more entries than bytes

mutual
  bundle_few : (x : Shape) (counts : ℕ) → length (bundle_entries counts x) ≤ length (packet_bytes x)
  bundle_few (message m) counts = omega arith
  bundle_few (bundle tag inner) counts = let h : length (enclosed_entries (counts_as counts tag) inner) ≤ length (elements_bytes inner) = enclosed_few inner (counts_as counts tag) in omega (arith, bundle_len tag inner)

  enclosed_few : (xs : Shapes) (counts : ℕ) → length (enclosed_entries counts xs) ≤ length (elements_bytes xs)
  enclosed_few none counts = omega arith
  enclosed_few (more x xs) counts =
      let a : length (bundle_entries counts x) ≤ length (packet_bytes x) = bundle_few x counts in
      let b : length (enclosed_entries counts xs) ≤ length (elements_bytes xs) = enclosed_few xs counts in
      omega (arith, element_len x xs, length-append (bundle_entries counts x) (enclosed_entries counts xs))

pub entries_few : (x : Shape) (bytes : List ℕ) → Spells x bytes → 4 ≤ length bytes → length (entries_of x) ≤ length bytes
entries_few (message m) bytes spelled some = omega arith
entries_few (bundle tag inner) bytes spelled some =
    let h : length (bundle_entries 1 (bundle tag inner)) ≤ length (packet_bytes (bundle tag inner)) = bundle_few (bundle tag inner) 1 in
    omega (arith, ap length (packet_is (bundle tag inner) 8 1 bytes spelled).0)

-- the messages of a spelled packet can be answered, and it has few entries
pub spelled_answerable : (x : Shape) → IsSpelled x → AreAnswerable (entries_of x)
spelled_answerable x s = entries_answerable x s.0 s.1 s.2

pub spelled_few : (x : Shape) → IsSpelled x → length (entries_of x) < 4294967296
spelled_few (message m) s = omega arith
spelled_few (bundle tag inner) s =
    let h : length (bundle_entries 1 (bundle tag inner)) ≤ length (packet_bytes (bundle tag inner)) = bundle_few (bundle tag inner) 1 in
    omega (arith, ap length (packet_is (bundle tag inner) 8 1 s.0 s.1).0, s.2)
