-- Reading a packet meets the fault that stands after whole data that the grammar allows.
use Rattle.std.proofs.Common.{◌≡◌, ℕ, zero, suc, ◌+◌, ◌-◌, ◌%◌, ◌^◌, ◌<◌, ◌≤◌, ◌⊎◌, inl, inr, Bool, true, false, not, ltb, leb, eqb, ◌&&◌, ◌||◌, List, [], ◌∷◌, ◌++◌, length, drop, Ok, refl, sym, ap, ◌∙◌, append_assoc, arith, ne_eqb, get_or, IsTrue}
use Rattle.std.specs.Int.{w32, to_be_bytes}
use Rattle.std.proofs.lemmas.Bool.{lt-ltb, leb-true, eqb-true}
use Rattle.std.proofs.lemmas.List.{length-append, length-drop}
use Rattle.sn_osc.specs.declared.fault.PacketKind.{PacketKind}
use Rattle.sn_osc.specs.declared.fault.PacketKind.TheVariants.{Size, Start, ElementSize, Head, NestedEarly, TooDeep}
use Rattle.sn_osc.specs.Shape.{Shapes, none, more}
use Rattle.sn_osc.specs.Bytes.{begins_with, counts_as, is_early}
use Rattle.sn_osc.specs.Grammar.{SpellsElements}
use Rattle.sn_osc.specs.Reading.{fault, size_in, element_at, elements_in, tag_in, bundle_in, is_headed, packet_in, read}
use Rattle.sn_osc.specs.Faults.{StartFault, IsBadSize, NextElementFault, ElementsFault, FaultWithin, FirstFault}
use Rattle.sn_osc.proofs.Fields.{and_yes, not_yes}
use Rattle.sn_osc.proofs.PacketStart.{at_message, at_start, at_head, at_depth, at_bundle}
use Rattle.sn_osc.proofs.PacketLaws.{Reader, SpelledRead, packet_whole, element_again, packet_again, headed_is}
use Rattle.sn_osc.proofs.PacketFaults.{Fault}
use Rattle.sn_osc.proofs.DataFound.{message_found}

-- the reader meets each fault that there is
abbrev pub Meets : Fault → Reader → Type 0
Meets Inner reader = (end at : ℕ) (bytes : List ℕ) (kind : PacketKind) (place : ℕ) → at + length bytes ≡ end → length bytes % 4 ≡ 0 → length bytes < 2 ^ 31 → Inner at bytes kind place → reader end bytes ≡ fault kind place

-- ---- elements

or_last : (a b : Bool) → b ≡ true → (a || b) ≡ true
or_last true b e = refl
or_last false b e = e

or_first : (a b : Bool) → a ≡ true → (a || b) ≡ true
or_first true b e = refl
or_first false b e = absurd cc

bad_size : (bytes : List ℕ) → IsBadSize bytes → (ltb (length bytes) 4 || ltb (size_in bytes) 4 || not (eqb (size_in bytes % 4) 0) || ltb (length (drop 4 bytes)) (size_in bytes)) ≡ true
bad_size bytes h =
    let n = size_in bytes in
    elim h [
      | inl a ↦
          or_first (ltb (length bytes) 4 || ltb n 4 || not (eqb (n % 4) 0)) (ltb (length (drop 4 bytes)) n)
          (or_first (ltb (length bytes) 4 || ltb n 4) (not (eqb (n % 4) 0)) (or_last (ltb (length bytes) 4) (ltb n 4) (lt-ltb _ _ a)))
      | inr a ↦
          elim a [
            | inl b ↦
                or_first (ltb (length bytes) 4 || ltb n 4 || not (eqb (n % 4) 0)) (ltb (length (drop 4 bytes)) n)
                (or_last (ltb (length bytes) 4 || ltb n 4) (not (eqb (n % 4) 0)) (ap not (ne_eqb (n % 4) 0 b)))
            | inr b ↦ or_last (ltb (length bytes) 4 || ltb n 4 || not (eqb (n % 4) 0)) (ltb (length (drop 4 bytes)) n) (lt-ltb _ _ b)
          ]
    ]

element_bad : (end at : ℕ) (bytes : List ℕ) (place : ℕ) → at + length bytes ≡ end → IsBadSize bytes → place ≡ at → element_at end bytes ≡ fault ElementSize place
unfolding element_at
element_bad end at bytes place is bad there =
    let here : end - length bytes ≡ place = omega (arith, is, there) in
    rw (bad_size bytes bad) (ap (λ (p : ℕ). fault ElementSize p) here)

next_found : (Inner : Fault) (reader : Reader) → Meets Inner reader → (end at n : ℕ) (bytes : List ℕ) (kind : PacketKind) (place : ℕ) → length bytes ≤ n → at + length bytes ≡ end → length bytes < 2 ^ 31 → NextElementFault Inner at bytes kind place
    → elements_in reader end n bytes ≡ fault kind place
unfolding elements_in
next_found Inner reader meets end at n [] kind place le is small h = absurd (omega (arith, h.0))
next_found Inner reader meets end at zero (b ∷ bytes) kind place le is small h = absurd (omega (arith, le))
next_found Inner reader meets end at (suc n) (b ∷ bytes) kind place le is small h =
    elim h.1 [
      | inl a ↦ rw (element_bad end at (b ∷ bytes) place is a.0 a.2) (ap (λ (k : PacketKind). fault k place) (sym a.1))
      | inr a ↦
          let (packet, rest, four, whole, parts, inner) = a in
          let regrouped : b ∷ bytes ≡ to_be_bytes w32 (length packet) ++ (packet ++ rest) = parts ∙ append_assoc (to_be_bytes w32 (length packet)) packet rest in
          let len : length (b ∷ bytes) ≡ 4 + length packet + length rest = ap length regrouped ∙ omega (arith, length-append (to_be_bytes w32 (length packet)) (packet ++ rest), length-append packet rest) in
          let short : length packet < 2 ^ 31 = omega (arith, small, len) in
          let element : element_at end (b ∷ bytes) ≡ Ok (packet, rest) = ap (element_at end) regrouped ∙ element_again end packet rest four whole short in
          rw (element, meets (end - length rest) (at + 4) packet kind place (omega (arith, is, len)) whole short inner) refl
    ]

elements_found : (deep around : ℕ) (Inner : Fault) (reader : Reader) → SpelledRead deep around reader → Meets Inner reader → (end at n : ℕ) (before : Shapes) (front rest : List ℕ) (kind : PacketKind) (place : ℕ) → SpellsElements deep around before front
    → length (front ++ rest) ≤ n → at + length rest ≡ end → length rest < 2 ^ 31 → NextElementFault Inner at rest kind place → elements_in reader end n (front ++ rest) ≡ fault kind place
unfolding elements_in
elements_found deep around Inner reader again meets end at n none front rest kind place spelled le is small h =
    let bytes : front ++ rest ≡ rest = ap (λ (t : List ℕ). t ++ rest) spelled in
    ap (elements_in reader end n) bytes ∙ next_found Inner reader meets end at n rest kind place (omega (arith, le, ap length bytes)) is small h
elements_found deep around Inner reader again meets end at zero (more x xs) front rest kind place spelled le is small h =
    let (packet, others, short, one, further, parts) = spelled in
    absurd (omega (arith, le, ap length parts, length-append front rest, length-append (to_be_bytes w32 (length packet) ++ packet) others, length-append (to_be_bytes w32 (length packet)) packet))
elements_found deep around Inner reader again meets end at (suc n) (more x xs) front rest kind place spelled le is small h =
    let (packet, others, short, one, further, parts) = spelled in
    let bytes : front ++ rest ≡ to_be_bytes w32 (length packet) ++ (packet ++ (others ++ rest)) =
    ap (λ (t : List ℕ). t ++ rest) parts ∙ append_assoc (to_be_bytes w32 (length packet) ++ packet) others rest ∙ append_assoc (to_be_bytes w32 (length packet)) packet (others ++ rest) in
    let len : length (front ++ rest) ≡ 4 + length packet + length (others ++ rest) = ap length bytes ∙ omega (arith, length-append (to_be_bytes w32 (length packet)) (packet ++ (others ++ rest)), length-append packet (others ++ rest)) in
    let sizes = packet_whole x deep around packet one in
    let left = elements_found deep around Inner reader again meets end at n xs others rest kind place further (omega (arith, le, len)) is small h in
    ap (elements_in reader end (suc n)) bytes ∙ rw (element_again end packet (others ++ rest) sizes.0 sizes.1 short, again (end - length (others ++ rest)) packet x one, left) refl

-- ---- packets

abbrev BundleFault : ℕ → ℕ → ℕ → List ℕ → PacketKind → ℕ → Type 0
BundleFault deep around at bytes kind place = (IsTrue (is_early around (tag_in bytes)) × (kind ≡ NestedEarly) × (place ≡ at + 8))
    ⊎ (IsTrue (not (is_early around (tag_in bytes))) × ElementsFault deep (counts_as around (tag_in bytes)) (FaultWithin deep (counts_as around (tag_in bytes))) (at + 16) (drop 16 bytes) kind place)

bundle_found : (deep around : ℕ) (reader : Reader) (end at : ℕ) (bytes : List ℕ) (kind : PacketKind) (place : ℕ) → SpelledRead deep (counts_as around (tag_in bytes)) reader → Meets (FaultWithin deep (counts_as around (tag_in bytes))) reader → at + length bytes ≡ end
    → length bytes < 2 ^ 31 → 16 ≤ length bytes → BundleFault deep around at bytes kind place → bundle_in reader around end bytes ≡ fault kind place
unfolding bundle_in
bundle_found deep around reader end at bytes kind place again meets is small long h =
    let tag = tag_in bytes in
    let rest = drop 16 bytes in
    elim h [
      | inl a ↦
          let there : end - length bytes + 8 ≡ place = omega (arith, is, a.2) in
          rw a.0 (ap (λ (p : ℕ). fault NestedEarly p) there ∙ ap (λ (k : PacketKind). fault k place) (sym a.1))
      | inr a ↦
          let e = a.1 in
          let len : length rest ≡ length e.front + length e.rest = ap length e.parts ∙ length-append e.front e.rest in
          let after : at + 16 + length rest ≡ end = omega (arith, is, length-drop 16 bytes, long) in
          let few : length (e.front ++ e.rest) ≤ length rest = omega (arith, ap length e.parts) in
          let read : elements_in reader end (length rest) rest ≡ fault kind place =
          ap (elements_in reader end (length rest)) e.parts ∙ elements_found deep (counts_as around tag) (FaultWithin deep (counts_as around tag)) reader again meets end (at + 16 + length e.front) (length rest) e.before e.front e.rest kind place e.spelled few (omega (arith, after, len)) (omega (arith, small, len, length-drop 16 bytes)) e.why in
          rw (not_yes (is_early around tag) a.0, read) refl
    ]

start_found : (deep around end at : ℕ) (bytes : List ℕ) (kind : PacketKind) (place : ℕ) → at + length bytes ≡ end → length bytes % 4 ≡ 0 → length bytes < 2 ^ 31 → StartFault at bytes kind place → packet_in deep around end bytes ≡ fault kind place
start_found deep around end at bytes kind place is whole small h =
    elim h [
      | inl a ↦
          let here : end - length bytes ≡ place = omega (arith, is, a.3) in
          at_start deep around end bytes (not_yes _ a.0) (not_yes _ a.1) ∙ ap (λ (p : ℕ). fault Start p) here ∙ ap (λ (k : PacketKind). fault k place) (sym a.2)
      | inr a ↦
          elim a [
            | inl b ↦ at_message deep around end bytes b.0 ∙ rw (message_found end at bytes kind place is whole small b.1) refl
            | inr b ↦
                let here : end - length bytes ≡ place = omega (arith, is, b.3) in
                at_head deep around end bytes (hash_first bytes b.0) b.0 (not_yes _ b.1) ∙ ap (λ (p : ℕ). fault Head p) here ∙ ap (λ (k : PacketKind). fault k place) (sym b.2)
          ]
    ]
  where
    hash_first : (bytes : List ℕ) → begins_with 35 bytes ≡ true → begins_with 47 bytes ≡ false
    hash_first [] e = refl
    hash_first (b ∷ bytes) e = ne_eqb b 47 (λ is. omega (arith, is, eqb-true b 35 e))

-- what a head of a bundle begins with
head_first : (bytes : List ℕ) → is_headed bytes ≡ true → (begins_with 47 bytes ≡ false) × (begins_with 35 bytes ≡ true) × (16 ≤ length bytes)
head_first [] h = let t = headed_is [] h in absurd (omega (arith, t.0))
head_first (b ∷ bytes) h =
    let t = headed_is (b ∷ bytes) h in
    let first : b ≡ 35 = ap (λ (xs : List ℕ). get_or xs 0 0) t.1 in
    (ap (λ (k : ℕ). eqb k 47) first, ap (λ (k : ℕ). eqb k 35) first, t.0)

pub packet_found : (deep around : ℕ) → Meets (FaultWithin deep around) (packet_in deep around)
packet_found zero around end at bytes kind place is whole small h =
    elim h [
      | inl a ↦ start_found zero around end at bytes kind place is whole small a
      | inr a ↦
          let f = head_first bytes a.0 in
          let here : end - length bytes ≡ place = omega (arith, is, a.2) in
          at_depth zero around end bytes f.0 f.1 a.0 refl ∙ ap (λ (p : ℕ). fault TooDeep p) here ∙ ap (λ (k : PacketKind). fault k place) (sym a.1)
    ]
packet_found (suc deep) around end at bytes kind place is whole small h =
    let inner = packet_found deep (counts_as around (tag_in bytes)) in
    elim h [
      | inl a ↦ start_found (suc deep) around end at bytes kind place is whole small a
      | inr a ↦
          let f = head_first bytes a.0 in
          let less : suc deep - 1 ≡ deep = omega arith in
          at_bundle (suc deep) around end bytes f.0 f.1 a.0 (omega arith) ∙ ap (λ (d : ℕ). bundle_in (packet_in d (counts_as around (tag_in bytes))) around end bytes) less
          ∙ bundle_found deep around (packet_in deep (counts_as around (tag_in bytes))) end at bytes kind place (packet_again deep (counts_as around (tag_in bytes))) inner is small f.2 a.1
    ]

pub read_found : (bytes : List ℕ) (kind : PacketKind) (place : ℕ) → FirstFault bytes kind place → read bytes ≡ fault kind place
unfolding read FirstFault
read_found bytes kind place h =
    elim h [
      | inl a ↦ rw (not_yes _ a.0) (ap (λ (p : ℕ). fault Size p) (sym a.2) ∙ ap (λ (k : PacketKind). fault k place) (sym a.1))
      | inr a ↦
          let sizes = and_yes (ltb 0 (length bytes) && leb (length bytes) 65536) (eqb (length bytes % 4) 0) a.0 in
          let most : length bytes ≤ 65536 = leb-true _ _ (and_yes (ltb 0 (length bytes)) (leb (length bytes) 65536) sizes.0).1 in
          rw a.0 (packet_found 8 1 (length bytes) 0 bytes kind place (omega arith) (eqb-true _ _ sizes.1) (omega (arith, most)) a.1)
    ]
