-- If reading a packet meets a fault, whole data that the grammar allows stand before it, and then a datum that is at
-- fault.
use Rattle.std.proofs.Common.{◌≡◌, ◌≢◌, ℕ, zero, suc, ◌+◌, ◌-◌, ◌%◌, ◌^◌, ◌<◌, ◌≤◌, ◌⊎◌, inl, inr, Bool, true, false, not, ltb, leb, eqb, ◌&&◌, ◌||◌, List, [], ◌∷◌, ◌++◌, length, take, drop, Ok, Err, refl, sym, ap, subst, ◌∙◌, append_assoc, arith, eq-eqb, IsTrue}
use Rattle.std.specs.Int.{w32, to_be_bytes}
use Rattle.std.proofs.lemmas.Bool.{ltb-true, leb-true, eqb-true}
use Rattle.std.proofs.lemmas.List.{length-append, length-drop}
use Rattle.sn_osc.specs.declared.fault.PacketFault.{PacketFault}
use Rattle.sn_osc.specs.declared.fault.PacketKind.{PacketKind}
use Rattle.sn_osc.specs.declared.fault.PacketKind.TheVariants.{Size, Start, ElementSize, Head, NestedEarly, TooDeep}
use Rattle.sn_osc.specs.Shape.{Shape, message, bundle, none, more, shapes_from}
use Rattle.sn_osc.specs.Bytes.{begins_with, counts_as, is_early}
use Rattle.sn_osc.specs.Grammar.{SpellsWithin}
use Rattle.sn_osc.specs.Reading.{◌>>=◌, size_in, message_in, element_at, elements_in, tag_in, bundle_in, is_headed, packet_in, is_packet_size, read}
use Rattle.sn_osc.specs.Faults.{StartFault, IsBadSize, NextElementFault, ElementsFault, FaultWithin, FirstFault}
use Rattle.sn_osc.proofs.Fields.{IsBytes, IsBytes-drop, and_yes}
use Rattle.sn_osc.proofs.PacketStart.{at_message, at_start, at_head, at_depth, at_bundle}
use Rattle.sn_osc.proofs.PacketLaws.{Reader, ReadsSpelled, element_takes, packet_takes}
use Rattle.sn_osc.proofs.DataFaults.{err_is, ok_not_err, bind_err, guard_err, unless_err, message_faults}

abbrev pub Fault : Type 1
Fault = ℕ → List ℕ → PacketKind → ℕ → Type 0

-- if the reader meets a fault, there is one
abbrev pub Finds : Fault → Reader → Type 0
Finds Inner reader = (end at : ℕ) (bytes : List ℕ) (g : PacketFault) → at + length bytes ≡ end → length bytes % 4 ≡ 0 → length bytes < 2 ^ 31 → IsBytes bytes → reader end bytes ≡ Err g → Inner at bytes g.kind g.place

-- ---- elements

or_yes : (a b : Bool) → (a || b) ≡ true → (a ≡ true) ⊎ (b ≡ true)
or_yes true b e = inl refl
or_yes false b e = inr e

not_eq : (n : ℕ) → not (eqb n 0) ≡ true → n ≢ 0
not_eq n e is = let t : false ≡ true = ap not (sym (eq-eqb n 0 is)) ∙ e in cc

bad_size : (bytes : List ℕ) → 4 ≤ length bytes → (ltb (length bytes) 4 || ltb (size_in bytes) 4 || not (eqb (size_in bytes % 4) 0) || ltb (length (drop 4 bytes)) (size_in bytes)) ≡ true → IsBadSize bytes
bad_size bytes long e =
    elim (or_yes (ltb (length bytes) 4 || ltb (size_in bytes) 4 || not (eqb (size_in bytes % 4) 0)) (ltb (length (drop 4 bytes)) (size_in bytes)) e) [
      | inl a ↦
          elim (or_yes (ltb (length bytes) 4 || ltb (size_in bytes) 4) (not (eqb (size_in bytes % 4) 0)) a) [
            | inl b ↦
                elim (or_yes (ltb (length bytes) 4) (ltb (size_in bytes) 4) b) [
                  | inl c ↦ absurd (omega (arith, ltb-true _ _ c))
                  | inr c ↦ inl (ltb-true _ _ c)
                ]
            | inr b ↦ inr (inl (not_eq (size_in bytes % 4) b))
          ]
      | inr a ↦ inr (inr (ltb-true _ _ a))
    ]

element_faults : (end at : ℕ) (bytes : List ℕ) (g : PacketFault) → 4 ≤ length bytes → at + length bytes ≡ end → element_at end bytes ≡ Err g → IsBadSize bytes × (g.kind ≡ ElementSize) × (g.place ≡ at)
unfolding element_at
element_faults end at bytes g long is e =
    let n = size_in bytes in
    let rest = drop 4 bytes in
    elim (guard_err (ltb (length bytes) 4 || ltb n 4 || not (eqb (n % 4) 0) || ltb (length rest) n) (record { kind = ElementSize; place = end - length bytes }) g (Ok (take n rest, drop n rest)) e) [
      | inl a ↦
          let here : end - length bytes ≡ at = omega (arith, is) in
          (bad_size bytes long a.0, ap (λ (f : PacketFault). f.kind) (sym a.1), ap (λ (f : PacketFault). f.place) (sym a.1) ∙ here)
      | inr a ↦ absurd (ok_not_err (take n rest, drop n rest) g a.1)
    ]

none_before : (deep around : ℕ) (Inner : Fault) (at : ℕ) (bytes : List ℕ) (kind : PacketKind) (place : ℕ) → NextElementFault Inner at bytes kind place → ElementsFault deep around Inner at bytes kind place
none_before deep around Inner at bytes kind place h =
    let here : at ≡ at + length {A = ℕ} [] = omega arith in
    record {
      before = none;
      front = [];
      rest = bytes;
      spelled = refl;
      parts = refl;
      why = subst (λ (p : ℕ). NextElementFault Inner p bytes kind place) here h;
    }

one_before : (deep around : ℕ) (Inner : Fault) (at : ℕ) (bytes packet rest : List ℕ) (x : Shape) (kind : PacketKind) (place : ℕ) → SpellsWithin deep around x packet → length packet < 2 ^ 31 → bytes ≡ to_be_bytes w32 (length packet) ++ packet ++ rest
    → ElementsFault deep around Inner (at + 4 + length packet) rest kind place → ElementsFault deep around Inner at bytes kind place
one_before deep around Inner at bytes packet rest x kind place spelled short parts h =
    let frame = to_be_bytes w32 (length packet) ++ packet in
    let further : at + 4 + length packet + length h.front ≡ at + length (frame ++ h.front) = omega (arith, length-append frame h.front, length-append (to_be_bytes w32 (length packet)) packet) in
    record {
      before = more x h.before;
      front = frame ++ h.front;
      rest = h.rest;
      spelled = (packet, h.front, short, spelled, h.spelled, refl);
      parts = parts ∙ ap (λ (t : List ℕ). frame ++ t) h.parts ∙ sym (append_assoc frame h.front h.rest);
      why = subst (λ (p : ℕ). NextElementFault Inner p h.rest kind place) further h.why;
    }

elements_faults : (deep around : ℕ) (reader : Reader) (Inner : Fault) → ReadsSpelled deep around reader → Finds Inner reader → (end at n : ℕ) (bytes : List ℕ) (g : PacketFault) → at + length bytes ≡ end → length bytes % 4 ≡ 0 → length bytes < 2 ^ 31 → IsBytes bytes
    → elements_in reader end n bytes ≡ Err g → ElementsFault deep around Inner at bytes g.kind g.place
unfolding elements_in
elements_faults deep around reader Inner takes finds end at zero [] g is whole small fits e = absurd (ok_not_err {A = List Shape} [] g e)
elements_faults deep around reader Inner takes finds end at (suc n) [] g is whole small fits e = absurd (ok_not_err {A = List Shape} [] g e)
elements_faults deep around reader Inner takes finds end at zero (b ∷ bytes) g is whole small fits e = absurd (ok_not_err {A = List Shape} [] g e)
elements_faults deep around reader Inner takes finds end at (suc n) (b ∷ bytes) g is whole small fits e =
    let long : 4 ≤ length (b ∷ bytes) = omega (arith, whole) in
    elim (bind_err (element_at end (b ∷ bytes)) (λ parts. reader (end - length parts.1) parts.0 >>= λ first. elements_in reader end n parts.1 >>= λ others. Ok (first ∷ others)) g e) [
      | inl a ↦ none_before deep around Inner at (b ∷ bytes) g.kind g.place (long, inl (element_faults end at (b ∷ bytes) g long is a))
      | inr a ↦
          let packet = a.0.0 in
          let rest = a.0.1 in
          let t = element_takes end (b ∷ bytes) a.0 fits small a.1 in
          let len : length (b ∷ bytes) ≡ 4 + length packet + length rest = ap length t.taken.parts ∙ omega (arith, length-append (to_be_bytes w32 (length packet) ++ packet) rest, length-append (to_be_bytes w32 (length packet)) packet) in
          let inner_end : at + 4 + length packet ≡ end - length rest = omega (arith, is, len) in
          elim (bind_err (reader (end - length rest) packet) (λ first. elements_in reader end n rest >>= λ others. Ok (first ∷ others)) g a.2) [
            | inl c ↦ none_before deep around Inner at (b ∷ bytes) g.kind g.place (long, inr (packet, rest, t.least, t.whole, t.taken.parts, finds (end - length rest) (at + 4) packet g inner_end t.whole t.short t.fits c))
            | inr c ↦
                let first = takes (end - length rest) packet c.0 t.fits t.short t.whole c.1 in
                elim (bind_err (elements_in reader end n rest) (λ others. Ok (c.0 ∷ others)) g c.2) [
                  | inl d ↦
                      one_before deep around Inner at (b ∷ bytes) packet rest c.0 g.kind g.place first t.short t.taken.parts
                      (elements_faults deep around reader Inner takes finds end (at + 4 + length packet) n rest g (omega (arith, is, len)) (omega (arith, whole, len, t.whole)) (omega (arith, small, len)) t.taken.rest_fits d)
                  | inr d ↦ absurd (ok_not_err (c.0 ∷ d.0) g d.2)
                ]
          ]
    ]

-- ---- packets

abbrev BundleFault : ℕ → ℕ → ℕ → List ℕ → PacketKind → ℕ → Type 0
BundleFault deep around at bytes kind place = (IsTrue (is_early around (tag_in bytes)) × (kind ≡ NestedEarly) × (place ≡ at + 8))
    ⊎ (IsTrue (not (is_early around (tag_in bytes))) × ElementsFault deep (counts_as around (tag_in bytes)) (FaultWithin deep (counts_as around (tag_in bytes))) (at + 16) (drop 16 bytes) kind place)

bundle_faults : (deep around : ℕ) (reader : Reader) (end at : ℕ) (bytes : List ℕ) (g : PacketFault) → ReadsSpelled deep (counts_as around (tag_in bytes)) reader → Finds (FaultWithin deep (counts_as around (tag_in bytes))) reader → at + length bytes ≡ end
    → length bytes % 4 ≡ 0 → length bytes < 2 ^ 31 → 16 ≤ length bytes → IsBytes bytes → bundle_in reader around end bytes ≡ Err g → BundleFault deep around at bytes g.kind g.place
unfolding bundle_in
bundle_faults deep around reader end at bytes g takes finds is whole small long fits e =
    let tag = tag_in bytes in
    let rest = drop 16 bytes in
    let len = length-drop 16 bytes in
    elim (guard_err (is_early around tag) (record { kind = NestedEarly; place = end - length bytes + 8 }) g (elements_in reader end (length rest) rest >>= λ elements. Ok (bundle tag (shapes_from elements))) e) [
      | inl a ↦
          let there : end - length bytes + 8 ≡ at + 8 = omega (arith, is) in
          inl (a.0, ap (λ (f : PacketFault). f.kind) (sym a.1), ap (λ (f : PacketFault). f.place) (sym a.1) ∙ there)
      | inr a ↦
          elim (bind_err (elements_in reader end (length rest) rest) (λ elements. Ok (bundle tag (shapes_from elements))) g a.1) [
            | inl b ↦
                inr (ap not a.0, elements_faults deep (counts_as around tag) reader (FaultWithin deep (counts_as around tag)) takes finds end (at + 16) (length rest) rest g (omega (arith, is, len, long)) (omega (arith, whole, len, long)) (omega (arith, small, len)) (IsBytes-drop 16 bytes fits) b)
            | inr b ↦ absurd (ok_not_err (bundle tag (shapes_from b.0)) g b.2)
          ]
    ]

-- the start of a packet, or what is read if the head of a bundle stands there
by_start : (deep around end at : ℕ) (bytes : List ℕ) (g : PacketFault) (slash hash head : Bool) → begins_with 47 bytes ≡ slash → begins_with 35 bytes ≡ hash → is_headed bytes ≡ head → at + length bytes ≡ end → length bytes % 4 ≡ 0 → length bytes < 2 ^ 31 → IsBytes bytes
    → packet_in deep around end bytes ≡ Err g → StartFault at bytes g.kind g.place ⊎ ((slash ≡ false) × (hash ≡ true) × (head ≡ true))
by_start deep around end at bytes g true hash head is-s is-h is-d is whole small fits e =
    elim (bind_err (message_in end bytes) (λ m. Ok (message m)) g (sym (at_message deep around end bytes is-s) ∙ e)) [
      | inl a ↦ inl (inr (inl (is-s, message_faults end at bytes g is whole small fits a)))
      | inr a ↦ absurd (ok_not_err (message a.0) g a.2)
    ]
by_start deep around end at bytes g false false head is-s is-h is-d is whole small fits e =
    let same = err_is {A = Shape} (record { kind = Start; place = end - length bytes }) g (sym (at_start deep around end bytes is-s is-h) ∙ e) in
    let here : end - length bytes ≡ at = omega (arith, is) in
    inl (inl (ap not is-s, ap not is-h, ap (λ (f : PacketFault). f.kind) (sym same), ap (λ (f : PacketFault). f.place) (sym same) ∙ here))
by_start deep around end at bytes g false true false is-s is-h is-d is whole small fits e =
    let same = err_is {A = Shape} (record { kind = Head; place = end - length bytes }) g (sym (at_head deep around end bytes is-s is-h is-d) ∙ e) in
    let here : end - length bytes ≡ at = omega (arith, is) in
    inl (inr (inr (is-h, ap not is-d, ap (λ (f : PacketFault). f.kind) (sym same), ap (λ (f : PacketFault). f.place) (sym same) ∙ here)))
by_start deep around end at bytes g false true true is-s is-h is-d is whole small fits e = inr (refl, refl, refl)

pub packet_faults : (deep around : ℕ) → Finds (FaultWithin deep around) (packet_in deep around)
packet_faults zero around end at bytes g is whole small fits e =
    elim (by_start zero around end at bytes g (begins_with 47 bytes) (begins_with 35 bytes) (is_headed bytes) refl refl refl is whole small fits e) [
      | inl a ↦ inl a
      | inr a ↦
          let same = err_is {A = Shape} (record { kind = TooDeep; place = end - length bytes }) g (sym (at_depth zero around end bytes a.0 a.1 a.2 refl) ∙ e) in
          let here : end - length bytes ≡ at = omega (arith, is) in
          inr (a.2, ap (λ (f : PacketFault). f.kind) (sym same), ap (λ (f : PacketFault). f.place) (sym same) ∙ here)
    ]
packet_faults (suc deep) around end at bytes g is whole small fits e =
    let inner = packet_faults deep (counts_as around (tag_in bytes)) in
    elim (by_start (suc deep) around end at bytes g (begins_with 47 bytes) (begins_with 35 bytes) (is_headed bytes) refl refl refl is whole small fits e) [
      | inl a ↦ inl a
      | inr a ↦
          let less : suc deep - 1 ≡ deep = omega arith in
          let read : bundle_in (packet_in deep (counts_as around (tag_in bytes))) around end bytes ≡ Err g =
          ap (λ (d : ℕ). bundle_in (packet_in d (counts_as around (tag_in bytes))) around end bytes) (sym less) ∙ sym (at_bundle (suc deep) around end bytes a.0 a.1 a.2 (omega arith)) ∙ e in
          inr (a.2, bundle_faults deep around (packet_in deep (counts_as around (tag_in bytes))) end at bytes g (packet_takes deep (counts_as around (tag_in bytes))) inner is whole small (headed_long bytes a.2) fits read)
    ]
  where
    headed_long : (bytes : List ℕ) → is_headed bytes ≡ true → 16 ≤ length bytes
    headed_long bytes h = leb-true _ _ (and_yes (leb 16 (length bytes)) _ h).0

pub read_faults : (bytes : List ℕ) (g : PacketFault) → IsBytes bytes → read bytes ≡ Err g → FirstFault bytes g.kind g.place
unfolding read FirstFault
read_faults bytes g fits e =
    elim (unless_err (is_packet_size (length bytes)) (record { kind = Size; place = 0 }) g (packet_in 8 1 (length bytes) bytes) e) [
      | inl a ↦ inl (ap not a.0, ap (λ (f : PacketFault). f.kind) (sym a.1), ap (λ (f : PacketFault). f.place) (sym a.1))
      | inr a ↦
          let sizes = and_yes (ltb 0 (length bytes) && leb (length bytes) 65536) (eqb (length bytes % 4) 0) a.0 in
          let most : length bytes ≤ 65536 = leb-true _ _ (and_yes (ltb 0 (length bytes)) (leb (length bytes) 65536) sizes.0).1 in
          inr (a.0, packet_faults 8 1 (length bytes) 0 bytes g (omega arith) (eqb-true _ _ sizes.1) (omega (arith, most)) fits a.1)
    ]
