-- The two laws of packets: what is read is spelled so, and what is spelled so is read.
use Rattle.std.proofs.Common.{◌≡◌, ℕ, zero, suc, ◌+◌, ◌-◌, ◌%◌, ◌^◌, ◌<◌, ◌≤◌, Bool, true, false, not, cond, ltb, leb, eqb, ◌&&◌, ◌||◌, List, [], ◌∷◌, ◌++◌, length, take, drop, Result, Ok, refl, sym, ap, subst, ◌∙◌, append_assoc, arith, eq-eqb}
use Rattle.std.specs.Int.{w32, w64, to_be_bytes}
use Rattle.std.specs.List.{starts_with}
use Rattle.std.proofs.lemmas.Bool.{ltb-false, lt-ltb, le-ltb, eqb-true, leb-true, le-leb}
use Rattle.std.proofs.lemmas.List.{take_at, drop_at, take-append-drop, length-append, length-take, length-drop, drop-drop}
use Rattle.std.proofs.lemmas.Nat.{be_bytes_8, from_be_bytes-to_be_bytes_8}
use Rattle.std.proofs.lemmas.Slice.Eq.{bytes_eq-Decides}
use Rattle.sn_osc.specs.declared.fault.PacketFault.{PacketFault}
use Rattle.sn_osc.specs.declared.fault.PacketKind.TheVariants.{Start, Head}
use Rattle.sn_osc.specs.Shape.{Shape, Shapes, message, bundle, none, more, shapes_from}
use Rattle.sn_osc.specs.Bytes.{bundle_head, begins_with, counts_as, is_early}
use Rattle.sn_osc.specs.Grammar.{SpellsWithin, SpellsElements, Spells}
use Rattle.sn_osc.specs.Reading.{◌>>=◌, fault, size_in, message_in, element_at, elements_in, tag_in, bundle_in, is_headed, packet_or, packet_in, is_packet_size, read}
use Rattle.sn_osc.proofs.Fields.{IsBytes, IsBytes-drop, IsBytes-take, bind_ok, guard_not, guard_yes, ok_is, and_yes, not_yes, Takes, then_takes, size_back, size_again, after_size}
use Rattle.sn_osc.proofs.Messages.{message_takes, message_again, message_slash, message_whole}
use Rattle.sn_osc.proofs.PacketStart.{enclosing, is_or, at_message, at_bundle}

pub or_no : (a b : Bool) → (a || b) ≡ false → (a ≡ false) × (b ≡ false)
or_no true b e = absurd cc
or_no false b e = (refl, e)

-- ---- lengths are multiples of 4

mutual
  pub packet_whole : (x : Shape) (deep around : ℕ) (bytes : List ℕ) → SpellsWithin deep around x bytes → (4 ≤ length bytes) × (length bytes % 4 ≡ 0)
  packet_whole (message m) deep around bytes h = message_whole m bytes h
  packet_whole (bundle tag inner) zero around bytes h = absurd h
  packet_whole (bundle tag inner) (suc deep) around bytes h =
      let (rest, fits, late, spelled, parts) = h in
      let len = length-append (bundle_head ++ to_be_bytes w64 tag) rest in
      (omega (arith, ap length parts, len, length-append bundle_head (to_be_bytes w64 tag)), omega (arith, ap length parts, len, length-append bundle_head (to_be_bytes w64 tag), elements_whole inner deep (counts_as around tag) rest spelled))

  pub elements_whole : (xs : Shapes) (deep around : ℕ) (bytes : List ℕ) → SpellsElements deep around xs bytes → length bytes % 4 ≡ 0
  elements_whole none deep around bytes h = omega (arith, ap length h)
  elements_whole (more x xs) deep around bytes h =
      let (front, rest, short, spelled, others, parts) = h in
      omega (arith, ap length parts, length-append (to_be_bytes w32 (length front) ++ front) rest, length-append (to_be_bytes w32 (length front)) front, (packet_whole x deep around front spelled).1, elements_whole xs deep around rest others)

-- ---- one element

pub record Element (bytes : List ℕ) (parts : List ℕ × List ℕ) : Type 0 where
  pub least : 4 ≤ length parts.0
  pub whole : length parts.0 % 4 ≡ 0
  pub short : length parts.0 < 2 ^ 31
  pub fits : IsBytes parts.0
  pub taken : Takes bytes (to_be_bytes w32 (length parts.0) ++ parts.0) parts.1

pub element_takes : (end : ℕ) (bytes : List ℕ) (parts : List ℕ × List ℕ) → IsBytes bytes → length bytes < 2 ^ 31 → element_at end bytes ≡ Ok parts → Element bytes parts
unfolding element_at
element_takes end bytes parts fits small e =
    let n = size_in bytes in
    let rest = drop 4 bytes in
    let rest_fits = IsBytes-drop 4 bytes fits in
    let g = guard_not (ltb (length bytes) 4 || ltb n 4 || not (eqb (n % 4) 0) || ltb (length rest) n) _ (Ok (take n rest, drop n rest)) parts e in
    let tests = or_no (ltb (length bytes) 4 || ltb n 4 || not (eqb (n % 4) 0)) (ltb (length rest) n) g.0 in
    let sizes = or_no (ltb (length bytes) 4 || ltb n 4) (not (eqb (n % 4) 0)) tests.0 in
    let long : 4 ≤ length bytes = ltb-false _ _ (or_no (ltb (length bytes) 4) (ltb n 4) sizes.0).0 in
    let inside : n ≤ length rest = ltb-false _ _ tests.1 in
    let whole : n % 4 ≡ 0 = eqb-true _ _ (not_no (eqb (n % 4) 0) sizes.1) in
    let len : length (take n rest) ≡ n = omega (arith, length-take n rest) in
    let head : Takes bytes (take 4 bytes) rest = record { parts = sym (take-append-drop 4 bytes); rest_fits = rest_fits } in
    let body : Takes rest (take n rest) (drop n rest) = record { parts = sym (take-append-drop n rest); rest_fits = IsBytes-drop n rest rest_fits } in
    let size : take 4 bytes ≡ to_be_bytes w32 (length (take n rest)) = sym (size_back bytes fits long) ∙ ap (to_be_bytes w32) (sym len) in
    let four : 4 ≤ n = ltb-false _ _ (or_no (ltb (length bytes) 4) (ltb n 4) sizes.0).1 in
    let made : Element bytes (take n rest, drop n rest) = record {
      least = rw len four;
      whole = rw len whole;
      short = omega (arith, len, inside, length-drop 4 bytes, small);
      fits = IsBytes-take n rest rest_fits;
      taken = subst (λ (h : List ℕ). Takes bytes (h ++ take n rest) (drop n rest)) size (then_takes bytes (take 4 bytes) rest (take n rest) (drop n rest) head body);
    } in
    subst (Element bytes) (ok_is (take n rest, drop n rest) parts g.1) made
  where
    not_no : (a : Bool) → not a ≡ false → a ≡ true
    not_no true e = refl
    not_no false e = absurd cc

pub element_again : (end : ℕ) (front rest : List ℕ) → 4 ≤ length front → length front % 4 ≡ 0 → length front < 2 ^ 31 → element_at end (to_be_bytes w32 (length front) ++ (front ++ rest)) ≡ Ok (front, rest)
unfolding element_at
element_again end front rest long whole short =
    let n = length front in
    let bytes = to_be_bytes w32 n ++ (front ++ rest) in
    let size : size_in bytes ≡ n = size_again n (front ++ rest) (omega (arith, short)) in
    let after : drop 4 bytes ≡ front ++ rest = after_size n (front ++ rest) in
    let four : ltb (length bytes) 4 ≡ false = le-ltb _ _ (omega (arith, length-append (to_be_bytes w32 n) (front ++ rest))) in
    let least : ltb n 4 ≡ false = le-ltb _ _ long in
    let even : eqb (n % 4) 0 ≡ true = eq-eqb _ _ whole in
    let inside : ltb (length (front ++ rest)) n ≡ false = le-ltb _ _ (omega (arith, length-append front rest)) in
    rw (four, size, after, least, even, inside, take_at front rest n refl, drop_at front rest n refl) refl

-- ---- elements

abbrev pub Reader : Type 0
Reader = ℕ → List ℕ → Result Shape PacketFault

-- what the reader reads is spelled so
abbrev pub ReadsSpelled : ℕ → ℕ → Reader → Type 0
ReadsSpelled deep around reader = (end : ℕ) (bytes : List ℕ) (x : Shape) → IsBytes bytes → length bytes < 2 ^ 31 → length bytes % 4 ≡ 0 → reader end bytes ≡ Ok x → SpellsWithin deep around x bytes

-- what is spelled so the reader reads
abbrev pub SpelledRead : ℕ → ℕ → Reader → Type 0
SpelledRead deep around reader = (end : ℕ) (bytes : List ℕ) (x : Shape) → SpellsWithin deep around x bytes → reader end bytes ≡ Ok x

elements_take : (deep around : ℕ) (reader : Reader) → ReadsSpelled deep around reader → (end n : ℕ) (bytes : List ℕ) (xs : List Shape) → IsBytes bytes → length bytes < 2 ^ 31 → length bytes ≤ n
    → elements_in reader end n bytes ≡ Ok xs → SpellsElements deep around (shapes_from xs) bytes
unfolding elements_in
elements_take deep around reader takes end zero [] xs fits small le e = subst (λ ys. SpellsElements deep around (shapes_from ys) []) (ok_is [] xs e) refl
elements_take deep around reader takes end (suc n) [] xs fits small le e = subst (λ ys. SpellsElements deep around (shapes_from ys) []) (ok_is [] xs e) refl
elements_take deep around reader takes end zero (b ∷ bytes) xs fits small le e = absurd (omega (arith, le))
elements_take deep around reader takes end (suc n) (b ∷ bytes) xs fits small le e =
    let a = bind_ok (element_at end (b ∷ bytes)) (λ parts. reader (end - length parts.1) parts.0 >>= λ first. elements_in reader end n parts.1 >>= λ others. Ok (first ∷ others)) xs e in
    let front = a.0.0 in
    let rest = a.0.1 in
    let c = bind_ok (reader (end - length rest) front) (λ first. elements_in reader end n rest >>= λ others. Ok (first ∷ others)) xs a.2 in
    let d = bind_ok (elements_in reader end n rest) (λ others. Ok (c.0 ∷ others)) xs c.2 in
    let t = element_takes end (b ∷ bytes) a.0 fits small a.1 in
    let len : length (b ∷ bytes) ≡ 4 + length front + length rest = ap length t.taken.parts ∙ omega (arith, length-append (to_be_bytes w32 (length front) ++ front) rest, length-append (to_be_bytes w32 (length front)) front) in
    let first = takes (end - length rest) front c.0 t.fits t.short t.whole c.1 in
    let others = elements_take deep around reader takes end n rest d.0 t.taken.rest_fits (omega (arith, len, small)) (omega (arith, len, le)) d.1 in
    subst (λ ys. SpellsElements deep around (shapes_from ys) (b ∷ bytes)) (ok_is (c.0 ∷ d.0) xs d.2) (front, rest, t.short, first, others, t.taken.parts)

elements_again : (deep around : ℕ) (reader : Reader) → SpelledRead deep around reader → (end : ℕ) (inner : Shapes) (n : ℕ) (bytes : List ℕ) → length bytes ≤ n → SpellsElements deep around inner bytes
    → (xs : List Shape) × (elements_in reader end n bytes ≡ Ok xs) × (shapes_from xs ≡ inner)
unfolding elements_in
elements_again deep around reader again end none zero bytes le h = ([], ap (elements_in reader end zero) h, refl)
elements_again deep around reader again end none (suc n) bytes le h = ([], ap (elements_in reader end (suc n)) h, refl)
elements_again deep around reader again end (more x xs) zero bytes le h =
    let (front, rest, short, spelled, others, parts) = h in
    absurd (omega (arith, le, ap length parts, length-append (to_be_bytes w32 (length front) ++ front) rest, length-append (to_be_bytes w32 (length front)) front))
elements_again deep around reader again end (more x xs) (suc n) bytes le h =
    let (front, rest, short, spelled, others, parts) = h in
    let regrouped : bytes ≡ to_be_bytes w32 (length front) ++ (front ++ rest) = parts ∙ append_assoc (to_be_bytes w32 (length front)) front rest in
    let fewer : length rest ≤ n = omega (arith, le, ap length parts, length-append (to_be_bytes w32 (length front) ++ front) rest, length-append (to_be_bytes w32 (length front)) front) in
    let sizes = packet_whole x deep around front spelled in
    let (ys, read, is) = elements_again deep around reader again end xs n rest fewer others in
    (x ∷ ys, ap (elements_in reader end (suc n)) regrouped ∙ rw (element_again end front rest sizes.0 sizes.1 short, again (end - length rest) front x spelled, read) refl, ap (more x) is)

-- ---- bundles

tag_back : (bytes : List ℕ) → IsBytes bytes → 16 ≤ length bytes → to_be_bytes w64 (tag_in bytes) ≡ take 8 (drop 8 bytes)
tag_back bytes fits long = be_bytes_8 (take 8 (drop 8 bytes)) _ (omega (arith, length-take 8 (drop 8 bytes), length-drop 8 bytes)) (IsBytes-take 8 (drop 8 bytes) (IsBytes-drop 8 bytes fits)) refl

tag_below : (bytes : List ℕ) → IsBytes bytes → tag_in bytes < 2 ^ 64
tag_below bytes fits =
    let small = IsBytes-take 8 (drop 8 bytes) (IsBytes-drop 8 bytes fits) in
    omega (arith, small 0, small 1, small 2, small 3, small 4, small 5, small 6, small 7)

pub headed_is : (bytes : List ℕ) → is_headed bytes ≡ true → (16 ≤ length bytes) × (take 8 bytes ≡ bundle_head)
headed_is bytes h =
    let both = and_yes (leb 16 (length bytes)) (starts_with (λ a b. eqb a b) bytes bundle_head) h in
    (leb-true _ _ both.0, sym ((bytes_eq-Decides bundle_head (take 8 bytes)).0 both.1))

bundle_parts : (bytes : List ℕ) → IsBytes bytes → is_headed bytes ≡ true → bytes ≡ bundle_head ++ to_be_bytes w64 (tag_in bytes) ++ drop 16 bytes
bundle_parts bytes fits h =
    let t = headed_is bytes h in
    let head : bytes ≡ bundle_head ++ drop 8 bytes = sym (take-append-drop 8 bytes) ∙ ap (λ (f : List ℕ). f ++ drop 8 bytes) t.1 in
    let tail : drop 8 bytes ≡ to_be_bytes w64 (tag_in bytes) ++ drop 16 bytes = sym (take-append-drop 8 (drop 8 bytes)) ∙ ap (λ (f : List ℕ). f ++ drop 8 (drop 8 bytes)) (sym (tag_back bytes fits t.0)) ∙ ap (λ (r : List ℕ). to_be_bytes w64 (tag_in bytes) ++ r) (drop-drop 8 8 bytes) in
    head ∙ ap (λ (r : List ℕ). bundle_head ++ r) tail ∙ sym (append_assoc bundle_head (to_be_bytes w64 (tag_in bytes)) (drop 16 bytes))

bundle_takes : (deep around : ℕ) (reader : Reader) → (end : ℕ) (bytes : List ℕ) (x : Shape) → ReadsSpelled deep (counts_as around (tag_in bytes)) reader → IsBytes bytes → length bytes < 2 ^ 31 → is_headed bytes ≡ true
    → bundle_in reader around end bytes ≡ Ok x → SpellsWithin (suc deep) around x bytes
unfolding bundle_in
bundle_takes deep around reader end bytes x takes fits small headed e =
    let tag = tag_in bytes in
    let rest = drop 16 bytes in
    let g = guard_not (is_early around tag) _ (elements_in reader end (length rest) rest >>= λ elements. Ok (bundle tag (shapes_from elements))) x e in
    let b = bind_ok (elements_in reader end (length rest) rest) (λ elements. Ok (bundle tag (shapes_from elements))) x g.1 in
    let inner = elements_take deep (counts_as around tag) reader takes end (length rest) rest b.0 (IsBytes-drop 16 bytes fits) (omega (arith, small, length-drop 16 bytes)) (omega arith) b.1 in
    subst (λ y. SpellsWithin (suc deep) around y bytes) (ok_is (bundle tag (shapes_from b.0)) x b.2) (rest, tag_below bytes fits, ap not g.0, inner, bundle_parts bytes fits headed)

-- ---- packets

starts : (deep around end : ℕ) (bytes : List ℕ) (x : Shape) → begins_with 47 bytes ≡ false → packet_in deep around end bytes ≡ Ok x → (is_headed bytes ≡ true) × (enclosing deep around end bytes ≡ Ok x)
unfolding packet_or
starts deep around end bytes x slash e =
    let read : packet_or (enclosing deep around end bytes) end bytes ≡ Ok x = sym (is_or deep around end bytes) ∙ e in
    let g = guard_not (not (begins_with 35 bytes)) _ (cond (not (is_headed bytes)) (fault Head (end - length bytes)) (enclosing deep around end bytes)) x (let f : cond false (message_in end bytes >>= λ m. Ok (message m)) (cond (not (begins_with 35 bytes)) (fault Start (end - length bytes)) (cond (not (is_headed bytes)) (fault Head (end - length bytes)) (enclosing deep around end bytes))) ≡ Ok x = subst (λ s. cond s (message_in end bytes >>= λ m. Ok (message m)) (cond (not (begins_with 35 bytes)) (fault Start (end - length bytes)) (cond (not (is_headed bytes)) (fault Head (end - length bytes)) (enclosing deep around end bytes))) ≡ Ok x) slash read in f) in
    let h = guard_not (not (is_headed bytes)) _ (enclosing deep around end bytes) x g.1 in
    (not_no (is_headed bytes) h.0, h.1)
  where
    not_no : (a : Bool) → not a ≡ false → a ≡ true
    not_no true e = refl
    not_no false e = absurd cc

message_packet_takes : (deep around end : ℕ) (bytes : List ℕ) (x : Shape) → begins_with 47 bytes ≡ true → IsBytes bytes → length bytes < 2 ^ 31 → length bytes % 4 ≡ 0 → packet_in deep around end bytes ≡ Ok x → SpellsWithin deep around x bytes
message_packet_takes deep around end bytes x slash fits small whole e =
    let b = bind_ok (message_in end bytes) (λ m. Ok (message m)) x (sym (at_message deep around end bytes slash) ∙ e) in
    subst (λ y. SpellsWithin deep around y bytes) (ok_is (message b.0) x b.2) (message_takes end bytes b.0 fits small whole slash b.1)

pub packet_takes : (deep around : ℕ) → ReadsSpelled deep around (packet_in deep around)
packet_takes zero around end bytes x fits small whole e = by_start (begins_with 47 bytes) refl
  where
    by_start : (s : Bool) → begins_with 47 bytes ≡ s → SpellsWithin zero around x bytes
    by_start true slash = message_packet_takes zero around end bytes x slash fits small whole e
    by_start false slash = absurd (let read = (starts zero around end bytes x slash e).1 in cc)
packet_takes (suc deep) around end bytes x fits small whole e = by_start (packet_takes deep (counts_as around (tag_in bytes))) (begins_with 47 bytes) refl
  where
    by_start : ReadsSpelled deep (counts_as around (tag_in bytes)) (packet_in deep (counts_as around (tag_in bytes))) → (s : Bool) → begins_with 47 bytes ≡ s → SpellsWithin (suc deep) around x bytes
    by_start takes true slash = message_packet_takes (suc deep) around end bytes x slash fits small whole e
    by_start takes false slash =
        let s = starts (suc deep) around end bytes x slash e in
        bundle_takes deep around (packet_in deep (counts_as around (tag_in bytes))) end bytes x takes fits small s.0 s.1

bundle_again : (deep around : ℕ) (reader : Reader) (end tag : ℕ) (inner : Shapes) (rest : List ℕ) → SpelledRead deep (counts_as around tag) reader → tag < 2 ^ 64 → is_early around tag ≡ false → SpellsElements deep (counts_as around tag) inner rest
    → bundle_in reader around end (bundle_head ++ (to_be_bytes w64 tag ++ rest)) ≡ Ok (bundle tag inner)
unfolding bundle_in
bundle_again deep around reader end tag inner rest again fits late spelled =
    let bytes = bundle_head ++ (to_be_bytes w64 tag ++ rest) in
    let tag-is : tag_in bytes ≡ tag = from_be_bytes-to_be_bytes_8 tag fits in
    let (xs, read, is) = elements_again deep (counts_as around tag) reader again end inner (length rest) rest (omega arith) spelled in
    rw (tag-is, late, read, is) refl

headed_again : (tag : ℕ) (rest : List ℕ) → is_headed (bundle_head ++ (to_be_bytes w64 tag ++ rest)) ≡ true
headed_again tag rest = rw (le-leb 16 (length (bundle_head ++ (to_be_bytes w64 tag ++ rest))) (omega (arith, length-append bundle_head (to_be_bytes w64 tag ++ rest), length-append (to_be_bytes w64 tag) rest))) refl

pub packet_again : (deep around : ℕ) → SpelledRead deep around (packet_in deep around)
packet_again zero around end bytes (message m) h = at_message zero around end bytes (message_slash m bytes h) ∙ rw (message_again end m bytes h) refl
packet_again zero around end bytes (bundle tag inner) h = absurd h
packet_again (suc deep) around end bytes (message m) h = at_message (suc deep) around end bytes (message_slash m bytes h) ∙ rw (message_again end m bytes h) refl
packet_again (suc deep) around end bytes (bundle tag inner) h =
    let (rest, fits, late, spelled, parts) = h in
    let whole = bundle_head ++ (to_be_bytes w64 tag ++ rest) in
    let regrouped : bytes ≡ whole = parts ∙ append_assoc bundle_head (to_be_bytes w64 tag) rest in
    let tag-is : tag_in whole ≡ tag = from_be_bytes-to_be_bytes_8 tag fits in
    let again : SpelledRead deep (counts_as around tag) (packet_in deep (counts_as around tag)) = packet_again deep (counts_as around tag) in
    let read : bundle_in (packet_in deep (counts_as around tag)) around end whole ≡ Ok (bundle tag inner) = bundle_again deep around (packet_in deep (counts_as around tag)) end tag inner rest again fits (not_yes (is_early around tag) late) spelled in
    ap (packet_in (suc deep) around end) regrouped ∙ at_bundle (suc deep) around end whole refl refl (headed_again tag rest) (omega arith)
    ∙ ap (λ (t : ℕ). bundle_in (packet_in (suc deep - 1) (counts_as around t)) around end whole) tag-is
    ∙ ap (λ (d : ℕ). bundle_in (packet_in d (counts_as around tag)) around end whole) (let same : suc deep - 1 ≡ deep = omega arith in same)
    ∙ read

pub read_takes : (bytes : List ℕ) (x : Shape) → IsBytes bytes → read bytes ≡ Ok x → (is_packet_size (length bytes) ≡ true) × Spells x bytes
unfolding read
read_takes bytes x fits e =
    let g = guard_yes (is_packet_size (length bytes)) _ (packet_in 8 1 (length bytes) bytes) x e in
    let sizes = and_yes (ltb 0 (length bytes) && leb (length bytes) 65536) (eqb (length bytes % 4) 0) g.0 in
    let most : length bytes ≤ 65536 = leb-true _ _ (and_yes (ltb 0 (length bytes)) (leb (length bytes) 65536) sizes.0).1 in
    (g.0, packet_takes 8 1 (length bytes) bytes x fits (omega (arith, most)) (eqb-true _ _ sizes.1) g.1)

pub read_again : (bytes : List ℕ) (x : Shape) → length bytes ≤ 65536 → Spells x bytes → read bytes ≡ Ok x
unfolding read
read_again bytes x most h =
    let sizes = packet_whole x 8 1 bytes h in
    rw (lt-ltb 0 (length bytes) (omega (arith, sizes.0)), le-leb (length bytes) 65536 most, eq-eqb (length bytes % 4) 0 sizes.1) (packet_again 8 1 (length bytes) bytes x h)
