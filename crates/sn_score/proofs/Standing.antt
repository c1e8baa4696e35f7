-- What has been read stands in the grammar: the whole packets fit, and the open bundles would if they were closed.
use Rattle.std.proofs.Common.{◌≡◌, ℕ, suc, ◌+◌, ◌-◌, ◌*◌, ◌%◌, ◌^◌, ◌<◌, ◌≤◌, min, Bool, true, false, not, cond, ltb, leb, ◌&&◌, List, [], ◌∷◌, ◌++◌, length, take, drop, flat_map, codes, Option, Some, None, refl, sym, ap, subst, ◌∙◌, append_assoc, append-nil, arith}
use Rattle.std.specs.Str.{bytes_eq}
use Rattle.std.proofs.lemmas.Bool.{ltb-true, lt-ltb, leb-true, le-leb, and_from}
use Rattle.std.proofs.lemmas.Slice.Eq.{bytes_eq-Decides}
use Rattle.sn_osc.specs.Shape.{MessageShape, Shape, message, shapes_from}
use Rattle.sn_osc.specs.Bytes.{are_octets, message_bytes, packet_bytes, elements_bytes, begins_with, is_message, is_packet, are_packets, counts_as, is_early}
use Rattle.sn_osc.proofs.Fields.{and_yes}
use Rattle.sn_osc.proofs.Octets.{bundle_octets}
use Rattle.sn_score.specs.Lines.{message_line, bundle_line, line, packet_text}
use Rattle.sn_score.specs.Score.{Fits, AllFit}
use Rattle.sn_score.specs.Fields.{natural_after, word_len, message_at, tag_at}
use Rattle.sn_score.specs.Reached.{Row, Reached, at_start, put, room_of, need_of, has_room, room_after, inside, opened, bundle_of, closed, is_spelled, after_message_line, has_place, after_opening, after_line}
use Rattle.sn_score.proofs.Digits.{not_empty}
use Rattle.sn_score.proofs.Packets.{all_push, fits_from, IsElement, Elements, are_elements, bundle_len, push_len, elements_as_text, push_text}

-- ---- the state of reading

-- The elements may stand where they stand, and bundles may nest so deep in the row. The outermost row is the score.
abbrev pub Stands : ℕ → Row → List Row → Type 0
Stands deep row [] = (deep ≡ 8) × (row.around ≡ 1) × AllFit row.elements
Stands deep row (next ∷ outer) = (row.tag < 2 ^ 64) × (not (is_early next.around row.tag) ≡ true) × (row.around ≡ counts_as next.around row.tag) × Elements deep row.around row.elements × Stands (suc deep) next outer

-- how many bytes a bundle of the row has
abbrev pub row_len : Row → ℕ
row_len row = 16 + length (elements_bytes (shapes_from row.elements))

-- how many bytes the open packet has if it is closed here
abbrev pub open_len : Row → List Row → ℕ
open_len row [] = 0
open_len row (next ∷ []) = row_len row
open_len row (next ∷ far ∷ outer) = row_len row + 4 + open_len next (far ∷ outer)

-- the room that is left
abbrev pub Roomy : Row → List Row → ℕ → Type 0
Roomy row [] room = Unit {0}
Roomy row (next ∷ outer) room = open_len row (next ∷ outer) + room ≡ 65536

pub record Good (s : Reached) : Type 0 where
  pub deep : ℕ
  pub stands : Stands deep s.row s.outer
  pub roomy : Roomy s.row s.outer s.room

pub good_start : Good at_start
good_start = record { deep = 8; stands = (refl, refl, tt); roomy = tt }

-- what was read, as text
abbrev pub written_at : Row → List Row → List ℕ
written_at row [] = flat_map packet_text row.elements
written_at row (next ∷ outer) = written_at next outer ++ line (bundle_line row.tag) ++ flat_map packet_text row.elements

abbrev pub written : Reached → List ℕ
written s = written_at s.row s.outer

-- one line more was read
pub record Step (s : Reached) (l : List ℕ) (t : Reached) : Type 0 where
  pub good : Good t
  pub text : written t ≡ written s ++ line l

-- ---- one packet more

put_written : (x : Shape) (row : Row) (outer : List Row) → written_at (put x row) outer ≡ written_at row outer ++ packet_text x
put_written x row [] = push_text row.elements x
put_written x row (next ∷ outer) =
    let front = written_at next outer ++ line (bundle_line row.tag) in
    ap (λ (t : List ℕ). front ++ t) (push_text row.elements x) ∙ sym (append_assoc front (flat_map packet_text row.elements) (packet_text x))

pub put_len : (x : Shape) (row next : Row) (outer : List Row) → open_len (put x row) (next ∷ outer) ≡ open_len row (next ∷ outer) + (4 + length (packet_bytes x))
put_len x row next [] = omega (arith, push_len row.elements x)
put_len x row next (far ∷ outer) = omega (arith, push_len row.elements x)

put_stands : (deep : ℕ) (x : Shape) (row next : Row) (outer : List Row) → IsElement deep row.around x → Stands deep row (next ∷ outer) → Stands deep (put x row) (next ∷ outer)
put_stands deep x row next outer h s = (s.0, s.1, s.2, all_push (IsElement deep row.around) row.elements x s.3 h, s.4)

some_is : {X : Type 0} (x y : X) → Some x ≡ Some y → x ≡ y
some_is x y e = cc

pub guard_some : {X : Type 0} (b : Bool) (o : Option X) (y : X) → cond b o None ≡ Some y → (b ≡ true) × (o ≡ Some y)
guard_some true o y e = (refl, e)
guard_some false o y e = absurd cc

-- the room inside a bundle
room_inside : (row next : Row) (outer : List Row) (room : ℕ) → room_of (record { row = row; outer = next ∷ outer; room = room }) ≡ room
room_inside row next outer room = rw (not_empty next outer) refl

need_inside : (row next : Row) (outer : List Row) (room n : ℕ) → need_of (record { row = row; outer = next ∷ outer; room = room }) n ≡ 4 + n
need_inside row next outer room n = rw (not_empty next outer) refl

pub inside_room : (row next : Row) (outer : List Row) (room n : ℕ) → 4 + n ≤ room → has_room (record { row = row; outer = next ∷ outer; room = room }) n ≡ true
inside_room row next outer room n le = rw (not_empty next outer) (le-leb (4 + n) room le)

pub inside_after : (row next : Row) (outer : List Row) (room n : ℕ) → room_after (record { row = row; outer = next ∷ outer; room = room }) n ≡ room - (4 + n)
inside_after row next outer room n = rw (not_empty next outer) refl

-- a packet that may stand in the row, and for which there is room
packet_more : (s : Reached) (x : Shape) → (g : Good s) → IsElement g.deep s.row.around x → has_room s (length (packet_bytes x)) ≡ true → Good (record { row = put x s.row; outer = s.outer; room = room_after s (length (packet_bytes x)) })
packet_more s x g h room = by_outer s.row s.outer s.room g.deep g.stands g.roomy h room
  where
    by_outer : (row : Row) (outer : List Row) (left deep : ℕ) → Stands deep row outer → Roomy row outer left → IsElement deep row.around x → has_room (record { row = row; outer = outer; room = left }) (length (packet_bytes x)) ≡ true
        → Good (record { row = put x row; outer = outer; room = room_after (record { row = row; outer = outer; room = left }) (length (packet_bytes x)) })
    by_outer row [] left deep stands roomy h room = record {
      deep = deep;
      stands = (stands.0, stands.1, all_push Fits row.elements x stands.2 (fits_from x (subst (λ d. is_packet d 1 x ≡ true) stands.0 (subst (λ a. is_packet deep a x ≡ true) stands.1 h.0)) h.1 (leb-true _ _ room)));
      roomy = tt;
    }
    by_outer row (next ∷ outer) left deep stands roomy h room = record {
      deep = deep;
      stands = put_stands deep x row next outer h stands;
      roomy = omega (arith, put_len x row next outer, roomy, leb-true _ _ room, room_inside row next outer left, need_inside row next outer left (length (packet_bytes x)));
    }

-- ---- a message

pub message_more : (s t : Reached) (m : MessageShape) (l : List ℕ) → Good s → after_message_line s m l ≡ Some t → Step s l t
unfolding after_message_line
message_more s t m l g e =
    let tests = guard_some (bytes_eq (message_line m) l && is_spelled m) _ t e in
    let both = and_yes (bytes_eq (message_line m) l) (is_spelled m) tests.0 in
    let short = and_yes (is_message m && are_octets (message_bytes m)) (leb (length (message_bytes m)) 65536) both.1 in
    let spelled = and_yes (is_message m) (are_octets (message_bytes m)) short.0 in
    let room = guard_some (has_room s (length (message_bytes m))) (Some (record { row = put (message m) s.row; outer = s.outer; room = room_after s (length (message_bytes m)) })) t tests.1 in
    let is = some_is _ t room.1 in
    let same : message_line m ≡ l = (bytes_eq-Decides (message_line m) l).0 both.0 in
    subst (Step s l) is (record {
      good = packet_more s (message m) g spelled room.0;
      text = put_written (message m) s.row s.outer ∙ ap (λ k. written s ++ line k) same;
    })

-- ---- the first line of a bundle

natural_few : (n : ℕ) (bytes : List ℕ) → n ≤ 4294967295 → natural_after n bytes ≤ 4294967295
unfolding natural_after
natural_few n [] h = h
natural_few n (b ∷ bytes) h = natural_few (min (n * 10 + b % 16) 4294967295) bytes (omega arith)

pub tag_few : (l : List ℕ) → tag_at l < 2 ^ 64
unfolding tag_at
tag_few l =
    let halves = drop 2 l in
    omega (arith, natural_few 0 (take (word_len halves) halves) (omega arith), natural_few 0 (drop (word_len halves + 1) halves) (omega arith))

pub depth : (deep : ℕ) (row : Row) (outer : List Row) → Stands deep row outer → deep + length outer ≡ 8
depth deep row [] s = omega (arith, s.0)
depth deep row (next ∷ outer) s = omega (arith, depth (suc deep) next outer s.4)

opened_roomy : (row : Row) (outer : List Row) (left tag : ℕ) → Roomy row outer left → has_room (record { row = row; outer = outer; room = left }) 16 ≡ true
    → Roomy (inside row tag) (row ∷ outer) (room_after (record { row = row; outer = outer; room = left }) 16)
opened_roomy row [] left tag roomy room = omega arith
opened_roomy row (next ∷ outer) left tag roomy room = omega (arith, roomy, leb-true _ _ room, room_inside row next outer left, need_inside row next outer left 16)

pub opening_good : (s : Reached) (tag : ℕ) → Good s → tag < 2 ^ 64 → has_place s tag ≡ true → Good (opened s tag)
opening_good s tag g few h =
    let tests = and_yes (ltb (length s.outer) 8 && not (is_early s.row.around tag)) (has_room s 16) h in
    let place = and_yes (ltb (length s.outer) 8) (not (is_early s.row.around tag)) tests.0 in
    let deeper : suc (g.deep - 1) ≡ g.deep = omega (arith, depth g.deep s.row s.outer g.stands, ltb-true _ _ place.0) in
    record {
      deep = g.deep - 1;
      stands = (few, place.1, refl, tt, subst (λ d. Stands d s.row s.outer) (sym deeper) g.stands);
      roomy = opened_roomy s.row s.outer s.room tag g.roomy tests.1;
    }

opening_more : (s t : Reached) (l : List ℕ) → Good s → after_opening s l ≡ Some t → Step s l t
unfolding after_opening
opening_more s t l g e =
    let tests = guard_some (bytes_eq (bundle_line (tag_at l)) l && has_place s (tag_at l)) (Some (opened s (tag_at l))) t e in
    let both = and_yes (bytes_eq (bundle_line (tag_at l)) l) (has_place s (tag_at l)) tests.0 in
    let same : bundle_line (tag_at l) ≡ l = (bytes_eq-Decides (bundle_line (tag_at l)) l).0 both.0 in
    subst (Step s l) (some_is _ t tests.1) (record {
      good = opening_good s (tag_at l) g (tag_few l) both.1;
      text = append-nil (written s ++ line (bundle_line (tag_at l))) ∙ ap (λ k. written s ++ line k) same;
    })

-- ---- the last line of a bundle

-- the bundle is an element of the row around it
pub bundle_stands : (deep : ℕ) (row next : Row) (outer : List Row) → Stands deep row (next ∷ outer) → IsElement (suc deep) next.around (bundle_of row)
bundle_stands deep row next outer s =
    let inner = are_elements deep row.around row.elements s.3 in
    let packets : are_packets deep (counts_as next.around row.tag) (shapes_from row.elements) ≡ true = subst (λ a. are_packets deep a (shapes_from row.elements) ≡ true) s.2 inner.0 in
    (and_from _ _ (and_from _ _ (lt-ltb _ _ s.0) s.1) packets, bundle_octets row.tag (shapes_from row.elements) inner.1)

closed_good : (row next : Row) (outer : List Row) (room deep : ℕ) → Stands deep row (next ∷ outer) → Roomy row (next ∷ outer) room → Good (record { row = put (bundle_of row) next; outer = outer; room = room })
closed_good row next [] room deep s roomy =
    let x = bundle_of row in
    let element = bundle_stands deep row next [] s in
    record {
      deep = suc deep;
      stands = (s.4.0, s.4.1, all_push Fits next.elements x s.4.2 (fits_from x (subst (λ d. is_packet d 1 x ≡ true) s.4.0 (subst (λ a. is_packet (suc deep) a x ≡ true) s.4.1 element.0)) element.1 (omega (arith, bundle_len row.tag (shapes_from row.elements), roomy))));
      roomy = tt;
    }
closed_good row next (far ∷ outer) room deep s roomy = record {
  deep = suc deep;
  stands = put_stands (suc deep) (bundle_of row) next far outer (bundle_stands deep row next (far ∷ outer) s) s.4;
  roomy = omega (arith, put_len (bundle_of row) next far outer, bundle_len row.tag (shapes_from row.elements), roomy);
}

closed_text : (row next : Row) (outer : List Row) → written_at (put (bundle_of row) next) outer ≡ written_at row (next ∷ outer) ++ line (93 ∷ [])
closed_text row next outer =
    let front = written_at next outer in
    let first = line (bundle_line row.tag) in
    let inner = flat_map packet_text row.elements in
    put_written (bundle_of row) next outer ∙ ap (λ (t : List ℕ). front ++ (first ++ t ++ line (93 ∷ []))) (elements_as_text row.elements)
    ∙ sym (append_assoc front (first ++ inner) (line (93 ∷ []))) ∙ ap (λ (t : List ℕ). t ++ line (93 ∷ [])) (sym (append_assoc front first inner))

pub closing_more : (s : Reached) (row next : Row) (outer : List Row) (room : ℕ) → s ≡ record { row = row; outer = next ∷ outer; room = room } → Good s → Step s (93 ∷ []) (record { row = put (bundle_of row) next; outer = outer; room = room })
closing_more s row next outer room is g =
    let h = subst Good is g in
    let here : written s ≡ written_at row (next ∷ outer) = ap (λ k. written k) is in
    record { good = closed_good row next outer room h.deep h.stands h.roomy; text = closed_text row next outer ∙ ap (λ (t : List ℕ). t ++ line (93 ∷ [])) (sym here) }

closed_more : (row : Row) (outer : List Row) (room : ℕ) (t : Reached) → Good (record { row = row; outer = outer; room = room }) → closed row outer room ≡ Some t → Step (record { row = row; outer = outer; room = room }) (93 ∷ []) t
closed_more row [] room t g e = absurd cc
closed_more row (next ∷ outer) room t g e = subst (Step (record { row = row; outer = next ∷ outer; room = room }) (93 ∷ [])) (some_is _ t e) (closing_more (record { row = row; outer = next ∷ outer; room = room }) row next outer room refl g)

-- ---- any line

by_tests : (s t : Reached) (l : List ℕ) (closes opens : Bool) → bytes_eq l (codes "]") ≡ closes → Good s → cond closes (closed s.row s.outer s.room) (cond opens (after_opening s l) (after_message_line s (message_at l) l)) ≡ Some t → Step s l t
by_tests s t l true opens is g e =
    let same : l ≡ codes "]" = (bytes_eq-Decides l (codes "]")).0 is in
    subst (λ k. Step s k t) (sym same) (closed_more s.row s.outer s.room t g e)
by_tests s t l false true is g e = opening_more s t l g e
by_tests s t l false false is g e = message_more s t (message_at l) l g e

pub line_more : (s t : Reached) (l : List ℕ) → Good s → after_line s l ≡ Some t → Step s l t
unfolding after_line
line_more s t l g e = by_tests s t l (bytes_eq l (codes "]")) (begins_with 91 l) refl g e
