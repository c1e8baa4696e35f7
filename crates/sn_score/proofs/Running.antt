-- The text of packets that fit is read as the packets.
use Rattle.std.proofs.Common.{◌≡◌, ℕ, zero, suc, ◌+◌, ◌-◌, ◌*◌, ◌/◌, ◌%◌, ◌^◌, ◌<◌, ◌≤◌, Bool, true, false, not, cond, ltb, leb, ◌&&◌, ◌==◌, List, [], ◌∷◌, ◌++◌, length, take, drop, flat_map, Option, Some, None, Ok, refl, sym, ap, subst, ◌∙◌, append_assoc, append-nil, arith, ne_eqb, lit<}
use Rattle.std.specs.Fmt.{decimal}
use Rattle.std.specs.List.{onto_first}
use Rattle.std.specs.Str.{bytes_eq}
use Rattle.std.proofs.lemmas.Bool.{ltb-true, lt-ltb, leb-true, le-leb, and_from}
use Rattle.std.proofs.lemmas.List.{length-append, drop_at}
use Rattle.std.proofs.lemmas.List.Folds.{list_all-append}
use Rattle.std.proofs.lemmas.List.Splits.{length-slice_split}
use Rattle.std.proofs.lemmas.Slice.Eq.{bytes_eq-Decides}
use Rattle.sn_osc.specs.Shape.{MessageShape, Shape, Shapes, message, bundle, none, more, shapes_from}
use Rattle.sn_osc.specs.Bytes.{are_octets, message_bytes, packet_bytes, elements_bytes, is_message, is_packet, are_packets, counts_as, is_early}
use Rattle.sn_osc.proofs.Fields.{and_yes, not_yes}
use Rattle.sn_score.specs.Lines.{fields, message_line, bundle_line, line, packet_text, elements_text}
use Rattle.sn_score.specs.Score.{AllFit, Score, score_text}
use Rattle.sn_score.specs.Fields.{natural, tag_at}
use Rattle.sn_score.specs.Reached.{Row, Reached, at_start, put, has_room, room_after, inside, opened, bundle_of, is_spelled, after_message_line, has_place, after_opening, after_line, at_end, lines_at, pieces, read}
use Rattle.sn_score.proofs.Digits.{has_no, natural_again, no_in_decimal}
use Rattle.sn_score.proofs.Quoting.{word_len_is, word_taken}
use Rattle.sn_score.proofs.MessageBack.{message_again, one_line_message, first_message}
use Rattle.sn_score.proofs.Standing.{inside_room, inside_after}
use Rattle.sn_score.proofs.Packets.{fits_tests, elements_apart, inner_octets, bundle_len, more_len, list_of, shapes_of_list}

-- ---- lines of a text

pub some_pieces : (text : List ℕ) → 0 < length (pieces text)
some_pieces text = omega (arith, length-slice_split (λ b. b == 10) text)

pub some_lines : (lines : List (List ℕ)) → 0 < length lines → (length lines == 0) ≡ false
some_lines lines some = ne_eqb _ _ (λ e. omega (arith, e, some))

first_piece : (l rest : List ℕ) → has_no 10 l ≡ true → pieces (l ++ 10 ∷ rest) ≡ l ∷ pieces rest
first_piece [] rest h = refl
first_piece (b ∷ l) rest h =
    let both = and_yes (not (b == 10)) (has_no 10 l) h in
    rw (not_yes (b == 10) both.0) (ap (onto_first b) (first_piece l rest both.1))

pub pieces_line : (l rest : List ℕ) → has_no 10 l ≡ true → pieces (line l ++ rest) ≡ l ∷ pieces rest
pieces_line l rest h = ap (λ t. pieces t) (append_assoc l (10 ∷ []) rest) ∙ first_piece l rest h

-- ---- reading goes on

-- over these bytes, whatever follows
abbrev pub Passes : Reached → List ℕ → Reached → Type 0
Passes s bytes t = (n : ℕ) (rest : List ℕ) → (m : ℕ) × (lines_at s n (pieces (bytes ++ rest)) ≡ lines_at t m (pieces rest))

then_passes : (s t u : Reached) (a b : List ℕ) → Passes s a t → Passes t b u → Passes s (a ++ b) u
then_passes s t u a b p q = λ n rest.
    let first = p n (b ++ rest) in
    let second = q first.0 rest in
    (second.0, ap (λ bytes. lines_at s n (pieces bytes)) (append_assoc a b rest) ∙ first.1 ∙ second.1)

pub next_line : (s t : Reached) (n : ℕ) (l : List ℕ) (lines : List (List ℕ)) → 0 < length lines → after_line s l ≡ Some t → lines_at s n (l ∷ lines) ≡ lines_at t (n + 1) lines
unfolding lines_at
next_line s t n l lines some e = rw (some_lines lines some, e) refl

line_passes : (s t : Reached) (l : List ℕ) → has_no 10 l ≡ true → after_line s l ≡ Some t → Passes s (line l) t
line_passes s t l free e = λ n rest. (n + 1, ap (lines_at s n) (pieces_line l rest free) ∙ next_line s t n l (pieces rest) (some_pieces rest) e)

-- ---- a message

abbrev pub after_packet : Reached → Shape → Reached
after_packet s x = record { row = put x s.row; outer = s.outer; room = room_after s (length (packet_bytes x)) }

same_bytes : (a : List ℕ) → bytes_eq a a ≡ true
same_bytes a = (bytes_eq-Decides a a).1 refl

if_both : {X : Type 0} (a b : Bool) (x y : Option X) → a ≡ true → b ≡ true → x ≡ y → cond (a && b) x None ≡ y
if_both true true x y p q e = e
if_both true false x y p q e = absurd cc
if_both false b x y p q e = absurd cc

if_so : {X : Type 0} (a : Bool) (x : Option X) → a ≡ true → cond a x None ≡ x
if_so true x p = refl
if_so false x p = absurd cc

at_message : (s : Reached) (m : MessageShape) → is_message m ≡ true → are_octets (message_bytes m) ≡ true → length (message_bytes m) ≤ 65536 → has_room s (length (message_bytes m)) ≡ true → after_message_line s m (message_line m) ≡ Some (after_packet s (message m))
unfolding after_message_line
at_message s m h octets short room = if_both (bytes_eq (message_line m) (message_line m)) (is_spelled m) _ _ (same_bytes (message_line m)) (and_from _ _ (and_from _ _ h octets) (le-leb _ _ short)) (if_so (has_room s (length (message_bytes m))) _ room)

after_it : (s : Reached) (m : MessageShape) → is_message m ≡ true → are_octets (message_bytes m) ≡ true → length (message_bytes m) ≤ 65536 → has_room s (length (message_bytes m)) ≡ true → after_line s (message_line m) ≡ Some (after_packet s (message m))
unfolding after_line
after_it s m h octets short room =
    let first = first_message m h in
    rw (first.1, first.0) (ap (λ x. after_message_line s x (message_line m)) (message_again m h octets) ∙ at_message s m h octets short room)

-- ---- a bundle's first line

after_space : (word rest : List ℕ) → drop (length word + 1) (word ++ 32 ∷ rest) ≡ rest
after_space word rest = ap (drop (length word + 1)) (sym (append_assoc word (32 ∷ []) rest)) ∙ drop_at (word ++ 32 ∷ []) rest _ (length-append word (32 ∷ []))

halves_again : (seconds fraction : ℕ) → seconds < 2 ^ 32 → fraction < 2 ^ 32 → tag_at (91 ∷ fields (decimal seconds ∷ decimal fraction ∷ [])) ≡ seconds * 4294967296 + fraction
unfolding tag_at
halves_again seconds fraction few small =
    let word = decimal seconds in
    let free : has_no 32 word ≡ true = no_in_decimal 32 seconds (lit< tt) (omega arith) in
    let rest : drop (length word + 1) (word ++ fields (decimal fraction ∷ [])) ≡ decimal fraction = after_space word (decimal fraction ++ []) ∙ append-nil (decimal fraction) in
    rw (word_len_is word (decimal fraction ∷ []) free, rest, natural_again fraction small) (ap (λ (t : List ℕ). natural t * 4294967296 + fraction) (ap (λ k. take k (word ++ fields (decimal fraction ∷ []))) (sym (word_len_is word (decimal fraction ∷ []) free)) ∙ word_taken word (decimal fraction ∷ []) free)
    ∙ ap (λ k. k * 4294967296 + fraction) (natural_again seconds few))

tag_again : (tag : ℕ) → tag < 2 ^ 64 → tag_at (bundle_line tag) ≡ tag
tag_again tag few = halves_again (tag / 2 ^ 32) (tag % 2 ^ 32) (omega arith) (omega arith) ∙ omega arith

at_opening : (s : Reached) (tag : ℕ) → tag < 2 ^ 64 → has_place s tag ≡ true → after_opening s (bundle_line tag) ≡ Some (opened s tag)
unfolding after_opening
at_opening s tag few place =
    ap (λ k. cond (bytes_eq (bundle_line k) (bundle_line tag) && has_place s k) (Some (opened s k)) None) (tag_again tag few)
    ∙ if_both (bytes_eq (bundle_line tag) (bundle_line tag)) (has_place s tag) (Some (opened s tag)) (Some (opened s tag)) (same_bytes (bundle_line tag)) place refl

after_first : (s : Reached) (tag : ℕ) → tag < 2 ^ 64 → has_place s tag ≡ true → after_line s (bundle_line tag) ≡ Some (opened s tag)
unfolding after_line
after_first s tag few place = at_opening s tag few place

one_line_opening : (tag : ℕ) → tag < 2 ^ 64 → has_no 10 (bundle_line tag) ≡ true
one_line_opening tag few =
    let seconds = decimal (tag / 2 ^ 32) in
    let fraction = decimal (tag % 2 ^ 32) in
    list_all-append (λ b. not (b == 10)) seconds (fields (fraction ∷ [])) ∙ rw (no_in_decimal 10 (tag / 2 ^ 32) (lit< tt) (omega arith), append-nil fraction, no_in_decimal 10 (tag % 2 ^ 32) (lit< tt) (omega arith)) refl

-- ---- a bundle's last line

after_last : (row next : Row) (outer : List Row) (room : ℕ) → after_line (record { row = row; outer = next ∷ outer; room = room }) (93 ∷ []) ≡ Some (record { row = put (bundle_of row) next; outer = outer; room = room })
unfolding after_line
after_last row next outer room = refl

-- ---- room

needs : (b : Bool) (left n k : ℕ) → leb (cond b (n + k) (4 + (n + k))) (cond b 65536 left) ≡ true
    → (leb (cond b n (4 + n)) (cond b 65536 left) ≡ true) × (k ≤ cond b 65536 left - cond b n (4 + n)) × (cond b 65536 left - cond b n (4 + n) - k ≡ cond b 65536 left - cond b (n + k) (4 + (n + k)))
needs true left n k h = let le = leb-true _ _ h in (le-leb _ _ (omega (arith, le)), omega (arith, le), omega (arith, le))
needs false left n k h = let le = leb-true _ _ h in (le-leb _ _ (omega (arith, le)), omega (arith, le), omega (arith, le))

-- the room for a bundle's first line, for its elements, and what is left
bundle_room : (s : Reached) (tag : ℕ) (inner : Shapes) → has_room s (length (packet_bytes (bundle tag inner))) ≡ true
    → (has_room s 16 ≡ true) × (length (elements_bytes inner) ≤ room_after s 16) × (room_after s 16 - length (elements_bytes inner) ≡ room_after s (length (packet_bytes (bundle tag inner))))
bundle_room s tag inner h =
    let len = bundle_len tag inner in
    let parts = needs (length s.outer == 0) s.room 16 (length (elements_bytes inner)) (subst (λ n. has_room s n ≡ true) len h) in
    (parts.0, parts.1, parts.2 ∙ sym (ap (room_after s) len))

-- ---- packets

abbrev reach : Row → List Shape → List Row → ℕ → Reached
reach row xs outer room = record { row = record { tag = row.tag; around = row.around; elements = xs }; outer = outer; room = room }

same_row : (row : Row) (xs ys : List Shape) (outer : List Row) (a b : ℕ) → xs ≡ ys → a ≡ b → reach row xs outer a ≡ reach row ys outer b
same_row row xs ys outer a b e f = ap (λ zs. reach row zs outer a) e ∙ ap (reach row ys outer) f

no_elements : (row : Row) (outer : List Row) (room : ℕ) → Passes (reach row row.elements outer room) [] (reach row (row.elements ++ []) outer (room - 0))
no_elements row outer room = λ n rest.
    let same = same_row row (row.elements ++ []) row.elements outer (room - 0) room (append-nil row.elements) (omega arith) in
    (n, sym (ap (λ t. lines_at t n (pieces rest)) same))

one_more : (row : Row) (outer : List Row) (room : ℕ) (x : Shape) (xs : Shapes)
    → reach row ((row.elements ++ x ∷ []) ++ list_of xs) outer (room - (4 + length (packet_bytes x)) - length (elements_bytes xs)) ≡ reach row (row.elements ++ list_of (more x xs)) outer (room - length (elements_bytes (more x xs)))
one_more row outer room x xs = same_row row ((row.elements ++ x ∷ []) ++ list_of xs) (row.elements ++ x ∷ list_of xs) outer _ _ (append_assoc row.elements (x ∷ []) (list_of xs)) (omega (arith, more_len x xs))

abbrev put_bundle_at : Row → List Row → ℕ → ℕ → Shapes → Reached
put_bundle_at row outer room tag inner = record { row = put (bundle tag inner) row; outer = outer; room = room }

whole_bundle : (row : Row) (outer : List Row) (tag left room : ℕ) (inner : Shapes) → left ≡ room → put_bundle_at row outer left tag (shapes_from (list_of inner)) ≡ put_bundle_at row outer room tag inner
whole_bundle row outer tag left room inner e = ap (λ k. put_bundle_at row outer k tag (shapes_from (list_of inner))) e ∙ ap (put_bundle_at row outer room tag) (shapes_of_list inner)

mutual
  pub packet_passes : (x : Shape) (s : Reached) (deep : ℕ) → deep + length s.outer ≡ 8 → is_packet deep s.row.around x ≡ true → are_octets (packet_bytes x) ≡ true → length (packet_bytes x) ≤ 65536 → has_room s (length (packet_bytes x)) ≡ true → Passes s (packet_text x) (after_packet s x)
  packet_passes (message m) s deep place h octets short room = line_passes s (after_packet s (message m)) (message_line m) (one_line_message m h octets) (after_it s m h octets short room)
  packet_passes (bundle tag inner) s zero place h octets short room = absurd cc
  packet_passes (bundle tag inner) s (suc deep) place h octets short room =
      let tests = and_yes (ltb tag (2 ^ 64) && not (is_early s.row.around tag)) (are_packets deep (counts_as s.row.around tag) inner) h in
      let tags = and_yes (ltb tag (2 ^ 64)) (not (is_early s.row.around tag)) tests.0 in
      let few : tag < 2 ^ 64 = ltb-true tag (2 ^ 64) tags.0 in
      let parts = bundle_room s tag inner room in
      let stands : has_place s tag ≡ true = and_from _ _ (and_from _ _ (lt-ltb (length s.outer) 8 (omega (arith, place))) tags.1) parts.0 in
      let filled : Reached = reach (inside s.row tag) ([] ++ list_of inner) (s.row ∷ s.outer) (room_after s 16 - length (elements_bytes inner)) in
      let first = line_passes s (opened s tag) (bundle_line tag) (one_line_opening tag few) (after_first s tag few stands) in
      let all = elements_passes inner (inside s.row tag) s.row s.outer (room_after s 16) deep (omega (arith, place)) tests.1 (inner_octets tag inner octets) (omega (arith, short, bundle_len tag inner)) parts.1 in
      let last = line_passes filled (put_bundle_at s.row s.outer filled.room tag (shapes_from (list_of inner))) (93 ∷ []) refl (after_last filled.row s.row s.outer filled.room) in
      subst (Passes s (packet_text (bundle tag inner))) (whole_bundle s.row s.outer tag filled.room _ inner parts.2)
      (then_passes s filled _ (line (bundle_line tag) ++ elements_text inner) (line (93 ∷ [])) (then_passes s (opened s tag) filled (line (bundle_line tag)) (elements_text inner) first all) last)

  pub elements_passes : (xs : Shapes) (row next : Row) (outer : List Row) (room deep : ℕ) → deep + length (next ∷ outer) ≡ 8 → are_packets deep row.around xs ≡ true → are_octets (elements_bytes xs) ≡ true → length (elements_bytes xs) ≤ 65536 → length (elements_bytes xs) ≤ room
      → Passes (reach row row.elements (next ∷ outer) room) (elements_text xs) (reach row (row.elements ++ list_of xs) (next ∷ outer) (room - length (elements_bytes xs)))
  elements_passes none row next outer room deep place h octets short few = no_elements row (next ∷ outer) room
  elements_passes (more x xs) row next outer room deep place h octets short few =
      let parts = elements_apart deep row.around x xs h octets in
      let s : Reached = reach row row.elements (next ∷ outer) room in
      let left = room - (4 + length (packet_bytes x)) in
      let t : Reached = reach row (row.elements ++ x ∷ []) (next ∷ outer) left in
      let len = more_len x xs in
      let first = packet_passes x s deep place parts.0.0 parts.0.1 (omega (arith, short, len)) (inside_room row next outer room (length (packet_bytes x)) (omega (arith, few, len))) in
      let here = subst (Passes s (packet_text x)) (same_row row (row.elements ++ x ∷ []) (row.elements ++ x ∷ []) (next ∷ outer) _ left refl (inside_after row next outer room (length (packet_bytes x)))) first in
      let others = elements_passes xs (put x row) next outer left deep place parts.1 parts.2 (omega (arith, short, len)) (omega (arith, few, len)) in
      subst (Passes s (elements_text (more x xs))) (one_more row (next ∷ outer) room x xs) (then_passes s t _ (packet_text x) (elements_text xs) here others)

-- ---- whole scores

-- the score's packets, if none is open
record Whole (s : Reached) (text : List ℕ) (xs : List Shape) : Type 0 where
  room : ℕ
  passes : Passes s text (reach s.row (s.row.elements ++ xs) [] room)

packets_pass : (xs : List Shape) (row : Row) (room : ℕ) → row.around ≡ 1 → AllFit xs → Whole (reach row row.elements [] room) (flat_map packet_text xs) xs
packets_pass [] row room around h = record { room = room - 0; passes = no_elements row [] room }
packets_pass (x ∷ xs) row room around h =
    let s : Reached = reach row row.elements [] room in
    let t = fits_tests x h.0 in
    let first = packet_passes x s 8 refl (subst (λ a. is_packet 8 a x ≡ true) (sym around) t.allowed) t.octets t.few (le-leb _ _ t.few) in
    let others = packets_pass xs (put x row) (room_after s (length (packet_bytes x))) around h.1 in
    let all = then_passes s (after_packet s x) _ (packet_text x) (flat_map packet_text xs) first others.passes in
    record {
      room = others.room;
      passes = subst (Passes s (packet_text x ++ flat_map packet_text xs)) (same_row row ((row.elements ++ x ∷ []) ++ xs) (row.elements ++ x ∷ xs) [] others.room others.room (append_assoc row.elements (x ∷ []) xs) refl) all;
    }

at_the_end : (row : Row) (room n : ℕ) → lines_at (record { row = row; outer = []; room = room }) n ([] ∷ []) ≡ Ok row.elements
unfolding lines_at at_end
at_the_end row room n = refl

pub score_read : (text : List ℕ) (xs : List Shape) → Score text xs → read text ≡ Ok xs
unfolding score_text read
score_read text xs h =
    let w = packets_pass xs at_start.row 0 refl h.fit in
    let whole = w.passes 1 [] in
    ap (λ t. lines_at at_start 1 (pieces t)) (h.written ∙ sym (append-nil (flat_map packet_text xs))) ∙ whole.1 ∙ at_the_end (record { tag = 1; around = 1; elements = xs }) w.room whole.0
