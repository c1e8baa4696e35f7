-- What is read is a score, and a fault that reading gives is the first.
use Rattle.std.proofs.Common.{◌≡◌, ℕ, ◌+◌, ◌<◌, Bool, true, false, not, cond, ◌==◌, List, [], ◌∷◌, ◌++◌, length, flat_map, Option, Some, None, Ok, Err, refl, sym, ap, subst, ◌∙◌, append_assoc, append-nil, arith, inl, inr, eqb-true}
use Rattle.std.specs.List.{join_with_byte, onto_first}
use Rattle.std.proofs.lemmas.List.{length-append, nil_from_length}
use Rattle.std.proofs.lemmas.List.Splits.{join_with_byte-slice_split}
use Rattle.sn_osc.specs.Shape.{Shape}
use Rattle.sn_osc.proofs.Fields.{and_yes, not_yes}
use Rattle.sn_score.specs.Lines.{line, packet_text}
use Rattle.sn_score.specs.Score.{AllFit, Score, score_text}
use Rattle.sn_score.specs.Faults.{IsScore, IsLine, AreLines, lines_text, Begin, NextFault, ScoreFault}
use Rattle.sn_score.specs.Reached.{Row, Reached, Read, at_start, put, bundle_of, after_line, or_at, at_end, lines_at, pieces, read}
use Rattle.sn_score.proofs.Digits.{has_no}
use Rattle.sn_score.proofs.Packets.{all_push}
use Rattle.sn_score.proofs.Standing.{Stands, Good, good_start, written_at, written, closing_more, line_more}
use Rattle.sn_score.proofs.Running.{some_pieces, some_lines, pieces_line, next_line, score_read}

apart : {xs : List Shape} {n : ℕ} (r : Read) → r ≡ Ok xs → r ≡ Err n → ⊥
apart (Ok x) a b = cc
apart (Err e) a b = cc

ok_is : (a b : List Shape) → (let r : Read = Ok a in r) ≡ Ok b → a ≡ b
ok_is a b e = cc

-- ---- lines and pieces

line_first : (l : List ℕ) (rest : List (List ℕ)) → 0 < length rest → join_with_byte 10 (l ∷ rest) ≡ line l ++ join_with_byte 10 rest
line_first l [] some = absurd (omega (arith, some))
line_first l (p ∷ ps) some = sym (append_assoc l (10 ∷ []) (join_with_byte 10 (p ∷ ps)))

onto_lines : (b : ℕ) (same : Bool) (ps : List (List ℕ)) → (b == 10) ≡ same → AreLines ps → AreLines (cond same ([] ∷ ps) (onto_first b ps))
onto_lines b true ps is h = (refl, h)
onto_lines b false [] is h = (rw is refl, tt)
onto_lines b false (p ∷ ps) is h = (rw is h.0, h.1)

pieces_are_lines : (text : List ℕ) → AreLines (pieces text)
pieces_are_lines [] = (refl, tt)
pieces_are_lines (b ∷ text) = onto_lines b (b == 10) (pieces text) refl (pieces_are_lines text)

pub pieces_lines : (ls : List (List ℕ)) (rest : List ℕ) → AreLines ls → pieces (lines_text ls ++ rest) ≡ ls ++ pieces rest
pieces_lines [] rest h = refl
pieces_lines (l ∷ ls) rest h = ap (λ t. pieces t) (append_assoc (line l) (lines_text ls) rest) ∙ pieces_line l (lines_text ls ++ rest) h.0 ∙ ap (λ (ps : List (List ℕ)). l ∷ ps) (pieces_lines ls rest h.1)

lines_push : (ls : List (List ℕ)) (l : List ℕ) → lines_text (ls ++ l ∷ []) ≡ lines_text ls ++ line l
lines_push [] l = append-nil (line l)
lines_push (k ∷ ls) l = ap (λ (t : List ℕ). line k ++ t) (lines_push ls l) ∙ sym (append_assoc (line k) (lines_text ls) (line l))

last_piece : (rest : List ℕ) → IsLine rest → pieces rest ≡ rest ∷ []
last_piece [] h = refl
last_piece (b ∷ rest) h =
    let both = and_yes (not (b == 10)) (has_no 10 rest) h in
    rw (not_yes (b == 10) both.0) (ap (onto_first b) (last_piece rest both.1))

-- ---- the end of a text

-- the score's row, if no bundle is open
record Ended (rest : List ℕ) (s : Reached) (xs : List Shape) : Type 0 where
  none_left : rest ≡ []
  none_open : s.outer ≡ []
  all : s.row.elements ≡ xs

ended : (s : Reached) (n : ℕ) (rest : List ℕ) (xs : List Shape) → at_end s n rest ≡ Ok xs → Ended rest s xs
unfolding at_end
ended s n rest xs e = by_tests (length rest == 0) (length s.outer == 0) refl refl e
  where
    by_tests : (a b : Bool) → (length rest == 0) ≡ a → (length s.outer == 0) ≡ b → cond a (or_at (cond b (Some s.row.elements) None) n) (Err n) ≡ Ok xs → Ended rest s xs
    by_tests true true p q e = record { none_left = nil_from_length rest (eqb-true _ _ p); none_open = nil_from_length s.outer (eqb-true _ _ q); all = ok_is s.row.elements xs e }
    by_tests true false p q e = absurd (apart _ e refl)
    by_tests false b p q e = absurd (apart _ e refl)

whole_score : (row : Row) (outer : List Row) (deep : ℕ) → outer ≡ [] → Stands deep row outer → AllFit row.elements × (written_at row outer ≡ flat_map packet_text row.elements)
whole_score row [] deep none stands = (stands.2, refl)
whole_score row (next ∷ outer) deep none stands = absurd (let z : length (next ∷ outer) ≡ 0 = ap length none in omega (arith, z))

at_end_ok : (s : Reached) (n : ℕ) (rest : List ℕ) (xs : List Shape) → Good s → at_end s n rest ≡ Ok xs → Score (written s ++ rest) xs
unfolding score_text
at_end_ok s n rest xs g e =
    let end = ended s n rest xs e in
    let whole = whole_score s.row s.outer g.deep end.none_open g.stands in
    record {
      fit = subst AllFit end.all whole.0;
      written = ap (λ (k : List ℕ). written s ++ k) end.none_left ∙ append-nil (written s) ∙ whole.1 ∙ ap (flat_map packet_text) end.all;
    }

one_left : (s : Reached) (n : ℕ) (rest : List ℕ) → lines_at s n (rest ∷ []) ≡ at_end s n rest
unfolding lines_at
one_left s n rest = refl

wrong_line : (s : Reached) (n : ℕ) (l : List ℕ) (lines : List (List ℕ)) → 0 < length lines → after_line s l ≡ None → lines_at s n (l ∷ lines) ≡ Err n
unfolding lines_at
wrong_line s n l lines some e = rw (some_lines lines some, e) refl

no_lines : (s : Reached) (n : ℕ) → lines_at s n [] ≡ Err n
unfolding lines_at
no_lines s n = refl

-- ---- what is read is a score

-- one line, and then the others
further_score : (p : List ℕ) (ps : List (List ℕ)) (s : Reached) (n : ℕ) (xs : List Shape) (o : Option Reached) → after_line s p ≡ o → 0 < length ps → ((t : Reached) → Good t → lines_at t (n + 1) ps ≡ Ok xs → Score (written t ++ join_with_byte 10 ps) xs)
    → Good s → lines_at s n (p ∷ ps) ≡ Ok xs → Score (written s ++ join_with_byte 10 (p ∷ ps)) xs
further_score p ps s n xs None is some others g e = absurd (apart _ e (wrong_line s n p ps some is))
further_score p ps s n xs (Some t) is some others g e =
    let step = line_more s t p g is in
    let text : written t ++ join_with_byte 10 ps ≡ written s ++ join_with_byte 10 (p ∷ ps) = ap (λ (k : List ℕ). k ++ join_with_byte 10 ps) step.text ∙ append_assoc (written s) (line p) (join_with_byte 10 ps) ∙ ap (λ (k : List ℕ). written s ++ k) (sym (line_first p ps some)) in
    subst (λ k. Score k xs) text (others t step.good (sym (next_line s t n p ps some is) ∙ e))

lines_score : (ps : List (List ℕ)) (s : Reached) (n : ℕ) (xs : List Shape) → Good s → lines_at s n ps ≡ Ok xs → Score (written s ++ join_with_byte 10 ps) xs
lines_score [] s n xs g e = absurd (apart _ e (no_lines s n))
lines_score (p ∷ []) s n xs g e = at_end_ok s n p xs g (sym (one_left s n p) ∙ e)
lines_score (p ∷ q ∷ ps) s n xs g e = further_score p (q ∷ ps) s n xs (after_line s p) refl (omega arith) (λ t good is. lines_score (q ∷ ps) t (n + 1) xs good is) g e

pub read_score : (text : List ℕ) (xs : List Shape) → read text ≡ Ok xs → Score text xs
unfolding read
read_score text xs e = subst (λ k. Score k xs) (join_with_byte-slice_split 10 text) (lines_score (pieces text) at_start 1 xs good_start e)

-- ---- what has been read begins a score: the open bundles are closed at once

closed_at_once : (outer : List Row) (row : Row) (room : ℕ) → Good (record { row = row; outer = outer; room = room }) → (more : List ℕ) × IsScore (written_at row outer ++ more)
unfolding score_text
closed_at_once [] row room g = ([], (row.elements, record { fit = g.stands.2; written = append-nil (flat_map packet_text row.elements) }))
closed_at_once (next ∷ outer) row room g =
    let s : Reached = record { row = row; outer = next ∷ outer; room = room } in
    let step = closing_more s row next outer room refl g in
    let rest = closed_at_once outer (put (bundle_of row) next) room step.good in
    let text : written_at (put (bundle_of row) next) outer ++ rest.0 ≡ written s ++ (line (93 ∷ []) ++ rest.0) = ap (λ (k : List ℕ). k ++ rest.0) step.text ∙ append_assoc (written s) (line (93 ∷ [])) rest.0 in
    (line (93 ∷ []) ++ rest.0, subst IsScore text rest.1)

begins : (s : Reached) (ls : List (List ℕ)) → Good s → written s ≡ lines_text ls → Begin ls
begins s ls g is =
    let c = closed_at_once s.outer s.row s.room g in
    (c.0, subst (λ k. IsScore (k ++ c.0)) is c.1)

-- ---- how far reading came

record Arrives (text : List ℕ) (s : Reached) (n : ℕ) (earlier ps : List (List ℕ)) : Type 0 where
  good : Good s
  said : written s ≡ lines_text earlier
  whole : AreLines earlier
  number : n ≡ length earlier + 1
  goes : (ms : List (List ℕ)) → 0 < length ms → lines_at at_start 1 (earlier ++ ms) ≡ lines_at s n ms
  parts : text ≡ lines_text earlier ++ join_with_byte 10 ps
  left : AreLines ps

further : (text : List ℕ) (s t : Reached) (n : ℕ) (earlier : List (List ℕ)) (p : List ℕ) (ps : List (List ℕ)) → 0 < length ps → after_line s p ≡ Some t → Arrives text s n earlier (p ∷ ps) → Arrives text t (n + 1) (earlier ++ p ∷ []) ps
further text s t n earlier p ps some is a =
    let step = line_more s t p a.good is in
    record {
      good = step.good;
      said = step.text ∙ ap (λ (k : List ℕ). k ++ line p) a.said ∙ sym (lines_push earlier p);
      whole = all_push IsLine earlier p a.whole a.left.0;
      number = omega (arith, a.number, length-append earlier (p ∷ []));
      goes = λ ms more. ap (lines_at at_start 1) (append_assoc earlier (p ∷ []) ms) ∙ a.goes (p ∷ ms) (omega arith) ∙ next_line s t n p ms more is;
      parts = a.parts ∙ ap (λ (k : List ℕ). lines_text earlier ++ k) (line_first p ps some) ∙ sym (append_assoc (lines_text earlier) (line p) (join_with_byte 10 ps)) ∙ ap (λ (k : List ℕ). k ++ join_with_byte 10 ps) (sym (lines_push earlier p));
      left = a.left.1;
    }

-- no score goes on with this line
begin_none : (text : List ℕ) (s : Reached) (n : ℕ) (earlier : List (List ℕ)) (p : List ℕ) (ps : List (List ℕ)) → Arrives text s n earlier (p ∷ ps) → after_line s p ≡ None → Begin (earlier ++ p ∷ []) → ⊥
unfolding read
begin_none text s n earlier p ps a is b =
    let (rest, (xs, score)) = b in
    let lines : pieces (lines_text (earlier ++ p ∷ []) ++ rest) ≡ earlier ++ p ∷ pieces rest = pieces_lines (earlier ++ p ∷ []) rest (all_push IsLine earlier p a.whole a.left.0) ∙ append_assoc earlier (p ∷ []) (pieces rest) in
    apart _ (score_read _ xs score) (ap (lines_at at_start 1) lines ∙ a.goes (p ∷ pieces rest) (omega arith) ∙ wrong_line s n p (pieces rest) (some_pieces rest) is)

err_is : {m n : ℕ} → (let r : Read = Err m in r) ≡ Err n → m ≡ n
err_is e = cc

end_fault : (s : Reached) (n k : ℕ) (rest : List ℕ) → at_end s n rest ≡ Err k → n ≡ k
unfolding at_end
end_fault s n k rest e = by_tests (length rest == 0) (length s.outer == 0) e
  where
    by_tests : (a b : Bool) → cond a (or_at (cond b (Some s.row.elements) None) n) (Err n) ≡ Err k → n ≡ k
    by_tests true true e = cc
    by_tests true false e = cc
    by_tests false b e = cc

-- the fault is in this line, or in the others
line_fault : (p : List ℕ) (ps : List (List ℕ)) (text : List ℕ) (s : Reached) (n k : ℕ) (earlier : List (List ℕ)) (o : Option Reached) → after_line s p ≡ o → 0 < length ps
    → ((t : Reached) → Arrives text t (n + 1) (earlier ++ p ∷ []) ps → lines_at t (n + 1) ps ≡ Err k → ScoreFault text k) → Arrives text s n earlier (p ∷ ps) → lines_at s n (p ∷ ps) ≡ Err k → ScoreFault text k
line_fault p ps text s n k earlier None is some others a e = record {
  earlier = earlier;
  rest = join_with_byte 10 (p ∷ ps);
  parts = a.parts;
  whole = a.whole;
  number_is = sym (err_is (sym (wrong_line s n p ps some is) ∙ e)) ∙ a.number;
  begin = begins s earlier a.good a.said;
  why = inl (p, join_with_byte 10 ps, a.left.0, line_first p ps some, begin_none text s n earlier p ps a is);
}
line_fault p ps text s n k earlier (Some t) is some others a e = others t (further text s t n earlier p ps some is a) (sym (next_line s t n p ps some is) ∙ e)

lines_fault : (ps : List (List ℕ)) (text : List ℕ) (s : Reached) (n k : ℕ) (earlier : List (List ℕ)) → 0 < length ps → (IsScore text → ⊥) → Arrives text s n earlier ps → lines_at s n ps ≡ Err k → ScoreFault text k
lines_fault [] text s n k earlier some none a e = absurd (omega (arith, some))
lines_fault (p ∷ []) text s n k earlier some none a e = record {
  earlier = earlier;
  rest = p;
  parts = a.parts;
  whole = a.whole;
  number_is = sym (end_fault s n k p (sym (one_left s n p) ∙ e)) ∙ a.number;
  begin = begins s earlier a.good a.said;
  why = inr (a.left.0, λ h. none (subst IsScore (sym a.parts) h));
}
lines_fault (p ∷ q ∷ ps) text s n k earlier some none a e =
    line_fault p (q ∷ ps) text s n k earlier (after_line s p) refl (omega arith) (λ t b is. lines_fault (q ∷ ps) text t (n + 1) k (earlier ++ p ∷ []) (omega arith) none b is) a e

no_score : (text : List ℕ) (k : ℕ) → read text ≡ Err k → IsScore text → ⊥
no_score text k e h = apart _ (score_read text h.0 h.1) e

pub read_fault : (text : List ℕ) (k : ℕ) → read text ≡ Err k → ScoreFault text k
unfolding read
read_fault text k e = lines_fault (pieces text) text at_start 1 k [] (some_pieces text) (no_score text k e) (record {
  good = good_start;
  said = refl;
  whole = tt;
  number = refl;
  goes = λ ms some. refl;
  parts = sym (join_with_byte-slice_split 10 text);
  left = pieces_are_lines text;
}) e

-- ---- the first fault is read

-- reading goes over lines with which some score begins
record Over (s : Reached) (n : ℕ) (ls : List (List ℕ)) : Type 0 where
  to : Reached
  good : Good to
  said : written to ≡ written s ++ lines_text ls
  goes : (ms : List (List ℕ)) → 0 < length ms → lines_at s n (ls ++ ms) ≡ lines_at to (n + length ls) ms

over_line : (l : List ℕ) (ls ms : List (List ℕ)) (s : Reached) (n : ℕ) (xs : List Shape) (o : Option Reached) → after_line s l ≡ o → Good s → 0 < length ms → ((t : Reached) → Good t → lines_at t (n + 1) (ls ++ ms) ≡ Ok xs → Over t (n + 1) ls)
    → lines_at s n (l ∷ (ls ++ ms)) ≡ Ok xs → Over s n (l ∷ ls)
over_line l ls ms s n xs None is g some others e = absurd (apart _ e (wrong_line s n l (ls ++ ms) (omega (arith, some, length-append ls ms)) is))
over_line l ls ms s n xs (Some t) is g some others e =
    let long : (ms : List (List ℕ)) → 0 < length ms → 0 < length (ls ++ ms) = λ ms more. omega (arith, more, length-append ls ms) in
    let step = line_more s t l g is in
    let rest = others t step.good (sym (next_line s t n l (ls ++ ms) (long ms some) is) ∙ e) in
    let count : n + 1 + length ls ≡ n + length (l ∷ ls) = omega arith in
    record {
      to = rest.to;
      good = rest.good;
      said = rest.said ∙ ap (λ (k : List ℕ). k ++ lines_text ls) step.text ∙ append_assoc (written s) (line l) (lines_text ls);
      goes = λ ms more. next_line s t n l (ls ++ ms) (long ms more) is ∙ rest.goes ms more ∙ ap (λ k. lines_at rest.to k ms) count;
    }

goes_over : (ls ms : List (List ℕ)) (s : Reached) (n : ℕ) (xs : List Shape) → Good s → 0 < length ms → lines_at s n (ls ++ ms) ≡ Ok xs → Over s n ls
goes_over [] ms s n xs g some e =
    let count : n ≡ n + 0 = omega arith in
    record { to = s; good = g; said = sym (append-nil (written s)); goes = λ ms more. ap (λ k. lines_at s k ms) count }
goes_over (l ∷ ls) ms s n xs g some e = over_line l ls ms s n xs (after_line s l) refl g some (λ t good is. goes_over ls ms t (n + 1) xs good some is) e

over_begin : (ls : List (List ℕ)) → AreLines ls → Begin ls → Over at_start 1 ls
unfolding read
over_begin ls whole b =
    let (rest, (xs, score)) = b in
    goes_over ls (pieces rest) at_start 1 xs good_start (some_pieces rest) (sym (ap (lines_at at_start 1) (pieces_lines ls rest whole)) ∙ score_read _ xs score)

next_wrong : (ls : List (List ℕ)) (l : List ℕ) (s : Reached) (o : Option Reached) → after_line s l ≡ o → Good s → written s ≡ lines_text ls → (Begin (ls ++ l ∷ []) → ⊥) → after_line s l ≡ None
next_wrong ls l s None is g said none = is
next_wrong ls l s (Some t) is g said none =
    let step = line_more s t l g is in
    absurd (none (begins t (ls ++ l ∷ []) step.good (step.text ∙ ap (λ (k : List ℕ). k ++ line l) said ∙ sym (lines_push ls l))))

end_none : (s : Reached) (n : ℕ) (rest : List ℕ) → ((xs : List Shape) → at_end s n rest ≡ Ok xs → ⊥) → at_end s n rest ≡ Err n
unfolding at_end
end_none s n rest h = by_tests (length rest == 0) (length s.outer == 0) h
  where
    by_tests : (a b : Bool) → ((xs : List Shape) → cond a (or_at (cond b (Some s.row.elements) None) n) (Err n) ≡ Ok xs → ⊥) → cond a (or_at (cond b (Some s.row.elements) None) n) (Err n) ≡ Err n
    by_tests true true h = absurd (h s.row.elements refl)
    by_tests true false h = refl
    by_tests false b h = refl

-- after the lines that are whole stands the fault
fault_here : (text : List ℕ) (k : ℕ) (f : ScoreFault text k) (over : Over at_start 1 f.earlier) → lines_at at_start 1 (pieces text) ≡ lines_at over.to k (pieces f.rest) → NextFault f.earlier f.rest → lines_at at_start 1 (pieces text) ≡ Err k
unfolding read
fault_here text k f over here (inl (l, later, one, parts, none)) =
    let lines : pieces f.rest ≡ l ∷ pieces later = ap (λ t. pieces t) parts ∙ pieces_line l later one in
    let wrong = next_wrong f.earlier l over.to (after_line over.to l) refl over.good over.said none in
    here ∙ ap (lines_at over.to k) lines ∙ wrong_line over.to k l (pieces later) (some_pieces later) wrong
fault_here text k f over here (inr (one, none)) =
    let lines : pieces f.rest ≡ f.rest ∷ [] = last_piece f.rest one in
    let whole : lines_at at_start 1 (pieces text) ≡ at_end over.to k f.rest = here ∙ ap (lines_at over.to k) lines ∙ one_left over.to k f.rest in
    let same : lines_at at_start 1 (pieces (lines_text f.earlier ++ f.rest)) ≡ lines_at at_start 1 (pieces text) = ap (λ t. lines_at at_start 1 (pieces t)) (sym f.parts) in
    whole ∙ end_none over.to k f.rest (λ xs e. none (xs, read_score (lines_text f.earlier ++ f.rest) xs (same ∙ whole ∙ e)))

pub fault_read : (text : List ℕ) (k : ℕ) → ScoreFault text k → read text ≡ Err k
unfolding read
fault_read text k f =
    let over = over_begin f.earlier f.whole f.begin in
    let count : 1 + length f.earlier ≡ k = omega (arith, f.number_is) in
    let here : lines_at at_start 1 (pieces text) ≡ lines_at over.to (1 + length f.earlier) (pieces f.rest) = ap (λ t. lines_at at_start 1 (pieces t)) f.parts ∙ ap (lines_at at_start 1) (pieces_lines f.earlier f.rest f.whole) ∙ over.goes (pieces f.rest) (some_pieces f.rest) in
    fault_here text k f over (here ∙ ap (λ m. lines_at over.to m (pieces f.rest)) count) f.why

pub excluded : (text : List ℕ) (xs : List Shape) (k : ℕ) → Score text xs → ScoreFault text k → ⊥
excluded text xs k h f = apart _ (score_read text xs h) (fault_read text k f)
