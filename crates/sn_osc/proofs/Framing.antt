-- Frames that are taken one after another are the first of a stream.
use Rattle.std.proofs.Common.{◌≡◌, ℕ, ℤ, suc, ◌+◌, ◌-◌, ◌<◌, ◌≤◌, Bool, true, false, not, cond, ltb, List, [], ◌∷◌, ◌++◌, length, map, take, drop, Some, Result, Ok, Err, OnErr, refl, sym, ap, subst, ◌∙◌, append_assoc, append-nil, take_all, get_or, add-one, arith, IsTrue, length-append}
use Rattle.std.specs.Int.{w32, from_be_bytes, cast_signed}
use Rattle.std.proofs.lemmas.Bool.{ltb-false, le-ltb}
use Rattle.std.proofs.lemmas.List.{take-append-drop, take-append-le, drop_at, length-drop}
use Rattle.std.proofs.Math.Seq.{take-suc}
use Rattle.sn_ports.specs.Octets.{Octets}
use Rattle.sn_osc.specs.declared.frame.Frame.{Frame}
use Rattle.sn_osc.specs.Bytes.{frame_bytes}
use Rattle.sn_osc.specs.Reading.{int_in, size_in}
use Rattle.sn_osc.specs.Frames.{cut, bad_size, frame, is_frame_size, first_frame}
use Rattle.sn_osc.specs.Framing.{Framing}
use Rattle.sn_osc.specs.Framed.{fed_with, Next, HasNoFrame, joined, StandAt, AreFirst, packet_of, joined_pieces}
use Rattle.sn_osc.proofs.Frames.{kept_after}
use Rattle.sn_osc.proofs.Streams.{no_more, frame_len, same_split, frame_first, cut_is_not_frame, bad_is_not_frame}

pub none_at_cut : (bytes : List ℕ) → first_frame bytes ≡ cut → HasNoFrame bytes
none_at_cut bytes e packet rest size parts = cut_is_not_frame (first_frame bytes) packet rest e (frame_first packet rest bytes size parts)

pub none_at_bad : (bytes : List ℕ) (n : ℤ) → first_frame bytes ≡ bad_size n → HasNoFrame bytes
none_at_bad bytes n e packet rest size parts = bad_is_not_frame (first_frame bytes) n packet rest e (frame_first packet rest bytes size parts)

-- what is kept after a frame that is taken
pub taken_from : (all items bytes front after : List ℕ) (given : ℕ) → all ≡ items → bytes ≡ front → IsTrue (is_frame_size (length front)) → take (length all - given) (drop given all) ≡ frame_bytes front ++ after
    → IsTrue (is_frame_size (length bytes)) × (drop given items ≡ frame_bytes bytes ++ drop (given + (4 + length front)) items)
taken_from all items bytes front after given are is size parts =
    let whole : drop given items ≡ frame_bytes front ++ after =
    ap (drop given) (sym are) ∙ sym (take_all (length all - given) (drop given all) (omega (arith, length-drop given all))) ∙ parts in
    let left : drop (given + (4 + length front)) items ≡ after =
    kept_after given (length front) items ∙ ap (λ (t : List ℕ). drop (length front) (drop 4 t)) whole ∙ drop_at front after (length front) refl in
    (subst (λ (t : List ℕ). IsTrue (is_frame_size (length t))) (sym is) size, whole ∙ ap (λ (t : List ℕ). frame_bytes front ++ t) (sym left) ∙ ap (λ (t : List ℕ). frame_bytes t ++ drop (given + (4 + length front)) items) (sym is))

-- ---- one frame more

joined_more : (fs : List Frame) (f : Frame) → joined (fs ++ f ∷ []) ≡ joined fs ++ frame_bytes f.bytes.bytes
joined_more [] f = append-nil (frame_bytes f.bytes.bytes)
joined_more (g ∷ fs) f = ap (λ (t : List ℕ). frame_bytes g.bytes.bytes ++ t) (joined_more fs f) ∙ sym (append_assoc (frame_bytes g.bytes.bytes) (joined fs) (frame_bytes f.bytes.bytes))

stand_more : (at : ℕ) (fs : List Frame) (f : Frame) → StandAt at fs → IsTrue (is_frame_size (length f.bytes.bytes)) → f.place ≡ at + length (joined fs) + 4 → StandAt at (fs ++ f ∷ [])
stand_more at [] f h size place = (size, omega (arith, place), tt)
stand_more at (g ∷ fs) f h size place = (h.0, h.1, stand_more (at + 4 + length g.bytes.bytes) fs f h.2 size (omega (arith, place, frame_len g.bytes.bytes (joined fs))))

pub takes_one : (stream : List ℕ) (fs : List Frame) (f : Frame) (old new : Framing) → AreFirst stream fs old → Next old new (Ok (Some f)) → AreFirst stream (fs ++ f ∷ []) new
takes_one stream fs f old new h n =
    let packet = f.bytes.bytes in
    let len : length stream ≡ length (joined fs) + length old.kept = ap length h.whole ∙ length-append (joined fs) old.kept in
    let place : f.place ≡ 0 + length (joined fs) + 4 = omega (arith, n.3, h.count, len) in
    record {
      whole = h.whole ∙ ap (λ (t : List ℕ). joined fs ++ t) n.1 ∙ sym (append_assoc (joined fs) (frame_bytes packet) new.kept) ∙ ap (λ (t : List ℕ). t ++ new.kept) (sym (joined_more fs f));
      stand = stand_more 0 fs f h.stand n.0 place;
      count = n.2 ∙ h.count;
    }

-- ---- one piece more

pub feeds_one : (stream piece : List ℕ) (fs : List Frame) (old : Framing) → AreFirst stream fs old → AreFirst (stream ++ piece) fs (fed_with piece old)
feeds_one stream piece fs old h = record {
  whole = ap (λ (t : List ℕ). t ++ piece) h.whole ∙ append_assoc (joined fs) old.kept piece;
  stand = h.stand;
  count = omega (arith, h.count, length-append stream piece);
}

pub joined_piece : (pieces : List Octets) (piece : Octets) → joined_pieces (pieces ++ piece ∷ []) ≡ joined_pieces pieces ++ piece.bytes
joined_piece [] piece = append-nil piece.bytes
joined_piece (p ∷ pieces) piece = ap (λ (t : List ℕ). p.bytes ++ t) (joined_piece pieces piece) ∙ sym (append_assoc p.bytes (joined_pieces pieces) piece.bytes)

pub joined_both : (a b : List Octets) → length (joined_pieces (a ++ b)) ≡ length (joined_pieces a) + length (joined_pieces b)
joined_both [] b = omega arith
joined_both (p ∷ a) b = omega (arith, joined_both a b, length-append p.bytes (joined_pieces (a ++ b)), length-append p.bytes (joined_pieces a))

pub take_more : (pieces : List Octets) (i : ℕ) (piece : Octets) → i < length pieces → piece ≡ get_or pieces i piece → joined_pieces (take (i + 1) pieces) ≡ joined_pieces (take i pieces) ++ piece.bytes
take_more pieces i piece lt is =
    let next : i + 1 ≡ suc i = add-one i in
    ap (λ (k : ℕ). joined_pieces (take k pieces)) next ∙ ap (λ (ps : List Octets). joined_pieces ps) (take-suc pieces i piece lt ∙ ap (λ (p : Octets). take i pieces ++ p ∷ []) (sym is)) ∙ joined_piece (take i pieces) piece

pub piece_fits : (pieces : List Octets) (i : ℕ) (piece : Octets) → i < length pieces → piece ≡ get_or pieces i piece → length (joined_pieces (take i pieces)) + length piece.bytes ≤ length (joined_pieces pieces)
piece_fits pieces i piece lt is =
    let whole = ap (λ (ps : List Octets). length (joined_pieces ps)) (take-append-drop (i + 1) pieces) in
    omega (arith, whole, joined_both (take (i + 1) pieces) (drop (i + 1) pieces), ap length (take_more pieces i piece lt is), length-append (joined_pieces (take i pieces)) piece.bytes)

pub kept_len : (stream : List ℕ) (fs : List Frame) (f : Framing) → AreFirst stream fs f → length f.kept ≤ length stream
kept_len stream fs f h = omega (arith, ap length h.whole, length-append (joined fs) f.kept)

pub on_err : {T E P : Type 0} (r : Result T E) → P → OnErr r P
on_err (Ok x) p = tt
on_err (Err e) p = p

-- ---- they are the only ones

pub one_framing : (stream : List ℕ) (fs gs : List Frame) (kept left : List ℕ) (at : ℕ) → StandAt at fs → StandAt at gs → stream ≡ joined fs ++ kept → stream ≡ joined gs ++ left → HasNoFrame kept → HasNoFrame left
    → (map packet_of fs ≡ map packet_of gs) × (kept ≡ left)
one_framing stream [] [] kept left at h h' parts parts' none none' = (refl, sym parts ∙ parts')
one_framing stream [] (g ∷ gs) kept left at h h' parts parts' none none' =
    absurd (none g.bytes.bytes (joined gs ++ left) h'.0 (sym parts ∙ parts' ∙ append_assoc (frame_bytes g.bytes.bytes) (joined gs) left))
one_framing stream (f ∷ fs) [] kept left at h h' parts parts' none none' =
    absurd (none' f.bytes.bytes (joined fs ++ kept) h.0 (sym parts' ∙ parts ∙ append_assoc (frame_bytes f.bytes.bytes) (joined fs) kept))
one_framing stream (f ∷ fs) (g ∷ gs) kept left at h h' parts parts' none none' =
    let a = f.bytes.bytes in
    let b = g.bytes.bytes in
    let parted : frame_bytes a ++ (joined fs ++ kept) ≡ frame_bytes b ++ (joined gs ++ left) =
    sym (append_assoc (frame_bytes a) (joined fs) kept) ∙ sym parts ∙ parts' ∙ append_assoc (frame_bytes b) (joined gs) left in
    let same = same_split a b (joined fs ++ kept) (joined gs ++ left) (omega (arith, no_more (length a) h.0)) (omega (arith, no_more (length b) h'.0)) parted in
    let stand : StandAt (at + 4 + length a) gs = subst (λ (n : ℕ). StandAt (at + 4 + n) gs) (sym (ap length same.0)) h'.2 in
    let others = one_framing (joined gs ++ left) fs gs kept left (at + 4 + length a) h.2 stand (sym same.1) refl none none' in
    (ap (λ (x : List ℕ). x ∷ map packet_of fs) same.0 ∙ ap (λ (xs : List (List ℕ)). b ∷ xs) others.0, others.1)

pub same_framing : (stream : List ℕ) (fs gs : List Frame) (f g : Framing) → AreFirst stream fs f → AreFirst stream gs g → HasNoFrame f.kept → HasNoFrame g.kept → (map packet_of fs ≡ map packet_of gs) × (f ≡ g)
same_framing stream fs gs f g h h' none none' =
    let same = one_framing stream fs gs f.kept g.kept 0 h.stand h'.stand h.whole h'.whole none none' in
    let kept = same.1 in
    let fed : f.fed ≡ g.fed = h.count ∙ sym h'.count in
    (same.0, ap (λ (xs : List ℕ). record f { kept = xs }) kept ∙ ap (λ (n : ℕ). record { kept = g.kept; fed = n }) fed)

-- ---- a bad size stays

bad_parts : (b c d : Bool) (i n : ℤ) (f a : List ℕ) → cond b cut (cond c (bad_size i) (cond d cut (frame f a))) ≡ bad_size n → (b ≡ false) × (c ≡ true) × (i ≡ n)
bad_parts true c d i n f a e = absurd cc
bad_parts false true d i n f a e = (refl, refl, cc)
bad_parts false false true i n f a e = absurd cc
bad_parts false false false i n f a e = absurd cc

pub bad_stays : (bytes more : List ℕ) (n : ℤ) → first_frame bytes ≡ bad_size n → first_frame (bytes ++ more) ≡ bad_size n
bad_stays bytes more n e =
    let size = size_in bytes in
    let after = drop 4 bytes in
    let (short, bad, is) = bad_parts (ltb (length bytes) 4) (not (is_frame_size size)) (ltb (length after) size) (int_in bytes) n (take size after) (drop size after) e in
    let long : 4 ≤ length bytes = ltb-false _ _ short in
    let front : take 4 (bytes ++ more) ≡ take 4 bytes = take-append-le 4 bytes more long in
    let sizes : size_in (bytes ++ more) ≡ size = ap (from_be_bytes w32) front in
    let ints : int_in (bytes ++ more) ≡ n = ap (λ t. cast_signed w32 (from_be_bytes w32 t)) front ∙ is in
    let four : ltb (length (bytes ++ more)) 4 ≡ false = le-ltb _ _ (omega (arith, long, length-append bytes more)) in
    let other : not (is_frame_size (size_in (bytes ++ more))) ≡ true = ap (λ k. not (is_frame_size k)) sizes ∙ bad in
    rw (four, other) (ap (λ k. bad_size k) ints)
