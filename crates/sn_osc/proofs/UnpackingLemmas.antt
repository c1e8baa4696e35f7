-- The whole frames at the start of a stream are the same in whatever pieces it comes.
use Rattle.std.proofs.Common.{◌≡◌, ℕ, zero, suc, ℤ, ◌+◌, ◌<◌, ◌≤◌, Bool, true, false, not, cond, ltb, List, [], ◌∷◌, ◌++◌, length, take, drop, refl, sym, ap, subst, ◌∙◌, append_assoc, arith}
use Rattle.std.specs.Int.{w32, from_be_bytes}
use Rattle.std.proofs.lemmas.Bool.{ltb-false, le-ltb}
use Rattle.std.proofs.lemmas.List.{length-append, length-take, length-drop}
use lib.Seq.{drop-append-le, take-append-le}
use Rattle.sn_osc.specs.Bytes.{frame_bytes}
use Rattle.sn_osc.specs.Reading.{int_in, size_in}
use Rattle.sn_osc.specs.Framed.{HasNoFrame}
use Rattle.sn_osc.specs.Frames.{FirstFrame, cut, bad_size, frame, is_frame_size, first_frame}
use Rattle.sn_osc.specs.Unpacking.{Unpacked, no_frame, one_more, after_first, first_frames, unpacked, joined_to, joined_frames, AreWholeFrames}
use Rattle.sn_osc.proofs.Fields.{IsBytes, IsBytes-drop}
use Rattle.sn_osc.proofs.Frames.{same_frame, frame_stands}
use Rattle.sn_osc.proofs.Streams.{frame_first}
use Rattle.sn_osc.proofs.Framing.{none_at_cut, none_at_bad}

frame_parts : (b c d : Bool) (i : ℤ) (f a g r : List ℕ) → cond b cut (cond c (bad_size i) (cond d cut (frame f a))) ≡ frame g r → (b ≡ false) × (c ≡ false) × (d ≡ false) × (f ≡ g) × (a ≡ r)
frame_parts true c d i f a g r e = absurd cc
frame_parts false true d i f a g r e = absurd cc
frame_parts false false true i f a g r e = absurd cc
frame_parts false false false i f a g r e = let same = same_frame f a g r e in (refl, refl, refl, same.0, same.1)

abbrev parts_of : (bytes g r : List ℕ) → first_frame bytes ≡ frame g r
    → (ltb (length bytes) 4 ≡ false) × (not (is_frame_size (size_in bytes)) ≡ false) × (ltb (length (drop 4 bytes)) (size_in bytes) ≡ false) × (take (size_in bytes) (drop 4 bytes) ≡ g) × (drop (size_in bytes) (drop 4 bytes) ≡ r)
parts_of bytes g r e = frame_parts (ltb (length bytes) 4) (not (is_frame_size (size_in bytes))) (ltb (length (drop 4 bytes)) (size_in bytes)) (int_in bytes) (take (size_in bytes) (drop 4 bytes)) (drop (size_in bytes) (drop 4 bytes)) g r e

-- fewer bytes stand after a frame
pub fewer_behind : (bytes packet rest : List ℕ) → first_frame bytes ≡ frame packet rest → length rest < length bytes
fewer_behind bytes packet rest e =
    let (short, bad, inside, front, behind) = parts_of bytes packet rest e in
    omega (arith, ltb-false _ _ short, sym (ap length behind), length-drop (size_in bytes) (drop 4 bytes), length-drop 4 bytes)

-- a frame at the start stays one, whatever follows
pub frame_stays : (bytes more packet rest : List ℕ) → first_frame bytes ≡ frame packet rest → first_frame (bytes ++ more) ≡ frame packet (rest ++ more)
frame_stays bytes more packet rest e =
    let size = size_in bytes in
    let after = drop 4 bytes in
    let (short, bad, inside, front, behind) = parts_of bytes packet rest e in
    let long : 4 ≤ length bytes = ltb-false _ _ short in
    let whole : size ≤ length after = ltb-false _ _ inside in
    let sizes : size_in (bytes ++ more) ≡ size = ap (from_be_bytes w32) (take-append-le 4 bytes more long) in
    let four : ltb (length (bytes ++ more)) 4 ≡ false = le-ltb _ _ (omega (arith, long, length-append bytes more)) in
    let other : not (is_frame_size (size_in (bytes ++ more))) ≡ false = ap (λ k. not (is_frame_size k)) sizes ∙ bad in
    let afters : drop 4 (bytes ++ more) ≡ after ++ more = drop-append-le 4 bytes more long in
    let fits : ltb (length (drop 4 (bytes ++ more))) (size_in (bytes ++ more)) ≡ false = le-ltb _ _ (omega (arith, whole, sizes, ap length afters, length-append after more)) in
    let packets : take (size_in (bytes ++ more)) (drop 4 (bytes ++ more)) ≡ packet = (λ i. take (sizes i) (afters i)) ∙ take-append-le size after more whole ∙ front in
    let rests : drop (size_in (bytes ++ more)) (drop 4 (bytes ++ more)) ≡ rest ++ more = (λ i. drop (sizes i) (afters i)) ∙ drop-append-le size after more whole ∙ ap (λ (t : List ℕ). t ++ more) behind in
    rw (four, other, fits) (λ i. frame (packets i) (rests i))

-- ---- as many as the bytes allow are all

after_same : (bytes : List ℕ) (f g : List ℕ → Unpacked) → ((rest : List ℕ) → length rest < length bytes → f rest ≡ g rest) → after_first (first_frame bytes) bytes f ≡ after_first (first_frame bytes) bytes g
after_same bytes f g same = at (first_frame bytes) refl
  where
    at : (x : FirstFrame) → first_frame bytes ≡ x → after_first x bytes f ≡ after_first x bytes g
    at cut e = refl
    at (bad_size size) e = refl
    at (frame packet rest) e = ap (one_more packet) (same rest (fewer_behind bytes packet rest e))

enough : (n m : ℕ) (bytes : List ℕ) → length bytes ≤ n → length bytes ≤ m → first_frames n bytes ≡ first_frames m bytes
enough zero zero bytes few some = refl
enough zero (suc m) [] few some = refl
enough zero (suc m) (b ∷ bytes) few some = absurd (omega (arith, few))
enough (suc n) zero [] few some = refl
enough (suc n) zero (b ∷ bytes) few some = absurd (omega (arith, some))
enough (suc n) (suc m) bytes few some = after_same bytes (first_frames n) (first_frames m) (λ rest less. enough n m rest (omega (arith, less, few)) (omega (arith, less, some)))

pub unpack_frame : (bytes packet rest : List ℕ) → first_frame bytes ≡ frame packet rest → unpacked bytes ≡ one_more packet (unpacked rest)
unpack_frame bytes packet rest e =
    let n = length bytes in
    let less = fewer_behind bytes packet rest e in
    enough n (suc n) bytes (omega arith) (omega arith)
    ∙ ap (λ x. after_first x bytes (first_frames n)) e
    ∙ ap (one_more packet) (enough n (length rest) rest (omega (arith, less)) (omega arith))

pub unpack_cut : (bytes : List ℕ) → first_frame bytes ≡ cut → unpacked bytes ≡ no_frame bytes
unpack_cut bytes e = let n = length bytes in enough n (suc n) bytes (omega arith) (omega arith) ∙ ap (λ x. after_first x bytes (first_frames n)) e

pub unpack_bad : (bytes : List ℕ) (size : ℤ) → first_frame bytes ≡ bad_size size → unpacked bytes ≡ no_frame bytes
unpack_bad bytes size e = let n = length bytes in enough n (suc n) bytes (omega arith) (omega arith) ∙ ap (λ x. after_first x bytes (first_frames n)) e

-- ---- two pieces

joins_by : (a b : List ℕ) → ((rest : List ℕ) → length rest < length a → unpacked (rest ++ b) ≡ joined_to (unpacked rest) b) → unpacked (a ++ b) ≡ joined_to (unpacked a) b
joins_by a b behind = at (first_frame a) refl
  where
    at : (x : FirstFrame) → first_frame a ≡ x → unpacked (a ++ b) ≡ joined_to (unpacked a) b
    at cut e = sym (ap (λ u. joined_to u b) (unpack_cut a e))
    at (bad_size size) e = sym (ap (λ u. joined_to u b) (unpack_bad a size e))
    at (frame packet rest) e =
        unpack_frame (a ++ b) packet (rest ++ b) (frame_stays a b packet rest e)
        ∙ ap (one_more packet) (behind rest (fewer_behind a packet rest e))
        ∙ sym (ap (λ u. joined_to u b) (unpack_frame a packet rest e))

joins : (n : ℕ) (a b : List ℕ) → length a ≤ n → unpacked (a ++ b) ≡ joined_to (unpacked a) b
joins zero a b few = joins_by a b (λ rest less. absurd (omega (arith, less, few)))
joins (suc n) a b few = joins_by a b (λ rest less. joins n rest b (omega (arith, less, few)))

pub unpacked_joined : (a b : List ℕ) → unpacked (a ++ b) ≡ joined_to (unpacked a) b
unpacked_joined a b = joins (length a) a b (omega arith)

-- ---- they are all whole frames at the start, and no others are

not_false : (b : Bool) → not b ≡ false → b ≡ true
not_false true e = refl
not_false false e = absurd cc

-- a frame that is found has a size that a frame may have
frame_sized : (bytes packet rest : List ℕ) → first_frame bytes ≡ frame packet rest → is_frame_size (length packet) ≡ true
frame_sized bytes packet rest e =
    let size = size_in bytes in
    let (short, bad, inside, front, behind) = parts_of bytes packet rest e in
    let len : length packet ≡ size = ap length (sym front) ∙ omega (arith, ltb-false _ _ inside, length-take size (drop 4 bytes)) in
    ap is_frame_size len ∙ not_false (is_frame_size size) bad

-- what follows a frame is bytes
behind_fits : (bytes packet rest : List ℕ) → IsBytes bytes → first_frame bytes ≡ frame packet rest → IsBytes rest
behind_fits bytes packet rest fits e =
    let (short, bad, inside, front, behind) = parts_of bytes packet rest e in
    subst IsBytes behind (IsBytes-drop (size_in bytes) (drop 4 bytes) (IsBytes-drop 4 bytes fits))

alone : (bytes : List ℕ) → HasNoFrame bytes → AreWholeFrames bytes (no_frame bytes)
alone bytes none = record { whole = refl; sized = tt; over = none }

behind_one : (bytes packet rest : List ℕ) (u : Unpacked) → bytes ≡ frame_bytes packet ++ rest → is_frame_size (length packet) ≡ true → AreWholeFrames rest u → AreWholeFrames bytes (one_more packet u)
behind_one bytes packet rest u parts size w = record {
  whole = parts ∙ ap (λ (t : List ℕ). frame_bytes packet ++ t) w.whole ∙ sym (append_assoc (frame_bytes packet) (joined_frames u.packets) u.rest);
  sized = (size, w.sized);
  over = w.over;
}

whole_by : (bytes : List ℕ) → IsBytes bytes → ((rest : List ℕ) → IsBytes rest → length rest < length bytes → AreWholeFrames rest (unpacked rest)) → AreWholeFrames bytes (unpacked bytes)
whole_by bytes fits behind = at (first_frame bytes) refl
  where
    at : (x : FirstFrame) → first_frame bytes ≡ x → AreWholeFrames bytes (unpacked bytes)
    at cut e = subst (AreWholeFrames bytes) (sym (unpack_cut bytes e)) (alone bytes (none_at_cut bytes e))
    at (bad_size size) e = subst (AreWholeFrames bytes) (sym (unpack_bad bytes size e)) (alone bytes (none_at_bad bytes size e))
    at (frame packet rest) e =
        subst (AreWholeFrames bytes) (sym (unpack_frame bytes packet rest e))
        (behind_one bytes packet rest (unpacked rest) (frame_stands bytes packet rest fits e) (frame_sized bytes packet rest e)
        (behind rest (behind_fits bytes packet rest fits e) (fewer_behind bytes packet rest e)))

whole : (n : ℕ) (bytes : List ℕ) → length bytes ≤ n → IsBytes bytes → AreWholeFrames bytes (unpacked bytes)
whole zero bytes few fits = whole_by bytes fits (λ rest _ less. absurd (omega (arith, less, few)))
whole (suc n) bytes few fits = whole_by bytes fits (λ rest bytes_too less. whole n rest (omega (arith, less, few)) bytes_too)

pub whole_frames : (bytes : List ℕ) → IsBytes bytes → AreWholeFrames bytes (unpacked bytes)
whole_frames bytes fits = whole (length bytes) bytes (omega arith) fits

only_whole : (bytes : List ℕ) (packets : List (List ℕ)) (rest : List ℕ) → IsBytes bytes → AreWholeFrames bytes (record { packets = packets; rest = rest }) → unpacked bytes ≡ record { packets = packets; rest = rest }
only_whole bytes [] rest fits w = at (first_frame bytes) refl
  where
    at : (x : FirstFrame) → first_frame bytes ≡ x → unpacked bytes ≡ no_frame rest
    at cut e = unpack_cut bytes e ∙ ap (λ (t : List ℕ). no_frame t) w.whole
    at (bad_size size) e = unpack_bad bytes size e ∙ ap (λ (t : List ℕ). no_frame t) w.whole
    at (frame packet after) e = absurd (w.over packet after (frame_sized bytes packet after e) (sym w.whole ∙ frame_stands bytes packet after fits e))
only_whole bytes (packet ∷ packets) rest fits w =
    let after = joined_frames packets ++ rest in
    let parts : bytes ≡ frame_bytes packet ++ after = w.whole ∙ append_assoc (frame_bytes packet) (joined_frames packets) rest in
    let found : first_frame bytes ≡ frame packet after = frame_first packet after bytes w.sized.0 parts in
    let others = only_whole after packets rest (behind_fits bytes packet after fits found) (record { whole = refl; sized = w.sized.1; over = w.over }) in
    unpack_frame bytes packet after found ∙ ap (one_more packet) others

pub only_whole_frames : (bytes : List ℕ) (u : Unpacked) → IsBytes bytes → AreWholeFrames bytes u → unpacked bytes ≡ u
only_whole_frames bytes u fits w = only_whole bytes u.packets u.rest fits w
