-- A stream is one list of packets, or has one first fault.
use Rattle.std.proofs.Common.{◌≡◌, ℕ, ℤ, suc, ◌+◌, ◌-◌, ◌%◌, ◌<◌, ◌≤◌, ◌^◌, leb, eqb, ◌&&◌, List, [], ◌∷◌, ◌++◌, length, take, drop, Result, Ok, Err, refl, sym, ap, subst, ◌∙◌, append_assoc, append-nil, take_all, arith, IsTrue}
use Rattle.std.specs.Int.{w32, to_be_bytes, from_be_bytes}
use Rattle.std.proofs.lemmas.Bool.{leb-true}
use Rattle.std.proofs.lemmas.List.{length-append, length-take, length-drop, drop_at, take_at, take-append-drop}
use Rattle.std.proofs.lemmas.Nat.{from_be_bytes-to_be_bytes_4}
use Rattle.sn_osc.specs.declared.fault.PacketFault.{PacketFault}
use Rattle.sn_osc.specs.declared.fault.PacketKind.{PacketKind}
use Rattle.sn_osc.specs.declared.fault.StreamFault.{StreamFault}
use Rattle.sn_osc.specs.declared.fault.StreamFault.TheVariants.{Packet, FrameSize, FrameCut}
use Rattle.sn_osc.specs.Shape.{Shape}
use Rattle.sn_osc.specs.Bytes.{frame_bytes}
use Rattle.sn_osc.specs.Grammar.{Spells}
use Rattle.sn_osc.specs.Reading.{size_in, read}
use Rattle.sn_osc.specs.Faults.{FirstFault}
use Rattle.sn_osc.specs.Frames.{FirstFrame, cut, bad_size, frame, is_frame_size, Frames, first_frame, FrameFault}
use Rattle.sn_osc.proofs.Fields.{IsBytes, and_yes, size_back}
use Rattle.sn_osc.proofs.Frames.{frame_found, same_frame}
use Rattle.sn_osc.proofs.PacketLaws.{read_again}
use Rattle.sn_osc.proofs.PacketFound.{read_found}

pub four_or_more : (n : ℕ) → IsTrue (is_frame_size n) → 4 ≤ n
four_or_more n ok = leb-true _ _ (and_yes (leb 4 n) (leb n 65536) (and_yes (leb 4 n && leb n 65536) (eqb (n % 4) 0) ok).0).0

pub no_more : (n : ℕ) → IsTrue (is_frame_size n) → n ≤ 65536
no_more n ok = leb-true _ _ (and_yes (leb 4 n) (leb n 65536) (and_yes (leb 4 n && leb n 65536) (eqb (n % 4) 0) ok).0).1

pub frame_len : (front rest : List ℕ) → length (frame_bytes front ++ rest) ≡ 4 + length front + length rest
frame_len front rest = omega (arith, length-append (frame_bytes front) rest, length-append (to_be_bytes w32 (length front)) front)

-- a frame and what follows it are determined
pub same_split : (f g a b : List ℕ) → length f < 2 ^ 32 → length g < 2 ^ 32 → frame_bytes f ++ a ≡ frame_bytes g ++ b → (f ≡ g) × (a ≡ b)
same_split f g a b short-f short-g e =
    let sizes : to_be_bytes w32 (length f) ≡ to_be_bytes w32 (length g) = ap (take 4) e in
    let len : length f ≡ length g = sym (from_be_bytes-to_be_bytes_4 (length f) short-f) ∙ ap (from_be_bytes w32) sizes ∙ from_be_bytes-to_be_bytes_4 (length g) short-g in
    let tails : f ++ a ≡ g ++ b = ap (drop 4) e in
    (sym (take_at f a (length g) len) ∙ ap (take (length g)) tails ∙ take_at g b (length g) refl, sym (drop_at f a (length g) len) ∙ ap (drop (length g)) tails ∙ drop_at g b (length g) refl)

-- what stands first is one thing
pub cut_is_not_frame : (x : FirstFrame) (f a : List ℕ) → x ≡ cut → x ≡ frame f a → ⊥
cut_is_not_frame cut f a e h = absurd cc
cut_is_not_frame (bad_size n) f a e h = absurd cc
cut_is_not_frame (frame g b) f a e h = absurd cc

pub bad_is_not_frame : (x : FirstFrame) (n : ℤ) (f a : List ℕ) → x ≡ bad_size n → x ≡ frame f a → ⊥
bad_is_not_frame cut n f a e h = absurd cc
bad_is_not_frame (bad_size m) n f a e h = absurd cc
bad_is_not_frame (frame g b) n f a e h = absurd cc

cut_is_not_bad : (x : FirstFrame) (n : ℤ) → x ≡ cut → x ≡ bad_size n → ⊥
cut_is_not_bad cut n e h = absurd cc
cut_is_not_bad (bad_size m) n e h = absurd cc
cut_is_not_bad (frame g b) n e h = absurd cc

pub frame_first : (f a bytes : List ℕ) → IsTrue (is_frame_size (length f)) → bytes ≡ frame_bytes f ++ a → first_frame bytes ≡ frame f a
frame_first f a bytes size parts = ap (λ t. first_frame t) parts ∙ frame_found f a size

-- a packet has one reading, so what is spelled has no fault
no_fault : (x : Shape) (f : List ℕ) (kind : PacketKind) (p : ℕ) → length f ≤ 65536 → Spells x f → FirstFault f kind p → ⊥
no_fault x f kind p few spelled fault = let read = read_again f x few spelled in let met = read_found f kind p fault in cc

-- if a frame stands there, there is no fault
good_frame : (x : Shape) (f a bytes : List ℕ) (at place : ℕ) (fault : StreamFault) → IsTrue (is_frame_size (length f)) → Spells x f → bytes ≡ frame_bytes f ++ a → FrameFault at bytes place fault → ⊥
good_frame x f a bytes at place FrameCut size spelled parts h = cut_is_not_frame (first_frame bytes) f a h.2 (frame_first f a bytes size parts)
good_frame x f a bytes at place FrameSize size spelled parts h = let (n, is, bad) = h in bad_is_not_frame (first_frame bytes) n f a bad (frame_first f a bytes size parts)
good_frame x f a bytes at place (Packet kind) size spelled parts h =
    let (packet, rest, p, is, found, first) = h in
    let same = same_frame packet rest f a (sym found ∙ frame_first f a bytes size parts) in
    no_fault x f kind p (no_more (length f) size) spelled (subst (λ bs. FirstFault bs kind p) same.0 first)

-- ---- a fault is one

one_fault : (f : List ℕ) (kind kind' : PacketKind) (p p' : ℕ) → FirstFault f kind p → FirstFault f kind' p' → (kind ≡ kind') × (p ≡ p')
one_fault f kind kind' p p' first first' =
    let same : err {A = Shape} (record { kind = kind; place = p }) ≡ err (record { kind = kind'; place = p' }) = sym (read_found f kind p first) ∙ read_found f kind' p' first' in
    let faults : fault_of (record { kind = kind; place = p }) ≡ fault_of (record { kind = kind'; place = p' }) = cc in
    (ap (λ (f : PacketFault). f.kind) faults, ap (λ (f : PacketFault). f.place) faults)
  where
    err : {A : Type 0} → PacketFault → Result A PacketFault
    err f = Err f

    fault_of : PacketFault → PacketFault
    fault_of f = f

same_fault : (at : ℕ) (bytes : List ℕ) (place place' : ℕ) (fault fault' : StreamFault) → FrameFault at bytes place fault → FrameFault at bytes place' fault' → (place ≡ place') × (fault ≡ fault')
same_fault at bytes place place' FrameCut FrameCut h h' = (h.0 ∙ sym h'.0, refl)
same_fault at bytes place place' FrameCut FrameSize h h' = let (n, is, bad) = h' in absurd (cut_is_not_bad (first_frame bytes) n h.2 bad)
same_fault at bytes place place' FrameCut (Packet kind) h h' = let (f, a, p, is, found, first) = h' in absurd (cut_is_not_frame (first_frame bytes) f a h.2 found)
same_fault at bytes place place' FrameSize FrameCut h h' = let (n, is, bad) = h in absurd (cut_is_not_bad (first_frame bytes) n h'.2 bad)
same_fault at bytes place place' FrameSize FrameSize h h' = let (n, is, bad) = h in let (n', is', bad') = h' in (is ∙ sym is', refl)
same_fault at bytes place place' FrameSize (Packet kind) h h' = let (n, is, bad) = h in let (f, a, p, is', found, first) = h' in absurd (bad_is_not_frame (first_frame bytes) n f a bad found)
same_fault at bytes place place' (Packet kind) FrameCut h h' = let (f, a, p, is, found, first) = h in absurd (cut_is_not_frame (first_frame bytes) f a h'.2 found)
same_fault at bytes place place' (Packet kind) FrameSize h h' = let (f, a, p, is, found, first) = h in let (n, is', bad) = h' in absurd (bad_is_not_frame (first_frame bytes) n f a bad found)
same_fault at bytes place place' (Packet kind) (Packet kind') h h' =
    let (f, a, p, is, found, first) = h in
    let (f', a', p', is', found', first') = h' in
    let packets = same_frame f a f' a' (sym found ∙ found') in
    let same = one_fault f' kind kind' p p' (subst (λ bs. FirstFault bs kind p) packets.0 first) first' in
    (omega (arith, is, is', same.1), ap (λ k. Packet k) same.0)

-- ---- a stream is one list of packets, or has one fault

one_packet : (x y : Shape) (f : List ℕ) → length f ≤ 65536 → Spells x f → Spells y f → x ≡ y
one_packet x y f few spelled spelled' = ok_is x y (read f) (read_again f x few spelled) (read_again f y few spelled')
  where
    ok_is : (x y : Shape) (r : Result Shape PacketFault) → r ≡ Ok x → r ≡ Ok y → x ≡ y
    ok_is x y r a b = cc

no_frame : (x : Shape) (xs : List Shape) → Frames (x ∷ xs) [] → ⊥
no_frame x xs h = let (f, rest, size, spelled, others, parts) = h in absurd (omega (arith, ap length parts, frame_len f rest))

pub one_list : (xs ys : List Shape) (bytes : List ℕ) → Frames xs bytes → Frames ys bytes → xs ≡ ys
one_list [] [] bytes h h' = refl
one_list [] (y ∷ ys) bytes h h' = absurd (no_frame y ys (subst (Frames (y ∷ ys)) h h'))
one_list (x ∷ xs) [] bytes h h' = absurd (no_frame x xs (subst (Frames (x ∷ xs)) h' h))
one_list (x ∷ xs) (y ∷ ys) bytes h h' =
    let (f, rest, size, spelled, others, parts) = h in
    let (g, rest', size', spelled', others', parts') = h' in
    let same = same_split f g rest rest' (omega (arith, no_more (length f) size)) (omega (arith, no_more (length g) size')) (sym parts ∙ parts') in
    let first : x ≡ y = one_packet x y g (no_more (length g) size') (subst (Spells x) same.0 spelled) spelled' in
    let others_same : xs ≡ ys = one_list xs ys rest' (subst (Frames xs) same.1 others) others' in
    ap (λ z. z ∷ xs) first ∙ ap (λ zs. y ∷ zs) others_same

not_empty : (bytes : List ℕ) → (first_frame bytes ≡ cut → ⊥) → 0 < length bytes
not_empty [] h = absurd (h refl)
not_empty (b ∷ bytes) h = omega arith

some_left : (at : ℕ) (bytes : List ℕ) (place : ℕ) (fault : StreamFault) → FrameFault at bytes place fault → 0 < length bytes
some_left at bytes place FrameCut h = h.1
some_left at bytes place FrameSize h = let (n, is, bad) = h in not_empty bytes (λ e. cut_is_not_bad (first_frame bytes) n e bad)
some_left at bytes place (Packet kind) h = let (f, a, p, is, found, first) = h in not_empty bytes (λ e. cut_is_not_frame (first_frame bytes) f a e found)

-- the start of a stream that begins with a frame
regroup : (f more rest : List ℕ) → (frame_bytes f ++ more) ++ rest ≡ frame_bytes f ++ (more ++ rest)
regroup f more rest = append_assoc (frame_bytes f) more rest

pub excluded : (xs ys : List Shape) (base : ℕ) (bytes front rest : List ℕ) (place : ℕ) (fault : StreamFault) → Frames xs bytes → Frames ys front → bytes ≡ front ++ rest → FrameFault (base + length front) rest place fault → ⊥
excluded [] ys base bytes front rest place fault h before parts why =
    omega (arith, some_left (base + length front) rest place fault why, ap length h, ap length parts, length-append front rest)
excluded (x ∷ xs) [] base bytes front rest place fault h before parts why =
    let (f, more, size, spelled, others, whole) = h in
    good_frame x f more rest (base + length front) place fault size spelled (sym (parts ∙ ap (λ (t : List ℕ). t ++ rest) before) ∙ whole) why
excluded (x ∷ xs) (y ∷ ys) base bytes front rest place fault h before parts why =
    let (f, more, size, spelled, others, whole) = h in
    let (g, more', size', spelled', others', whole') = before in
    let same = same_split f g more (more' ++ rest) (omega (arith, no_more (length f) size)) (omega (arith, no_more (length g) size')) (sym whole ∙ parts ∙ ap (λ (t : List ℕ). t ++ rest) whole' ∙ regroup g more' rest) in
    let at : base + length front ≡ (base + 4 + length g) + length more' = omega (arith, ap length whole', frame_len g more') in
    excluded xs ys (base + 4 + length g) more more' rest place fault others others' same.1 (subst (λ n. FrameFault n rest place fault) at why)

abbrev pub SameFault : ℕ → ℕ → ℕ → ℕ → StreamFault → StreamFault → Type 0
SameFault n n' place place' fault fault' = (n ≡ n') × (place ≡ place') × (fault ≡ fault')

pub one_stream_fault : (xs ys : List Shape) (base : ℕ) (front rest front' rest' : List ℕ) (place place' : ℕ) (fault fault' : StreamFault) → Frames xs front → Frames ys front' → front ++ rest ≡ front' ++ rest'
    → FrameFault (base + length front) rest place fault → FrameFault (base + length front') rest' place' fault' → SameFault (length xs) (length ys) place place' fault fault'
one_stream_fault [] [] base front rest front' rest' place place' fault fault' h h' parts why why' =
    let rests : rest ≡ rest' = ap (λ (t : List ℕ). t ++ rest) (sym h) ∙ parts ∙ ap (λ (t : List ℕ). t ++ rest') h' in
    let at : base + length front ≡ base + length front' = omega (arith, ap length h, ap length h') in
    let same = same_fault (base + length front') rest' place place' fault fault' (subst (λ n. FrameFault n rest' place fault) at (subst (λ bs. FrameFault (base + length front) bs place fault) rests why)) why' in
    (refl, same.0, same.1)
one_stream_fault (x ∷ xs) [] base front rest front' rest' place place' fault fault' h h' parts why why' =
    let (f, more, size, spelled, others, whole) = h in
    absurd (good_frame x f (more ++ rest) rest' (base + length front') place' fault' size spelled (ap (λ (t : List ℕ). t ++ rest') (sym h') ∙ sym parts ∙ ap (λ (t : List ℕ). t ++ rest) whole ∙ regroup f more rest) why')
one_stream_fault [] (y ∷ ys) base front rest front' rest' place place' fault fault' h h' parts why why' =
    let (g, more', size', spelled', others', whole') = h' in
    absurd (good_frame y g (more' ++ rest') rest (base + length front) place fault size' spelled' (ap (λ (t : List ℕ). t ++ rest) (sym h) ∙ parts ∙ ap (λ (t : List ℕ). t ++ rest') whole' ∙ regroup g more' rest') why)
one_stream_fault (x ∷ xs) (y ∷ ys) base front rest front' rest' place place' fault fault' h h' parts why why' =
    let (f, more, size, spelled, others, whole) = h in
    let (g, more', size', spelled', others', whole') = h' in
    let same = same_split f g (more ++ rest) (more' ++ rest') (omega (arith, no_more (length f) size)) (omega (arith, no_more (length g) size')) (sym (regroup f more rest) ∙ sym (ap (λ (t : List ℕ). t ++ rest) whole) ∙ parts ∙ ap (λ (t : List ℕ). t ++ rest') whole' ∙ regroup g more' rest') in
    let lens : length f ≡ length g = ap length same.0 in
    let at : base + length front ≡ (base + 4 + length g) + length more = omega (arith, lens, ap length whole, frame_len f more) in
    let at' : base + length front' ≡ (base + 4 + length g) + length more' = omega (arith, ap length whole', frame_len g more') in
    let s = one_stream_fault xs ys (base + 4 + length g) more rest more' rest' place place' fault fault' others others' same.1 (subst (λ n. FrameFault n rest place fault) at why) (subst (λ n. FrameFault n rest' place' fault') at' why') in
    let counts : suc (length xs) ≡ suc (length ys) = ap (λ (n : ℕ). suc n) s.0 in
    (counts, s.1, s.2)

-- ---- one more whole

pub one_more : (xs : List Shape) (front f : List ℕ) (x : Shape) → Frames xs front → IsTrue (is_frame_size (length f)) → Spells x f → Frames (xs ++ x ∷ []) (front ++ (frame_bytes f))
one_more [] front f x h size spelled = (f, [], size, spelled, refl, ap (λ (t : List ℕ). t ++ (frame_bytes f)) h ∙ sym (append-nil (frame_bytes f)))
one_more (y ∷ ys) front f x h size spelled =
    let (g, more, size', spelled', others, whole) = h in
    (g, more ++ (frame_bytes f), size', spelled', one_more ys more f x others size spelled, ap (λ (t : List ℕ). t ++ (frame_bytes f)) whole ∙ regroup g more (frame_bytes f))

-- the bytes at the start are the frame that their size says
pub front_frame : (bytes f after : List ℕ) (n : ℕ) → IsBytes bytes → 4 ≤ length bytes → n ≡ size_in bytes → n ≤ length (drop 4 bytes) → f ≡ take n (drop 4 bytes) → after ≡ drop n (drop 4 bytes) → bytes ≡ frame_bytes f ++ after
front_frame bytes f after n fits long is whole front back =
    let len : length f ≡ n = ap length front ∙ omega (arith, length-take n (drop 4 bytes)) in
    let size : to_be_bytes w32 (length f) ≡ take 4 bytes = ap (to_be_bytes w32) (len ∙ is) ∙ size_back bytes fits long in
    let tail : f ++ after ≡ drop 4 bytes = ap (λ (t : List ℕ). t ++ after) front ∙ ap (λ (t : List ℕ). take n (drop 4 bytes) ++ t) back ∙ take-append-drop n (drop 4 bytes) in
    sym (append_assoc (to_be_bytes w32 (length f)) f after ∙ ap (λ (t : List ℕ). t ++ (f ++ after)) size ∙ ap (λ (t : List ℕ). take 4 bytes ++ t) tail ∙ take-append-drop 4 bytes)

pub behind_size : (bytes : List ℕ) → 4 ≤ length bytes → take (length bytes - 4) (drop 4 bytes) ≡ drop 4 bytes
behind_size bytes long = take_all (length bytes - 4) (drop 4 bytes) (omega (arith, length-drop 4 bytes))
