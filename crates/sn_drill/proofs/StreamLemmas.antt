-- Notes that are put one after another.
use Rattle.std.proofs.Common.{◌≡◌, ◌<◌, ◌≤◌, ◌+◌, ◌-◌, ◌*◌, ◌/◌, ◌^◌, ℕ, suc, List, [], ◌∷◌, ◌++◌, map, append_assoc, append-nil, refl, sym, ap, ◌∙◌, arith}
use Rattle.std.proofs.Math.Nat.{le-mul_of_pos_right}
use Rattle.sn_osc.specs.Shape.{Shape, bundle, shape, shapes}
use Rattle.sn_osc.specs.declared.packet.Packet.{Packet}
use Rattle.sn_queue.specs.Time.{at}
use Rattle.sn_queue.proofs.TimeLaws.{div_ceil-least}
use Rattle.sn_drill.specs.Stream.{following, number_at, drawn, before, note, note_at, notes, opening, closing, drill_stream}

-- ---- tags

-- the tag of a block that a drill may have
pub tag_small : (block rate : ℕ) → 0 < rate → block ≤ 20000 → at block 0 rate < 2 ^ 64
tag_small block rate some few =
    let wide : block * 2 ^ 38 ≤ (block * 2 ^ 38) * rate = le-mul_of_pos_right (block * 2 ^ 38) some in
    omega (arith, few, div_ceil-least (block * 2 ^ 38) rate (block * 2 ^ 38) some wide)

-- ---- draws

pub next_number : (seed n : ℕ) → number_at seed (n + 1) ≡ following (number_at seed n)
unfolding number_at
next_number seed n = let e : n + 1 ≡ suc n = omega arith in ap (number_at seed) e

pub first_number : (seed : ℕ) → seed ≡ number_at seed 0
unfolding number_at
first_number seed = refl

pub two_numbers : (seed index first second number : ℕ) → number ≡ number_at seed (2 * index) → first ≡ following number → second ≡ following first
    → (first ≡ number_at seed (2 * index + 1)) × (second ≡ number_at seed (2 * index + 2)) × (second ≡ number_at seed (2 * (index + 1)))
two_numbers seed index first second number is one two =
    let a : first ≡ number_at seed (2 * index + 1) = one ∙ ap following is ∙ sym (next_number seed (2 * index)) in
    let same : 2 * index + 1 + 1 ≡ 2 * index + 2 = omega arith in
    let b : second ≡ number_at seed (2 * index + 2) = two ∙ ap following a ∙ sym (next_number seed (2 * index + 1)) ∙ ap (number_at seed) same in
    let twice : 2 * index + 2 ≡ 2 * (index + 1) = omega arith in
    (a, b, b ∙ ap (number_at seed) twice)

-- ---- notes

shapes-last : (ps : List Packet) (p : Packet) → map shape (ps ++ p ∷ []) ≡ map shape ps ++ shape p ∷ []
shapes-last [] p = refl
shapes-last (q ∷ ps) p = ap (λ xs. shape q ∷ xs) (shapes-last ps p)

next_note : (seed rate n : ℕ) → notes seed rate (n + 1) ≡ notes seed rate n ++ note_at seed rate n ∷ []
unfolding notes
next_note seed rate n = let e : n + 1 ≡ suc n = omega arith in ap (notes seed rate) e

pub more_notes : (seed rate index : ℕ) (old : List Shape) (now new : List Packet) (packet : Packet) → map shape now ≡ old ++ notes seed rate index → new ≡ now ++ packet ∷ []
    → shape packet ≡ note_at seed rate index → map shape new ≡ old ++ notes seed rate (index + 1)
more_notes seed rate index old now new packet so_far pushed is =
    ap (map shape) pushed ∙ shapes-last now packet ∙ ap (λ (xs : List Shape). xs ++ shape packet ∷ []) so_far
    ∙ ap (λ (x : Shape). (old ++ notes seed rate index) ++ x ∷ []) is
    ∙ append_assoc old (notes seed rate index) (note_at seed rate index ∷ [])
    ∙ ap (λ (xs : List Shape). old ++ xs) (sym (next_note seed rate index))

pub note_packet : (seed rate index first second : ℕ) (elements : List Packet) (packet one : Packet) → shape packet ≡ bundle (at (8 * index + 8) 0 rate) (shapes elements) → elements ≡ one ∷ []
    → shape one ≡ note (drawn first) (drawn second) → first ≡ number_at seed (2 * index + 1) → second ≡ number_at seed (2 * index + 2) → shape packet ≡ note_at seed rate index
note_packet seed rate index first second elements packet one is made plays a b =
    is ∙ ap (λ (ps : List Packet). bundle (at (8 * index + 8) 0 rate) (shapes ps)) made
    ∙ ap (λ (m : Shape). before rate (8 * index + 8) m) (plays ∙ (λ i. note (drawn (a i)) (drawn (b i))))

pub none_yet : (seed rate : ℕ) (old : List Shape) → old ≡ old ++ notes seed rate 0
unfolding notes
none_yet seed rate old = sym (append-nil old)

-- the whole of a drill
pub whole : (seed blocks rate : ℕ) (begun some all : List Packet) (first last : Packet) → begun ≡ first ∷ [] → shape first ≡ opening → map shape some ≡ map shape begun ++ notes seed rate ((blocks - 1) / 8)
    → all ≡ some ++ last ∷ [] → shape last ≡ closing rate blocks → map shape all ≡ drill_stream seed blocks rate
whole seed blocks rate begun some all first last begins opens middle ends closes =
    let front : map shape begun ≡ opening ∷ [] = ap (map shape) begins ∙ ap (λ (x : Shape). x ∷ []) opens in
    let between : List Shape = notes seed rate ((blocks - 1) / 8) in
    ap (map shape) ends ∙ shapes-last some last ∙ ap (λ (xs : List Shape). xs ++ shape last ∷ []) (middle ∙ ap (λ (xs : List Shape). xs ++ between) front)
    ∙ ap (λ (x : Shape). opening ∷ between ++ x ∷ []) closes
