-- Reading elements one after the other, as a loop does.
use Rattle.std.proofs.Common.{◌≡◌, ℕ, zero, suc, ◌-◌, ◌<◌, List, [], ◌∷◌, ◌++◌, length, Result, Ok, Err, refl, sym, ap, ◌∙◌, append_assoc, append-nil, arith}
use Rattle.sn_osc.specs.declared.fault.PacketFault.{PacketFault}
use Rattle.sn_osc.specs.declared.fault.Undecoded.{Undecoded}
use Rattle.sn_osc.specs.declared.fault.Undecoded.TheVariants as undecoded
use Rattle.sn_osc.specs.Shape.{Shape}
use Rattle.sn_osc.specs.Reading.{◌>>=◌, Fails, element_at, elements_in}

abbrev pub Reader : Type 0
Reader = ℕ → List ℕ → Result Shape PacketFault

-- what was read before, and what is still read
abbrev pub with_front : List Shape → Result (List Shape) PacketFault → Result (List Shape) PacketFault
with_front front read = read >>= λ xs. Ok (front ++ xs)

regroup : (front : List Shape) (x : Shape) (read : Result (List Shape) PacketFault) → with_front front (read >>= λ xs. Ok (x ∷ xs)) ≡ with_front (front ++ x ∷ []) read
regroup front x (Ok xs) = ap (λ (ys : List Shape). Ok ys) (simp append_assoc)
regroup front x (Err f) = refl

pub no_front : (read : Result (List Shape) PacketFault) → with_front [] read ≡ read
no_front (Ok xs) = refl
no_front (Err f) = refl

-- how the rest is read, if there is some
pub step : (reader : Reader) (end n : ℕ) (bytes : List ℕ) → 0 < length bytes
    → elements_in reader end (suc n) bytes ≡ (element_at end bytes >>= λ parts. reader (end - length parts.1) parts.0 >>= λ first. elements_in reader end n parts.1 >>= λ others. Ok (first ∷ others))
unfolding elements_in
step reader end n [] some = absurd (omega arith)
step reader end n (b ∷ bytes) some = refl

pub goes_on : (reader : Reader) (end : ℕ) (front : List Shape) (fuel n : ℕ) (bytes part after : List ℕ) (x : Shape) (total : Result (List Shape) PacketFault) → 0 < length bytes → fuel ≡ suc n
    → element_at end bytes ≡ Ok (part, after) → reader (end - length after) part ≡ Ok x → with_front front (elements_in reader end fuel bytes) ≡ total
    → with_front (front ++ x ∷ []) (elements_in reader end n after) ≡ total
goes_on reader end front fuel n bytes part after x total some is element read so_far =
    let one : elements_in reader end (suc n) bytes ≡ (elements_in reader end n after >>= λ others. Ok (x ∷ others)) = step reader end n bytes some ∙ rw (element, read) refl in
    sym (regroup front x (elements_in reader end n after)) ∙ sym (ap (with_front front) one) ∙ sym (ap (λ k. with_front front (elements_in reader end k bytes)) is) ∙ so_far

pub ends_at_element : (e : Undecoded) (reader : Reader) (end : ℕ) (front : List Shape) (fuel n : ℕ) (bytes : List ℕ) (total : Result (List Shape) PacketFault) → 0 < length bytes → fuel ≡ suc n
    → Fails e (element_at end bytes) → with_front front (elements_in reader end fuel bytes) ≡ total → Fails e total
ends_at_element undecoded.NoMemory reader end front fuel n bytes total some is h so_far = tt
ends_at_element (undecoded.Bad f) reader end front fuel n bytes total some is h so_far =
    let one : elements_in reader end (suc n) bytes ≡ Err f = step reader end n bytes some ∙ rw h refl in
    sym so_far ∙ ap (λ k. with_front front (elements_in reader end k bytes)) is ∙ ap (with_front front) one

pub ends_at_packet : (e : Undecoded) (reader : Reader) (end : ℕ) (front : List Shape) (fuel n : ℕ) (bytes part after : List ℕ) (total : Result (List Shape) PacketFault) → 0 < length bytes → fuel ≡ suc n
    → element_at end bytes ≡ Ok (part, after) → Fails e (reader (end - length after) part) → with_front front (elements_in reader end fuel bytes) ≡ total → Fails e total
ends_at_packet undecoded.NoMemory reader end front fuel n bytes part after total some is element h so_far = tt
ends_at_packet (undecoded.Bad f) reader end front fuel n bytes part after total some is element h so_far =
    let one : elements_in reader end (suc n) bytes ≡ Err f = step reader end n bytes some ∙ rw (element, h) refl in
    sym so_far ∙ ap (λ k. with_front front (elements_in reader end k bytes)) is ∙ ap (with_front front) one

pub is_done : (reader : Reader) (end : ℕ) (front : List Shape) (n : ℕ) (bytes : List ℕ) (total : Result (List Shape) PacketFault) → bytes ≡ [] → with_front front (elements_in reader end n bytes) ≡ total → total ≡ Ok front
unfolding elements_in
is_done reader end front zero bytes total none so_far = sym so_far ∙ ap (λ bs. with_front front (elements_in reader end 0 bs)) none ∙ ap (λ (xs : List Shape). Ok xs) (append-nil front)
is_done reader end front (suc n) bytes total none so_far = sym so_far ∙ ap (λ bs. with_front front (elements_in reader end (suc n) bs)) none ∙ ap (λ (xs : List Shape). Ok xs) (append-nil front)
