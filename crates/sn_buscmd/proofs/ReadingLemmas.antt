-- Samples that come in as bytes.
use Rattle.std.proofs.Common.{◌≡◌, ◌<◌, ◌+◌, ◌-◌, ℕ, zero, suc, ℤ, List, [], ◌∷◌, length, drop, set, refl, sym, ap, ◌∙◌, arith}
use Rattle.sn_osc.specs.Reading.{int_in}
use Rattle.sn_world.specs.BufferNumbers.{set_from}
use Rattle.sn_world.specs.BufferReading.{ints_in}
use Rattle.sn_buscmd.proofs.SampleLemmas.{set_behind}

ints_count : (n : ℕ) (bytes : List ℕ) → length (ints_in n bytes) ≡ n
unfolding ints_in
ints_count zero bytes = refl
ints_count (suc n) bytes = ap suc (ints_count n (drop 4 bytes))

ints_none : (bytes : List ℕ) → ints_in 0 bytes ≡ []
unfolding ints_in
ints_none bytes = refl

-- the next sample, and those after it
ints_next : (n : ℕ) (bytes : List ℕ) → 0 < n → ints_in n bytes ≡ int_in bytes ∷ ints_in (n - 1) (drop 4 bytes)
unfolding ints_in
ints_next zero bytes some = absurd (omega (arith, some))
ints_next (suc n) bytes some =
    let same : n ≡ suc n - 1 = omega arith in
    ap (λ (k : ℕ). int_in bytes ∷ ints_in k (drop 4 bytes)) same

pub sets_next : (len index : ℕ) (rest after : List ℕ) (samples new all : List ℤ) → index < len → new ≡ set samples index (int_in rest) → after ≡ drop 4 rest
    → set_from index (ints_in (len - index) rest) samples ≡ all → set_from (index + 1) (ints_in (len - (index + 1)) after) new ≡ all
sets_next len index rest after samples new all within is place so_far =
    let next : ints_in (len - index) rest ≡ int_in rest ∷ ints_in (len - index - 1) (drop 4 rest) = ints_next (len - index) rest (omega (arith, within)) in
    let left : len - (index + 1) ≡ len - index - 1 = omega arith in
    (λ i. set_from (index + 1) (ints_in (left i) (place i)) (is i)) ∙ sym (ap (λ (vs : List ℤ). set_from index vs samples) next) ∙ so_far

-- all samples are set
pub all_read : (len index : ℕ) (bytes rest : List ℕ) (samples old : List ℤ) → index ≡ len → length old ≡ len → set_from index (ints_in (len - index) rest) samples ≡ set_from 0 (ints_in len bytes) old
    → samples ≡ ints_in len bytes
all_read len index bytes rest samples old done whole so_far =
    let none : len - index ≡ 0 = omega (arith, done) in
    let empty : ints_in (len - index) rest ≡ [] = ap (λ (k : ℕ). ints_in k rest) none ∙ ints_none rest in
    sym (ap (λ (vs : List ℤ). set_from index vs samples) empty) ∙ so_far ∙ set_behind [] (ints_in len bytes) old (ints_count len bytes ∙ sym whole)
