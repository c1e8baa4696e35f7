-- SVF: the state-variable filter by the trapezoidal rule. Its state are two integrators, of which 2^40 is 1.0.
use Rattle.std.specs.Prelude.{ℕ, ◌+◌, ◌-◌, ◌*◌, ◌/◌, List, [], ◌∷◌, slice_index, ℤ, pos, negsuc, ◌+ℤ◌, ◌-ℤ◌, ◌*ℤ◌, unsigned_abs}
use Rattle.std.specs.Int.{w64, cast_signed, cast_unsigned, int_min, int_max}
use Rattle.sn_fixed.specs.Fixed.{floor, sat}
use Rattle.sn_fixed.specs.Arcs.{arc}
use Rattle.sn_mem.specs.Blocks.{sample, recurrence}
use Rattle.sn_filt.specs.declared.state_variable.Integrators.{Integrators}
use Rattle.sn_filt.specs.declared.state_variable.Weights.{Weights}
use Rattle.sn_filt.specs.declared.state_variable.Bands.{Bands}

-- each integrator is a whole number of 64 bits in a word
abbrev pub integrators_in : List ℕ → Integrators
integrators_in ws = record { first = cast_signed w64 (slice_index ws 0); second = cast_signed w64 (slice_index ws 1) }

abbrev pub integrators_words : Integrators → List ℕ
integrators_words i = cast_unsigned w64 i.first ∷ cast_unsigned w64 i.second ∷ []

-- half of the angle that the frequency goes in a frame, from 0 to a quarter turn, which is 2^30
unfoldable pub half_angle : ℕ → ℤ → ℕ
half_angle rate freq = unsigned_abs (int_max (pos 0) (int_min (pos 1073741824) (floor (freq *ℤ pos 2147483648) (1000 * rate))))

-- its sine and its cosine, of which 2^31 is 1.0
abbrev pub sine_of : ℕ → ℕ
sine_of h = arc (2 * h) / 2147483648

abbrev pub cosine_of : ℕ → ℕ
cosine_of h = arc (2147483648 - 2 * h) / 2147483648

-- 1 / (1 + k s c), of which 2^31 is 1.0
unfoldable pub reciprocal : ℕ → ℕ → ℕ → ℕ
reciprocal k s c = 2305843009213693952 / (1073741825 + k * (s * c / 2147483648) / 33554432)

-- a product of three, of which 2^31 is 1.0, in the scale of the integrators
unfoldable pub weight : ℕ → ℕ → ℕ → ℕ
weight a b r = a * b * r / 9007199254740992

-- k is rq, or 0 if that is below 0; with D = 1 + k s c the others are c²/D, s c/D and s²/D
unfoldable pub weights_at : ℕ → ℤ → ℤ → Weights
weights_at rate freq rq =
    let h = half_angle rate freq in
    let s = sine_of h in
    let c = cosine_of h in
    let k = unsigned_abs (int_max (pos 0) rq) in
    let r = reciprocal k s c in
    record { k = k; a1 = weight c c r; a2 = weight s c r; a3 = weight s s r }

-- the nearest number to z from -2^54 to 2^54, which is 2^14 in an integrator
unfoldable pub lim : ℤ → ℤ
lim z = int_max (negsuc 18014398509481983) (int_min (pos 18014398509481984) z)

-- v1 and v2: the integrators halfway through the frame
abbrev pub v1 : Weights → Integrators → ℤ → ℤ
v1 w i v3 = floor (pos w.a1 *ℤ i.first +ℤ pos w.a2 *ℤ v3) 1099511627776

abbrev pub v2 : Weights → Integrators → ℤ → ℤ
v2 w i v3 = i.second +ℤ floor (pos w.a2 *ℤ i.first +ℤ pos w.a3 *ℤ v3) 1099511627776

-- from 2^40 to the sample
abbrev pub band_sample : ℤ → ℤ
band_sample z = sat (floor z 65536)

-- one frame of the filter: the integrators after it, and its low, its band and its high output
unfoldable pub filtered : Weights → Integrators → ℤ → Integrators × Bands
filtered w i x =
    let v3 = x *ℤ pos 65536 -ℤ i.second in
    let v1 = v1 w i v3 in
    let v2 = v2 w i v3 in
    let high = x *ℤ pos 65536 -ℤ v2 -ℤ floor (pos w.k *ℤ v1) 16777216 in (
      record { first = lim (pos 2 *ℤ v1 -ℤ i.first); second = lim (pos 2 *ℤ v2 -ℤ i.second) },
      record { low = band_sample v2; band = band_sample v1; high = band_sample high },
    )

-- SVF x freq rq
abbrev pub svf : ℕ → Integrators → List (List ℤ) → ℕ → Integrators × Bands
svf rate i inputs k = filtered (weights_at rate (sample inputs 1 k) (sample inputs 2 k)) i (sample inputs 0 k)

-- the same with one of its outputs
abbrev pub svf_at : (Bands → ℤ) → ℕ → Integrators → List (List ℤ) → ℕ → Integrators × ℤ
svf_at output rate i inputs k = let r = svf rate i inputs k in (r.0, output r.1)

-- a block: the words of the integrators after it, and the blocks of the three outputs
abbrev pub svf_output : (Bands → ℤ) → ℕ → List ℕ → List (List ℤ) → List ℕ × List ℤ
svf_output output rate state inputs = recurrence integrators_in integrators_words (svf_at output rate) state inputs

abbrev pub svf_block : ℕ → List ℕ → List (List ℤ) → List ℕ × List (List ℤ)
svf_block rate state inputs =
    let low = svf_output (λ y. y.low) rate state inputs in
    let band = svf_output (λ y. y.band) rate state inputs in
    let high = svf_output (λ y. y.high) rate state inputs in
    (low.0, low.1 ∷ band.1 ∷ high.1 ∷ [])
