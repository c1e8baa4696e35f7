-- Arcs: the sine over a quarter of a turn by a polynomial in the square of the angle, and the wave over a turn that is
-- made of them. 2^31 is a quarter turn, and 2^62 is 1.0.
use Rattle.std.specs.Prelude.{ℕ, ◌-◌, ◌*◌, ◌/◌, ◌%◌, min, nat_lt, List, [], ◌∷◌, ℤ, pos, neg_ℤ, cond}

-- the square of an angle: 2^30 is that of a quarter turn
abbrev pub square : ℕ → ℕ
square u = u * u / 4294967296

-- Horner's rule with signs that alternate: at t, of which 2^30 is 1.0, each coefficient less t times what there is
abbrev pub horner : ℕ → ℕ → List ℕ → ℕ
horner t h [] = h
horner t h (c ∷ cs) = horner t (c - t * h / 1073741824) cs

-- the coefficients of the sine, from the ninth power of the angle down to the first
abbrev pub polynomial : ℕ → ℕ
polynomial t = horner t 324873 (10036036 ∷ 171131830 ∷ 1387196425 ∷ 3373259406 ∷ [])

-- the sine of an angle up to a quarter turn
unfoldable pub arc : ℕ → ℕ
arc u = min 4611686018427387904 (u * polynomial (square u))

-- the sine of any angle: up and down in the first half of a turn, the same below 0 in the second
unfoldable pub wave : ℕ → ℤ
wave m =
    let r = m % 8589934592 in
    let h = r % 4294967296 in
    let height = arc (min h (4294967296 - h)) in
    cond (nat_lt r 4294967296) (pos height) (neg_ℤ (pos height))
