-- LagUD: a follower with a factor for up and one for down.
use Rattle.std.specs.Prelude.{ℕ, ◌==◌, true, not, List, [], ◌∷◌, slice_index, ℤ, pos, ◌+ℤ◌, ◌-ℤ◌, ◌*ℤ◌, int_lt, cond}
use Rattle.std.specs.Int.{w64, cast_signed, cast_unsigned, int_min, int_max}
use Rattle.sn_fixed.specs.Fixed.{floor, sat}
use Rattle.sn_mem.specs.Blocks.{sample}
use Rattle.sn_filt.specs.declared.followers.Followed.{Followed}

-- whether it has begun, and the place, of which 2^40 is 1.0: a whole number of 64 bits
abbrev pub followed_in : List ℕ → Followed
followed_in ws = record { begun = not (slice_index ws 0 == 0); place = cast_signed w64 (slice_index ws 1) }

abbrev pub followed_words : Followed → List ℕ
followed_words s = cond s.begun 1 0 ∷ cast_unsigned w64 s.place ∷ []

-- the factor for a distance from the input: `up` below it, else `down`, at least 0 and at most 1.0
abbrev pub factor : ℤ → ℤ → ℤ → ℤ
factor d up down = int_max (pos 0) (int_min (pos 16777216) (cond (int_lt d (pos 0)) up down))

-- the factor's part of the distance d from z stays
abbrev pub place_after : ℤ → ℤ → ℤ → ℤ → ℤ
place_after z d up down = z +ℤ floor (d *ℤ factor d up down) 16777216

-- LagUD x up down: it begins at the input
abbrev pub lag_ud : Followed → List (List ℤ) → ℕ → Followed × ℤ
lag_ud s inputs k =
    let z = sample inputs 0 k *ℤ pos 65536 in
    let p = place_after z (cond s.begun s.place z -ℤ z) (sample inputs 1 k) (sample inputs 2 k) in
    (record { begun = true; place = p }, sat (floor p 65536))
