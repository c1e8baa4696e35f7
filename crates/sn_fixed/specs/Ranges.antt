-- Ranges of samples.
use Rattle.std.specs.Prelude.{ℤ, ◌+ℤ◌, ◌-ℤ◌}
use Rattle.std.specs.Int.{int_rem_euclid}

-- the number from low on, below low + range, that is a whole number of ranges from x
abbrev pub into_range : ℤ → ℤ → ℤ → ℤ
into_range low range x = low +ℤ int_rem_euclid (x -ℤ low) range
