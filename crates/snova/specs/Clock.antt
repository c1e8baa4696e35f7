-- A time of nanoseconds since 1970 as a time tag.
use Rattle.std.specs.Prelude.{ℕ, ◌+◌, ◌*◌, ◌/◌, ◌%◌}

-- the seconds since 1900 in the upper 32 bits, which begin again after 2^32, and the fraction of a second in the lower
abbrev pub time_tag : ℕ → ℕ
time_tag nanos = (nanos / 1000000000 + 2208988800) % 4294967296 * 4294967296 + nanos % 1000000000 * 4294967296 / 1000000000
