-- Triggers.
use Rattle.std.specs.Prelude.{ℤ, pos, int_lt, int_le, Bool, ◌&&◌}

-- a trigger rises from one sample to the next
abbrev pub rises : ℤ → ℤ → Bool
rises before now = int_lt (pos 0) now && int_le before (pos 0)
