-- Frames of a line.
use Rattle.std.specs.Prelude.{ℕ, pos, ◌-ℤ◌, ◌*ℤ◌}
use Rattle.sn_fixed.specs.Divisions.{IsDivided}
use Rattle.sn_gen.specs.declared.line.Sweep.{Sweep}
use Rattle.sn_gen.specs.declared.course.Point.{Point}

-- p is frame k of a line: its height above the start is k parts of the way, of as many parts as the line has frames,
-- rounded down
abbrev pub IsPoint : Sweep → ℕ → Point → Type 0
IsPoint line k p = IsDivided ((line.end -ℤ line.start) *ℤ pos k) line.frames (p.sample -ℤ line.start) p.remainder
