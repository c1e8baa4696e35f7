-- Times in seconds: 1.0 is a second. They are places among frames, of which 2^24 parts are one frame.
use Rattle.std.specs.Prelude.{ℕ, ◌+◌, ◌-◌, ◌*◌, ◌/◌, nat_lt, ℤ, pos, negsuc, cond}

-- a time in parts of a frame; below 0 it is 0
abbrev pub span : ℤ → ℕ → ℕ
span (pos t) rate = t * rate
span (negsuc _) rate = 0

-- the whole frames of a place: from 1/256 of a frame before a frame on it is that frame
abbrev pub whole_frames : ℕ → ℕ
whole_frames p = (p + 65536) / 16777216

-- the part after them, which is 0 up to 1/256 of a frame after that frame
abbrev pub frame_part : ℕ → ℕ
frame_part p = let g = p + 65536 - whole_frames p * 16777216 in cond (nat_lt g 131072) 0 (g - 65536)
