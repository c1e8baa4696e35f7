-- Delay lines over whole runs: the output is what was kept some frames ago.
use Rattle.std.specs.Prelude.{◌≡◌, ◌+◌, ◌-◌, ◌*◌, ℕ, nat_lt, min, max, List, ℤ, pos, ◌+ℤ◌, ◌*ℤ◌, cond, FitsSigned}
use Rattle.std.specs.Int.{w32}
use Rattle.sn_fixed.specs.Fixed.{floor, sat, frames_of}
use Rattle.sn_def.specs.Histories.{heard, given}
use Rattle.sn_filt.specs.Rings.{most_frames, delay_n, comb_n}
use Rattle.sn_filt.specs.Seconds.{span, whole_frames, frame_part}
use Rattle.sn_filt.specs.Lines.{between, delay_l}

-- a signal n frames before frame t; before the first frame it is 0
abbrev pub ago : (ℕ → ℤ) → ℕ → ℕ → ℤ
ago x n t = cond (nat_lt t n) (pos 0) (x (t - n))

-- the frames of the longest delay are those of each block
abbrev pub HasMost : ℕ → ℕ → (ℕ → List (List ℤ)) → Type 0
HasMost rate most run = (b : ℕ) → most_frames rate (run b) ≡ most

-- the first input has samples of 32 bits
abbrev pub HasSamples : (ℕ → List (List ℤ)) → Type 0
HasSamples run = (t : ℕ) → FitsSigned w32 (heard run 0 t)

-- DelayN: the output is the input n frames ago, by the time at this frame.
abbrev pub IsInputAgo : ℕ → ℕ → (ℕ → List (List ℤ)) → Type 0
IsInputAgo rate most run =
    (t : ℕ) → given (delay_n rate) (most + 2) run t ≡ ago (heard run 0) (min (frames_of (heard run 2 t) rate) most) t

-- DelayL: the output lies between the input n frames ago and n + 1 frames ago, by the time at this frame.
abbrev pub IsInputBetween : ℕ → ℕ → (ℕ → List (List ℤ)) → Type 0
IsInputBetween rate most run =
    (t : ℕ) → (let reach = min (span (heard run 2 t) rate) (most * 16777216) in
    let n = whole_frames reach in
    given (delay_l rate) (most + 2) run t ≡ between (ago (heard run 0) n t) (ago (heard run 0) (n + 1) t) (frame_part reach))

-- what CombN keeps, by its output: the input and the part of the output that is fed back
abbrev pub fed_back : (ℕ → List (List ℤ)) → (ℕ → ℤ) → ℕ → ℤ
fed_back run y t = sat (heard run 0 t +ℤ floor (heard run 3 t *ℤ y t) 16777216)

-- CombN: the output is what was kept n frames ago, by the time at this frame.
abbrev pub IsKeptAgo : ℕ → ℕ → (ℕ → List (List ℤ)) → Type 0
IsKeptAgo rate most run =
    let longest = max 1 most in
    let y = given (comb_n rate) (longest + 2) run in
    (t : ℕ) → y t ≡ ago (fed_back run y) (min (max 1 (frames_of (heard run 2 t) rate)) longest) t
