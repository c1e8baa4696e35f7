-- Trig: a pulse that a trigger starts.
use Rattle.std.specs.Prelude.{ℕ, ◌-◌, nat_lt, max, List, [], ◌∷◌, slice_index, ℤ, pos, cond}
use Rattle.sn_fixed.specs.Triggers.{rises}
use Rattle.sn_mem.specs.Blocks.{sample, sample_in, word_for}
use Rattle.sn_filt.specs.Seconds.{span, whole_frames}
use Rattle.sn_filt.specs.declared.pulses.Pulse.{Pulse}

-- the last sample of the trigger, the frames that are left of the pulse, and its height
abbrev pub pulse_in : List ℕ → Pulse
pulse_in ws = record { trigger = sample_in (slice_index ws 0); left = slice_index ws 1; height = sample_in (slice_index ws 2) }

abbrev pub pulse_words : Pulse → List ℕ
pulse_words s = word_for s.trigger ∷ s.left ∷ word_for s.height ∷ []

-- the frames of a pulse that lasts so many seconds: at least one
abbrev pub pulse_frames : ℕ → ℤ → ℕ
pulse_frames rate time = max 1 (whole_frames (span time rate))

-- A pulse goes on while more than one frame is left. Else a rise starts another, as high as the trigger.
abbrev pub next_pulse : ℕ → Pulse → ℤ → ℤ → Pulse
next_pulse rate s trigger time =
    cond (nat_lt 1 s.left) (record { trigger = trigger; left = s.left - 1; height = s.height })
    (cond (rises s.trigger trigger) (record { trigger = trigger; left = pulse_frames rate time; height = trigger })
    (record { trigger = trigger; left = 0; height = pos 0 }))

-- Trig trig time
abbrev pub trig : ℕ → Pulse → List (List ℤ) → ℕ → Pulse × ℤ
trig rate s inputs k = let p = next_pulse rate s (sample inputs 0 k) (sample inputs 1 k) in (p, p.height)
