-- Units that keep a value until a trigger or a gate changes it.
use Rattle.std.specs.Prelude.{ℕ, ◌==◌, true, not, List, [], ◌∷◌, slice_index, ℤ, pos, ◌+ℤ◌, ◌-ℤ◌, int_lt, cond}
use Rattle.sn_fixed.specs.Fixed.{sat}
use Rattle.sn_fixed.specs.Ranges.{into_range}
use Rattle.sn_fixed.specs.Triggers.{rises}
use Rattle.sn_mem.specs.Blocks.{sample, sample_in, word_for}
use Rattle.sn_filt.specs.declared.held.Latched.{Latched}
use Rattle.sn_filt.specs.declared.held.Count.{Count}
use Rattle.sn_filt.specs.declared.held.Steps.{Steps}

-- the value, and the trigger's last sample
abbrev pub latched_in : List ℕ → Latched
latched_in ws = record { value = sample_in (slice_index ws 0); trigger = sample_in (slice_index ws 1) }

abbrev pub latched_words : Latched → List ℕ
latched_words s = word_for s.value ∷ word_for s.trigger ∷ []

-- Latch x trig: the input at the last rise
abbrev pub latch : Latched → List (List ℤ) → ℕ → Latched × ℤ
latch s inputs k =
    let trigger = sample inputs 1 k in
    let y = cond (rises s.trigger trigger) (sample inputs 0 k) s.value in
    (record { value = y; trigger = trigger }, y)

-- Gate x trig: the input while trig is above 0
abbrev pub gate : ℤ → List (List ℤ) → ℕ → ℤ × ℤ
gate last inputs k = let y = cond (int_lt (pos 0) (sample inputs 1 k)) (sample inputs 0 k) last in (y, y)

-- the count, and the last samples of the trigger and of the reset
abbrev pub count_in : List ℕ → Count
count_in ws = record { count = sample_in (slice_index ws 0); trigger = sample_in (slice_index ws 1); reset = sample_in (slice_index ws 2) }

abbrev pub count_words : Count → List ℕ
count_words s = word_for s.count ∷ word_for s.trigger ∷ word_for s.reset ∷ []

-- a rise of reset sets 0, else a rise of trig adds 1 up to 2^31 - 1
abbrev pub counted : Count → ℤ → ℤ → ℤ
counted s trigger reset = cond (rises s.reset reset) (pos 0) (cond (rises s.trigger trigger) (sat (s.count +ℤ pos 1)) s.count)

-- PulseCount trig reset
abbrev pub pulse_count : Count → List (List ℤ) → ℕ → Count × ℤ
pulse_count s inputs k =
    let trigger = sample inputs 0 k in let reset = sample inputs 1 k in
    let y = counted s trigger reset in
    (record { count = y; trigger = trigger; reset = reset }, y)

-- whether it has begun, the value, and the last samples of the trigger and of the reset
abbrev pub steps_in : List ℕ → Steps
steps_in ws = record { begun = not (slice_index ws 0 == 0); value = sample_in (slice_index ws 1); trigger = sample_in (slice_index ws 2); reset = sample_in (slice_index ws 3) }

abbrev pub steps_words : Steps → List ℕ
steps_words s = cond s.begun 1 0 ∷ word_for s.value ∷ word_for s.trigger ∷ word_for s.reset ∷ []

-- a step from v, in the range from low to high
abbrev pub stepped : ℤ → ℤ → ℤ → ℤ → ℤ
stepped low high step v = cond (int_lt high low) low (into_range low (high -ℤ low +ℤ pos 1) (v +ℤ step))

-- the value begins at `to`
abbrev pub value_of : Steps → ℤ → ℤ
value_of s to = cond s.begun s.value to

abbrev pub step_at : Steps → List (List ℤ) → ℕ → ℤ
step_at s inputs k = stepped (sample inputs 2 k) (sample inputs 3 k) (sample inputs 4 k) (value_of s (sample inputs 5 k))

-- a rise of reset sets `to`, else a rise of trig makes a step
abbrev pub next_value : Steps → List (List ℤ) → ℕ → ℤ
next_value s inputs k =
    cond (rises s.reset (sample inputs 1 k)) (sample inputs 5 k)
    (cond (rises s.trigger (sample inputs 0 k)) (step_at s inputs k) (value_of s (sample inputs 5 k)))

-- Stepper trig reset min max step to
abbrev pub stepper : Steps → List (List ℤ) → ℕ → Steps × ℤ
stepper s inputs k =
    let y = next_value s inputs k in
    (record { begun = true; value = y; trigger = sample inputs 0 k; reset = sample inputs 1 k }, y)
