-- Phasor.
use Rattle.std.specs.Prelude.{ℕ, ◌==◌, true, not, List, [], ◌∷◌, slice_index, ℤ, ◌+ℤ◌, ◌-ℤ◌, int_lt, cond}
use Rattle.sn_fixed.specs.Fixed.{sat}
use Rattle.sn_fixed.specs.Ranges.{into_range}
use Rattle.sn_fixed.specs.Triggers.{rises}
use Rattle.sn_mem.specs.Blocks.{sample, sample_in, word_for}
use Rattle.sn_gen.specs.declared.phasor.Ramp.{Ramp}

-- whether it has begun, the last sample of the trigger, and the place
abbrev pub ramp_in : List ℕ → Ramp
ramp_in ws = record { begun = not (slice_index ws 0 == 0); trigger = sample_in (slice_index ws 1); place = sample_in (slice_index ws 2) }

abbrev pub ramp_words : Ramp → List ℕ
ramp_words r = cond r.begun 1 0 ∷ word_for r.trigger ∷ word_for r.place ∷ []

-- x, taken into the range from start up to end
abbrev pub within : ℤ → ℤ → ℤ → ℤ
within start end x = cond (int_lt start end) (into_range start (end -ℤ start) x) start

-- a rise sets the place, which begins at start
abbrev pub placed : Ramp → ℤ → ℤ → ℤ → ℤ
placed r trigger start reset = cond (rises r.trigger trigger) reset (cond r.begun r.place start)

-- Phasor trig step start end reset
abbrev pub phasor : Ramp → List (List ℤ) → ℕ → Ramp × ℤ
phasor r inputs k =
    let trigger = sample inputs 0 k in
    let start = sample inputs 2 k in
    let x = within start (sample inputs 3 k) (placed r trigger start (sample inputs 4 k)) in
    (record { begun = true; trigger = trigger; place = sat (x +ℤ sample inputs 1 k) }, x)
