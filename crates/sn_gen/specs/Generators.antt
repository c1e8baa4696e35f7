-- What a generator makes of its state words and of its inputs' blocks: the state words after the block, and the output
-- blocks.
use Rattle.std.specs.Prelude.{ℕ, Bool, List, [], ℤ}
use Rattle.sn_def.specs.declared.kind.Kind.{Kind}
use Rattle.sn_def.specs.declared.kind.Kind.TheVariants as kinds
use Rattle.sn_def.specs.declared.control.Now.{Now}
use Rattle.sn_def.specs.declared.table.Family.TheVariants as families
use Rattle.sn_def.specs.Facts.{is_of}
use Rattle.sn_def.specs.Histories.{one_output}
use Rattle.sn_mem.specs.Blocks.{recurrence}
use Rattle.sn_gen.specs.Phases.{phase_in, phase_words}
use Rattle.sn_gen.specs.Oscillators.{sin_osc, lf_saw, lf_pulse, lf_tri}
use Rattle.sn_gen.specs.Rounded.{saw_unit}
use Rattle.sn_gen.specs.Sine.{sine}
use Rattle.sn_gen.specs.Harmonics.{blip}
use Rattle.sn_gen.specs.Noise.{draws_in, draws_words, seed, white_noise}
use Rattle.sn_gen.specs.Pink.{dice_in, dice_words, pink_noise}
use Rattle.sn_gen.specs.Impulse.{beat_in, beat_words, impulse}
use Rattle.sn_gen.specs.Phasor.{ramp_in, ramp_words, phasor}
use Rattle.sn_gen.specs.Line.{sweep_in, sweep_words, line}
use Rattle.sn_gen.specs.Linen.{envelope_in, envelope_words, linen}

abbrev pub is_generator : Kind → Bool
is_generator kind = is_of families.Generator kind

-- an oscillator's state is its phase
abbrev pub oscillator : (ℕ → List (List ℤ) → ℕ → ℕ × ℤ) → List ℕ → List (List ℤ) → List ℕ × List (List ℤ)
oscillator step state inputs = one_output (recurrence phase_in phase_words step state inputs)

unfoldable pub generator : Kind → Now → List ℕ → List (List ℤ) → List ℕ × List (List ℤ)
generator kinds.SinOsc now state inputs = oscillator (sin_osc now.rate) state inputs
generator kinds.Sine now state inputs = oscillator (sine now.rate) state inputs
generator kinds.LFSaw now state inputs = oscillator (lf_saw now.rate) state inputs
generator kinds.LFPulse now state inputs = oscillator (lf_pulse now.rate) state inputs
generator kinds.LFTri now state inputs = oscillator (lf_tri now.rate) state inputs
generator kinds.Impulse now state inputs = one_output (recurrence beat_in beat_words (impulse now.rate) state inputs)
generator kinds.WhiteNoise now state inputs = one_output (recurrence draws_in draws_words (white_noise (seed now)) state inputs)
generator kinds.Phasor now state inputs = one_output (recurrence ramp_in ramp_words phasor state inputs)
generator kinds.Line now state inputs = one_output (recurrence sweep_in sweep_words (line now.rate) state inputs)
generator kinds.Linen now state inputs = one_output (recurrence envelope_in envelope_words (linen now.rate) state inputs)
generator kinds.Saw now state inputs = oscillator (saw_unit now.rate) state inputs
generator kinds.Blip now state inputs = oscillator (blip now.rate) state inputs
generator kinds.PinkNoise now state inputs = one_output (recurrence dice_in dice_words (pink_noise (seed now)) state inputs)
generator _ now state inputs = (state, [])
