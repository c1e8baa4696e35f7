-- What a unit of arithmetic or a filter makes of its state words and of its inputs' blocks: the state words after the
-- block, and the output blocks.
use Rattle.std.specs.Prelude.{ℕ, Bool, ◌||◌, List, ℤ}
use Rattle.sn_def.specs.declared.kind.Kind.{Kind}
use Rattle.sn_def.specs.declared.kind.Kind.TheVariants as kinds
use Rattle.sn_def.specs.declared.control.Now.{Now}
use Rattle.sn_def.specs.declared.table.Family.TheVariants as families
use Rattle.sn_def.specs.Facts.{is_of}
use Rattle.sn_def.specs.Histories.{one_output}
use Rattle.sn_mem.specs.Blocks.{recurrence}
use Rattle.sn_filt.specs.Arithmetic.{arithmetic}
use Rattle.sn_filt.specs.Poles.{sample_of_words, sample_words, one_pole, integrator, delay1, lagged_in, lagged_words, lag}
use Rattle.sn_filt.specs.Followers.{followed_in, followed_words, lag_ud}
use Rattle.sn_filt.specs.Pulses.{pulse_in, pulse_words, trig}
use Rattle.sn_filt.specs.Sections.{section_in, section_words, sos}
use Rattle.sn_filt.specs.StateVariable.{svf_block}
use Rattle.sn_filt.specs.Rings.{delay_n, comb_n}
use Rattle.sn_filt.specs.Lines.{delay_l, comb_l}
use Rattle.sn_filt.specs.Held.{latched_in, latched_words, latch, gate, count_in, count_words, pulse_count, steps_in, steps_words, stepper}

abbrev pub is_filter : Kind → Bool
is_filter kind = is_of families.Filter kind || is_of families.Arithmetic kind

-- the state is one sample
abbrev pub of_sample : (ℤ → List (List ℤ) → ℕ → ℤ × ℤ) → List ℕ → List (List ℤ) → List ℕ × List (List ℤ)
of_sample step state inputs = one_output (recurrence sample_of_words sample_words step state inputs)

unfoldable pub filter : Kind → Now → List ℕ → List (List ℤ) → List ℕ × List (List ℤ)
filter kinds.OnePole now state inputs = of_sample one_pole state inputs
filter kinds.Lag now state inputs = one_output (recurrence lagged_in lagged_words (lag now.rate) state inputs)
filter kinds.Integrator now state inputs = of_sample integrator state inputs
filter kinds.Delay1 now state inputs = of_sample delay1 state inputs
filter kinds.DelayN now state inputs = one_output (delay_n now.rate state inputs)
filter kinds.DelayL now state inputs = one_output (delay_l now.rate state inputs)
filter kinds.CombN now state inputs = one_output (comb_n now.rate state inputs)
filter kinds.CombL now state inputs = comb_l now.rate state inputs
filter kinds.SOS now state inputs = one_output (recurrence section_in section_words sos state inputs)
filter kinds.SVF now state inputs = svf_block now.rate state inputs
filter kinds.Latch now state inputs = one_output (recurrence latched_in latched_words latch state inputs)
filter kinds.Gate now state inputs = of_sample gate state inputs
filter kinds.PulseCount now state inputs = one_output (recurrence count_in count_words pulse_count state inputs)
filter kinds.Stepper now state inputs = one_output (recurrence steps_in steps_words stepper state inputs)
filter kinds.LagUD now state inputs = one_output (recurrence followed_in followed_words lag_ud state inputs)
filter kinds.Trig now state inputs = one_output (recurrence pulse_in pulse_words (trig now.rate) state inputs)
filter kind now state inputs = (state, arithmetic kind inputs)
