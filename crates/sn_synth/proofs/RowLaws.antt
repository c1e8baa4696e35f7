-- What the rows of the kinds say.
use Rattle.std.proofs.Common.{◌≡◌, ◌≤◌, ℕ, max, true, false, ◌||◌, List, [], ◌∷◌, ℤ, pos, Option, length, refl, sym, ap, ◌∙◌, ⊎_elim, subst, arith, lit<}
use Rattle.std.specs.Prelude.{slice_get}
use Rattle.std.proofs.lemmas.List.{get_or-replicate}
use Rattle.sn_fixed.specs.Fixed.{frames_of}
use Rattle.sn_def.specs.declared.kind.Kind.{Kind}
use Rattle.sn_def.specs.declared.kind.Kind.TheVariants as kinds
use Rattle.sn_def.specs.declared.table.StateSize.{StateSize}
use Rattle.sn_def.specs.declared.table.StateSize.TheVariants.{Fixed, Delay, Comb, DampedComb}
use Rattle.sn_def.specs.declared.table.Family.{Family}
use Rattle.sn_def.specs.declared.table.Family.TheVariants as families
use Rattle.sn_def.specs.declared.table.Mark.{Mark}
use Rattle.sn_def.specs.declared.table.Mark.TheVariants.{Longest}
use Rattle.sn_def.specs.declared.unit.Input.{Input}
use Rattle.sn_def.specs.declared.unit.Input.TheVariants.{Literal, Control, Wire}
use Rattle.sn_def.specs.declared.control.Now.{Now}
use Rattle.sn_def.specs.Units.{UnitRow, row_of}
use Rattle.sn_def.specs.Facts.{is_family}
use Rattle.sn_def.proofs.RowLaws.{HasDelay, words_or_delay, fixed_words}
use Rattle.sn_def.specs.Reading.{mark_at}
use Rattle.sn_def.specs.StateWords.{words_of, longest, literal_value}
use Rattle.sn_def.specs.WellFormed.{IsAllowed, AreAllowed}
use Rattle.sn_gen.specs.Generators.{is_generator, generator}
use Rattle.sn_gen.specs.Noise.{seed}
use Rattle.sn_gen.specs.Pink.{dice_in, pink_noise}
use Rattle.sn_gen.proofs.Rolling.{length-dice_words}
use Rattle.sn_mem.specs.Blocks.{sample, scan}
use Rattle.sn_filt.specs.Rings.{most_frames, delay_reach, delay_step, comb_reach, comb_step}
use Rattle.sn_filt.proofs.RingLaws.{length-ringed}
use Rattle.sn_filt.proofs.LineLaws.{length-delay_ring, length-comb_ring}
use Rattle.sn_filt.specs.Arithmetic.{arithmetic}
use Rattle.sn_filt.specs.Filters.{filter}
use Rattle.sn_mem.specs.Buses.{audio_buses, control_buses}
use Rattle.sn_mem.proofs.Tables.{length-table}
use Rattle.sn_io.specs.Channels.{audio_channel, control_channel}
use Rattle.sn_io.specs.BusInputs.{audio_in, control_in}
use Rattle.sn_io.specs.Triggers.{trigger_block}
use Rattle.sn_io.specs.BusUnits.{is_bus_unit}
use Rattle.sn_io.specs.OverWords.{bus_unit_over}
use Rattle.sn_io.specs.BufferUnits.{is_buffer_unit}
use Rattle.sn_io.specs.BuffersOverWords.{buffer_unit_over}
use Rattle.sn_mem.specs.declared.buffers.BufferPlace.{BufferPlace}
use Rattle.sn_synth.specs.UnitBlocks.{is_played, inner}
use Rattle.sn_synth.specs.Synths.{input_blocks}
use Rattle.sn_synth.specs.Words.{unit_after}

any_family : (f : Family) → (is_family families.Buffer f || ((is_family families.Bus f || is_family families.Trigger f) || (is_family families.Generator f || (is_family families.Filter f || is_family families.Arithmetic f)))) ≡ true
any_family families.Generator = refl
any_family _ = refl

-- a synth can run a unit of each kind
pub played : (k : Kind) → is_played k ≡ true
played k = any_family (row_of k).family

-- ---- words

generator_no_filter : (f : Family) → is_family families.Generator f ≡ true → is_family families.Filter f ≡ false
generator_no_filter families.Generator h = refl
generator_no_filter _ h = absurd cc

-- a generator has a fixed number of words
pub generator_words : (k : Kind) (frames len : ℕ) → is_generator k ≡ true → words_of (row_of k).words frames ≡ len → (row_of k).words ≡ Fixed len
generator_words k frames len h e = fixed_words k frames len (generator_no_filter (row_of k).family h) e

bus_no_filter : (f : Family) → (is_family families.Bus f || is_family families.Trigger f) ≡ true → is_family families.Filter f ≡ false
bus_no_filter families.Filter h = absurd cc
bus_no_filter _ h = refl

-- and so has a unit on buses or triggers
pub bus_unit_words : (k : Kind) (frames len : ℕ) → is_bus_unit k ≡ true → words_of (row_of k).words frames ≡ len → (row_of k).words ≡ Fixed len
bus_unit_words k frames len h e = fixed_words k frames len (bus_no_filter (row_of k).family h) e

buffer_no_filter : (f : Family) → is_family families.Buffer f ≡ true → is_family families.Filter f ≡ false
buffer_no_filter families.Buffer h = refl
buffer_no_filter _ h = absurd cc

-- and so has a unit on a buffer
pub buffer_unit_words : (k : Kind) (frames len : ℕ) → is_buffer_unit k ≡ true → words_of (row_of k).words frames ≡ len → (row_of k).words ≡ Fixed len
buffer_unit_words k frames len h e = fixed_words k frames len (buffer_no_filter (row_of k).family h) e

-- the second input is the longest delay
longest_second : (marks : List Mark) (c w : ℕ) (values : List ℤ) (wires : List (List ℤ)) (xs : List Input) → mark_at marks 1 ≡ Longest → AreAllowed marks c w 0 xs → 2 ≤ length xs → sample (input_blocks values wires xs) 1 0 ≡ literal_value (slice_get xs 1)
longest_second marks c w values wires [] e h le = absurd (omega arith)
longest_second marks c w values wires (x ∷ []) e h le = absurd (omega arith)
longest_second marks c w values wires (x ∷ Literal v ∷ xs) e h le = get_or-replicate 64 0 v (pos 0) (lit< tt)
longest_second marks c w values wires (x ∷ Control k ∷ xs) e h le = let P : Mark → Type 0 = λ m. IsAllowed m c w (Control k) in absurd (subst P e h.1.0)
longest_second marks c w values wires (x ∷ Wire k ∷ xs) e h le = let P : Mark → Type 0 = λ m. IsAllowed m c w (Wire k) in absurd (subst P e h.1.0)

fixed_same : (w : StateSize) (n frames more : ℕ) → w ≡ Fixed n → words_of w frames ≡ words_of w more
fixed_same (Fixed m) n frames more e = refl
fixed_same Delay n frames more e = absurd cc
fixed_same Comb n frames more e = absurd cc
fixed_same DampedComb n frames more e = absurd cc

delay_same : (row : UnitRow) (rate c w : ℕ) (values : List ℤ) (wires : List (List ℤ)) (xs : List Input) → HasDelay row.inputs xs → AreAllowed row.inputs c w 0 xs → length row.inputs ≤ length xs
    → words_of row.words (most_frames rate (input_blocks values wires xs)) ≡ words_of row.words (frames_of (longest row.inputs xs) rate)
delay_same row rate c w values wires xs h a le =
    let long = h.long in
    ap (λ (ms : ℤ). words_of row.words (frames_of ms rate)) (longest_second row.inputs c w values wires xs h.second a (omega arith) ∙ sym h.most)

-- the words by the blocks of the inputs are those by the inputs
pub same_words : (k : Kind) (rate c w : ℕ) (values : List ℤ) (wires : List (List ℤ)) (xs : List Input) → AreAllowed (row_of k).inputs c w 0 xs → length (row_of k).inputs ≤ length xs
    → words_of (row_of k).words (most_frames rate (input_blocks values wires xs)) ≡ words_of (row_of k).words (frames_of (longest (row_of k).inputs xs) rate)
same_words k rate c w values wires xs a le =
    ⊎_elim (λ (f : (n : ℕ) × ((row_of k).words ≡ Fixed n)). fixed_same (row_of k).words f.0 _ _ f.1) (λ (d : HasDelay (row_of k).inputs xs). delay_same (row_of k) rate c w values wires xs d a le) (words_or_delay k xs)

-- a unit gives as many outputs as its line names
pub outputs_long : (k : Kind) (now : Now) (places : List (Option BufferPlace)) (ws : List ℕ) (at len : ℕ) (inputs : List (List ℤ)) (n : ℕ) → (row_of k).least ≤ n → n ≤ (row_of k).most → length (unit_after k now n places ws at len inputs).1 ≡ n
unfolding row_of inner generator filter arithmetic bus_unit_over trigger_block buffer_unit_over
outputs_long kinds.Inar now places ws at len inputs n low high = length-table (λ i. audio_in false now.block (audio_buses ws) (audio_channel inputs i)) n
outputs_long kinds.InFeedback now places ws at len inputs n low high = length-table (λ i. audio_in true now.block (audio_buses ws) (audio_channel inputs i)) n
outputs_long kinds.Inkr now places ws at len inputs n low high = length-table (λ i. control_in (control_buses ws) (control_channel inputs i)) n
outputs_long kinds.PlayBuf now places ws at len inputs n low high = length-table _ n
outputs_long kinds.PlayBufL now places ws at len inputs n low high = length-table _ n
outputs_long kinds.BufRd now places ws at len inputs n low high = length-table _ n
outputs_long kinds.BufRdL now places ws at len inputs n low high = length-table _ n
outputs_long _ now places ws at len inputs n low high = omega arith

-- and keeps the number of its state words
pub state_long : (k : Kind) (now : Now) (state : List ℕ) (inputs : List (List ℤ)) (frames : ℕ) → length state ≡ words_of (row_of k).words frames → length (inner k now state inputs).0 ≡ length state
unfolding row_of inner generator filter
state_long kinds.DelayN now state inputs frames h = let most = most_frames now.rate inputs in length-ringed (delay_reach now.rate most) (delay_step now.rate most) state inputs
state_long kinds.DelayL now state inputs frames h = length-delay_ring now.rate (most_frames now.rate inputs) state inputs
state_long kinds.CombN now state inputs frames h = length-ringed (comb_reach now.rate (max 1 (most_frames now.rate inputs))) comb_step state inputs
state_long kinds.CombL now state inputs frames h = length-comb_ring (λ y. y.comb) now.rate (max 1 (most_frames now.rate inputs)) state inputs
state_long kinds.PinkNoise now state inputs frames h = length-dice_words (scan (pink_noise (seed now)) (dice_in state) inputs 64).0 ∙ sym h
state_long _ now state inputs frames h = omega arith
