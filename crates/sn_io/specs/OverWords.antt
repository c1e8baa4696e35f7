-- The units on buses and the triggers, as what they do to the memory words.
use Rattle.std.specs.Prelude.{ℕ, ◌+◌, ◌*◌, ◌==◌, Bool, true, false, ◌&&◌, cond, List, [], Option, Some, None, ℤ, pos, ◌+ℤ◌, slice_index, slice_index_or, slice_set}
use Rattle.sn_mem.specs.Layout.{audio_bus_words, audio_words, control_bus_words}
use Rattle.sn_fixed.specs.Fixed.{sat}
use Rattle.sn_def.specs.declared.kind.Kind.{Kind}
use Rattle.sn_def.specs.declared.kind.Kind.TheVariants as kinds
use Rattle.sn_def.specs.declared.control.Now.{Now}
use Rattle.sn_mem.specs.Blocks.{sample_in, word_for, changed, window, put}
use Rattle.sn_mem.specs.Buses.{audio_buses, control_buses}
use Rattle.sn_io.specs.Channels.{audio_channel, control_channel, channels, signals}
use Rattle.sn_io.specs.BusInputs.{audio_inputs, control_inputs}
use Rattle.sn_io.specs.Triggers.{trigger_block}

abbrev pub summed : ℕ → ℤ → ℕ
summed w x = word_for (sat (sample_in w +ℤ sat x))

abbrev pub overwritten : ℤ → ℕ
overwritten x = word_for (sat (pos 0 +ℤ x))

-- a signal onto the audio bus at a place; if it adds, it is added to what was written in block b
abbrev pub onto_block : Bool → ℕ → List ℕ → ℕ → List ℤ → List ℕ
onto_block adds b ws at xs = cond (adds && slice_index ws at == b + 1) (changed summed ws (at + 1) xs) (slice_set (changed (λ w. overwritten) ws (at + 1) xs) at (b + 1))

abbrev pub onto_audio : Bool → ℕ → List ℕ → Option ℕ → List ℤ → List ℕ
onto_audio adds b ws None xs = ws
onto_audio adds b ws (Some n) xs = onto_block adds b ws (audio_bus_words * n) xs

-- a sample onto the control bus at a place
abbrev pub held_at : ℕ → List ℕ → ℕ → ℤ
held_at b ws at = cond (slice_index ws at == b + 1) (sample_in (slice_index ws (at + 1))) (pos 0)

abbrev pub onto_value : ℕ → List ℕ → ℕ → ℤ → List ℕ
onto_value b ws at x = slice_set (slice_set ws (at + 1) (word_for (sat (held_at b ws at +ℤ x)))) at (b + 1)

abbrev pub onto_control : ℕ → List ℕ → Option ℕ → List ℤ → List ℕ
onto_control b ws None xs = ws
onto_control b ws (Some n) xs = onto_value b ws (audio_words + control_bus_words * n) (slice_index_or xs 0 (pos 0))

-- one channel's signal
abbrev pub onto_audio_channel : Bool → ℕ → List (List ℤ) → List ℕ → ℕ → List ℤ → List ℕ
onto_audio_channel adds b inputs ws i xs = onto_audio adds b ws (audio_channel inputs i) xs

abbrev pub onto_control_channel : ℕ → List (List ℤ) → List ℕ → ℕ → List ℤ → List ℕ
onto_control_channel b inputs ws i xs = onto_control b ws (control_channel inputs i) xs

-- The words after a unit's block, its state being `len` words from `at` on, and its outputs.
unfoldable pub bus_unit_over : Kind → Now → ℕ → List ℕ → ℕ → ℕ → List (List ℤ) → List ℕ × List (List ℤ)
bus_unit_over kinds.Inar now n ws at len inputs = (ws, audio_inputs false now.block inputs n (audio_buses ws))
bus_unit_over kinds.InFeedback now n ws at len inputs = (ws, audio_inputs true now.block inputs n (audio_buses ws))
bus_unit_over kinds.Inkr now n ws at len inputs = (ws, control_inputs inputs n (control_buses ws))
bus_unit_over kinds.Outar now n ws at len inputs = (channels (onto_audio_channel true now.block inputs) inputs (signals inputs) ws, [])
bus_unit_over kinds.ReplaceOut now n ws at len inputs = (channels (onto_audio_channel false now.block inputs) inputs (signals inputs) ws, [])
bus_unit_over kinds.Outkr now n ws at len inputs = (channels (onto_control_channel now.block inputs) inputs (signals inputs) ws, [])
bus_unit_over kind now n ws at len inputs = let r = trigger_block kind now (window ws at len) inputs in (put ws at r.0, r.1)
