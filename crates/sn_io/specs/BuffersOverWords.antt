-- The units on buffers, as what they do to the memory words.
use Rattle.std.specs.Prelude.{ℕ, ◌+◌, List, [], ◌∷◌, replicate, Option, Some, None, ℤ, pos, slice_set}
use Rattle.std.specs.Option.{option_map}
use Rattle.sn_ports.specs.Limits.{block_frames}
use Rattle.sn_fixed.specs.Fixed.{sat}
use Rattle.sn_def.specs.declared.kind.Kind.{Kind}
use Rattle.sn_def.specs.declared.kind.Kind.TheVariants as kinds
use Rattle.sn_def.specs.declared.control.Now.{Now}
use Rattle.sn_mem.specs.declared.buffers.BufferPlace.{BufferPlace}
use Rattle.sn_mem.specs.Blocks.{window, put, word_for}
use Rattle.sn_mem.specs.Buffers.{buffer_of}
use Rattle.sn_io.specs.declared.between.Point.{Point}
use Rattle.sn_io.specs.Positions.{indexed}
use Rattle.sn_io.specs.Between.{play_points, scaled_points}
use Rattle.sn_io.specs.BufferUnits.{chosen, usable, gathered, gathered_between, scattered, signals_from, length_in, play_frames, record_frames}

abbrev pub usable_place : ℕ → List (List ℤ) → List (Option BufferPlace) → Option BufferPlace
usable_place n inputs places = usable (λ p. p.channels) n (chosen inputs places)

abbrev pub place_frames : Option BufferPlace → Option ℕ
place_frames place = option_map (λ p. p.frames) place

-- the word of a sample, among the words from a place on
abbrev pub set_word : ℕ → List ℕ → ℕ → ℤ → List ℕ
set_word at ws place x = slice_set ws (at + place) (word_for (sat x))

abbrev pub onto_buffer : List (List ℤ) → ℕ → List (Option ℕ) → Option BufferPlace → List ℕ → List ℕ
onto_buffer inputs first frames None ws = ws
onto_buffer inputs first frames (Some p) ws = scattered (set_word p.extent.at) inputs first p.channels frames block_frames ws

abbrev pub gathered_from : List ℕ → Option BufferPlace → List (Option ℕ) → ℕ → List (List ℤ)
gathered_from ws place frames n = gathered (option_map (buffer_of ws) place) frames n

abbrev pub between_from : List ℕ → Option BufferPlace → List (Option Point) → ℕ → List (List ℤ)
between_from ws place points n = gathered_between (option_map (buffer_of ws) place) points n

-- what PlayBuf makes of its state words, `len` from `at` on, and the frames that it reads
abbrev pub played_from : List ℕ → ℕ → ℕ → Option BufferPlace → List (List ℤ) → List ℕ × List (Option ℕ)
played_from ws at len place inputs = play_frames (place_frames place) (window ws at len) inputs

-- the same of PlayBufL
abbrev pub placed_from : List ℕ → ℕ → ℕ → Option BufferPlace → List (List ℤ) → List ℕ × List (Option Point)
placed_from ws at len place inputs = play_points (place_frames place) (window ws at len) inputs

-- the words after RecordBuf, whose state words are `len` from `at` on
abbrev pub recorded_over : List ℕ → ℕ → ℕ → Option BufferPlace → List (List ℤ) → List ℕ
recorded_over ws at len place inputs =
    let r = record_frames (place_frames place) (window ws at len) inputs in
    onto_buffer inputs 4 r.1 place (put ws at r.0)

-- The words after a unit's block, its state being `len` words from `at` on, and its outputs.
unfoldable pub buffer_unit_over : Kind → Now → ℕ → List (Option BufferPlace) → List ℕ → ℕ → ℕ → List (List ℤ) → List ℕ × List (List ℤ)
buffer_unit_over kinds.PlayBuf now n places ws at len inputs =
    let p = usable_place n inputs places in
    let r = played_from ws at len p inputs in
    let us = put ws at r.0 in
    (us, gathered_from us p r.1 n)
buffer_unit_over kinds.PlayBufL now n places ws at len inputs =
    let p = usable_place n inputs places in
    let r = placed_from ws at len p inputs in
    let us = put ws at r.0 in
    (us, between_from us p r.1 n)
buffer_unit_over kinds.RecordBuf now n places ws at len inputs =
    (recorded_over ws at len (usable_place (signals_from 4 inputs) inputs places) inputs, [])
buffer_unit_over kinds.BufRd now n places ws at len inputs =
    let p = usable_place n inputs places in
    (ws, gathered_from ws p (indexed (place_frames p) inputs) n)
buffer_unit_over kinds.BufRdL now n places ws at len inputs =
    let p = usable_place n inputs places in
    (ws, between_from ws p (scaled_points (place_frames p) inputs) n)
buffer_unit_over kinds.BufWr now n places ws at len inputs =
    let p = usable_place (signals_from 2 inputs) inputs places in
    (onto_buffer inputs 2 (indexed (place_frames p) inputs) p ws, [])
buffer_unit_over kinds.BufFrames now n places ws at len inputs = (ws, replicate block_frames (pos (length_in (place_frames (chosen inputs places)))) ∷ [])
buffer_unit_over _ now n places ws at len inputs = (ws, [])
