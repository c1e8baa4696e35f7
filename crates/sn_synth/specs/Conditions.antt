-- What a synth needs.
use Rattle.std.specs.Prelude.{◌≡◌, ◌<◌, ◌≤◌, ◌+◌, ℕ, List, ℤ, pos, ◌+ℤ◌, Option, Some, None, true, length, slice_index_or}
use Rattle.std.specs.List.{All}
use Rattle.sn_mem.specs.Layout.{bus_words}
use Rattle.sn_ports.specs.Limits.{control_bus_count}
use Rattle.sn_def.specs.declared.control.Control.{Control as SynthControl}
use Rattle.sn_def.specs.declared.unit.Input.{Input}
use Rattle.sn_def.specs.declared.unit.Input.TheVariants.{Literal, Control, Wire}
use Rattle.sn_def.specs.declared.unit.Unit.{Unit as UnitLine}
use Rattle.sn_def.specs.Definition.{Definition}
use Rattle.sn_def.specs.Asked.{is_index}
use Rattle.sn_def.specs.Units.{row_of}
use Rattle.sn_def.specs.declared.kind.Kind.{Kind}
use Rattle.sn_def.specs.StateWords.{words_of}
use Rattle.sn_filt.specs.Rings.{most_frames}
use Rattle.sn_mem.specs.declared.extents.Extent.{Extent}
use Rattle.sn_mem.specs.declared.extents.Foot.{Foot}
use Rattle.sn_mem.specs.declared.buffers.BufferPlace.{BufferPlace}
use Rattle.sn_mem.specs.Words.{MayWrite}
use Rattle.sn_mem.specs.Buffers.{AreApart}
use Rattle.sn_mem.specs.Buses.{audio_number}
use Rattle.sn_io.specs.Channels.{control_number}
use Rattle.sn_io.specs.BusUnits.{reads_audio, reads_control, writes_audio, writes_control}
use Rattle.sn_io.specs.BufferUnits.{reads_buffer, writes_buffer, numbered}
use Rattle.sn_io.specs.Conditions.{MayReadAudio, MayReadControl, MayWriteAudio, MayWriteControl, MayReach, MayReadBuffer, MayWriteBuffer, MayReachBuffer}
use Rattle.sn_synth.specs.UnitBlocks.{is_played}
use Rattle.sn_synth.specs.Synths.{input_blocks}

-- what is read if there is no such control
abbrev pub no_control : SynthControl
no_control = record { value = pos 0; bus = None }

abbrev pub IsFollowed : Option ℕ → Type 0
IsFollowed None = Unit {0}
IsFollowed (Some n) = n < control_bus_count

-- one control for each control of the definition, each bus below 1,024, and no bus for an index control
pub record AreControlsOf (d : Definition) (controls : List SynthControl) : Type 0 where
  pub one_each : length controls ≡ length d.controls
  pub followed : All (λ c. IsFollowed c.bus) controls
  pub indices : (k : ℕ) → is_index d k ≡ true → (slice_index_or controls k no_control).bus ≡ None

-- the controls that follow a control bus may be read from it
abbrev pub MayFollow : Foot → List SynthControl → Type 0
MayFollow f controls = All (λ c. MayReadControl f c.bus) controls

-- the value of an index input
abbrev pub index_value : List SynthControl → Input → ℤ
index_value controls (Literal v) = v
index_value controls (Control k) = (slice_index_or controls k no_control).value
index_value controls (Wire k) = pos 0

abbrev pub index_of : List SynthControl → UnitLine → ℤ
index_of controls u = index_value controls (slice_index_or u.inputs 0 (Literal (pos 0)))

-- what is at the number of a unit's buffer
abbrev pub place_of : List (Option BufferPlace) → List SynthControl → UnitLine → Option BufferPlace
place_of places controls u = numbered (control_number (index_of controls u)) places

-- the buses of a unit's channels, and its buffer, may be read or written, as its kind does
pub record MayPlay (f : Foot) (places : List (Option BufferPlace)) (controls : List SynthControl) (u : UnitLine) : Type 0 where
  pub hears : reads_audio u.kind ≡ true → (i : ℕ) → i < u.outputs → MayReadAudio f (audio_number (index_of controls u +ℤ pos i))
  pub reads : reads_control u.kind ≡ true → (i : ℕ) → i < u.outputs → MayReadControl f (control_number (index_of controls u +ℤ pos i))
  pub writes : writes_audio u.kind ≡ true → (i : ℕ) → i + 1 < length u.inputs → MayWriteAudio f (audio_number (index_of controls u +ℤ pos i))
  pub sets : writes_control u.kind ≡ true → (i : ℕ) → i + 1 < length u.inputs → MayWriteControl f (control_number (index_of controls u +ℤ pos i))
  pub plays : reads_buffer u.kind ≡ true → MayReadBuffer f (place_of places controls u)
  pub records : writes_buffer u.kind ≡ true → MayWriteBuffer f (place_of places controls u)

-- those of all units
abbrev pub MayPlayAll : Foot → List (Option BufferPlace) → List SynthControl → Definition → Type 0
MayPlayAll f places controls d = All (MayPlay f places controls) d.units

-- What a synth asks of a foot: it writes its state, reads the buses that its controls follow, and plays its units.
pub record MayRun (f : Foot) (places : List (Option BufferPlace)) (controls : List SynthControl) (d : Definition) (state : Extent) : Type 0 where
  pub keeps : MayWrite f state.at state.len
  pub follows : MayFollow f controls
  pub plays : MayPlayAll f places controls d

-- the same by the values of the controls and the blocks of the inputs
pub record Reaches (kind : Kind) (f : Foot) (places : List (Option BufferPlace)) (n : ℕ) (inputs : List (List ℤ)) : Type 0 where
  pub buses : MayReach kind f n inputs
  pub buffer : MayReachBuffer kind f inputs places

abbrev pub MayOutput : Foot → List (Option BufferPlace) → List ℤ → UnitLine → Type 0
MayOutput f places values u = (wires : List (List ℤ)) → Reaches u.kind f places u.outputs (input_blocks values wires u.inputs)

-- an input that is there, after so many wires
abbrev pub IsKnown : ℕ → ℕ → Input → Type 0
IsKnown controls wires (Literal v) = Unit {0}
IsKnown controls wires (Control k) = k < controls
IsKnown controls wires (Wire k) = k < wires

abbrev pub AreKnown : ℕ → ℕ → List Input → Type 0
AreKnown controls wires inputs = All (IsKnown controls wires) inputs

-- a unit of a kind with so many outputs, at a rate, on the blocks of its inputs, with its state in so many words from a
-- place on
pub record CanRun (kind : Kind) (rate : ℕ) (f : Foot) (places : List (Option BufferPlace)) (n at len : ℕ) (inputs : List (List ℤ)) : Type 0 where
  pub played : is_played kind ≡ true
  pub enough : length (row_of kind).inputs ≤ length inputs
  pub size : words_of (row_of kind).words (most_frames rate inputs) ≡ len
  pub apart : 0 < len → bus_words ≤ at
  pub state : MayWrite f at len
  pub buffers : AreApart (record { at = at; len = len }) places
  pub reach : Reaches kind f places n inputs
