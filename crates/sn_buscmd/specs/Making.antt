-- The first samples of a buffer that is made.
use Rattle.std.specs.Prelude.{◌≡◌, ◌*◌, ℕ, ℤ, List, length, codes}
use Rattle.sn_world.specs.declared.buffer_repetition.NewBuffer.{NewBuffer}
use Rattle.sn_world.specs.BufferCommands.{zeros_of}
use Rattle.sn_world.specs.BufferReading.{ints_in}
use Rattle.sn_buscmd.specs.declared.buffer_holding.FirstSamples.{FirstSamples}
use Rattle.sn_buscmd.specs.declared.buffer_holding.FirstSamples.TheVariants.{Zeros, Read}

-- the command that makes it
abbrev pub command_of : FirstSamples → List ℕ
command_of Zeros = codes "/b_alloc"
command_of (Read bytes) = codes "/b_allocRead"

abbrev pub samples_for : NewBuffer → FirstSamples → List ℤ
samples_for r Zeros = zeros_of r
samples_for r (Read bytes) = ints_in (r.frames * r.channels) bytes.now

-- there is one for each frame of each channel
abbrev pub AreWhole : NewBuffer → FirstSamples → Type 0
AreWhole r Zeros = Unit {0}
AreWhole r (Read bytes) = length bytes.now ≡ 4 * (r.frames * r.channels)
