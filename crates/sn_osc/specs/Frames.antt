-- A stream is frames: before each packet stands its int32 size.
use Rattle.std.specs.Prelude.{◌≡◌, ◌<◌, ◌+◌, ◌%◌, ℕ, ℤ, List, [], ◌∷◌, ◌++◌, length, take, drop, Bool, not, nat_lt, nat_le, ◌==◌, ◌&&◌, if◌then◌else◌, IsTrue}
use Rattle.sn_ports.specs.Limits.{most_packet}
use Rattle.sn_osc.specs.declared.fault.StreamFault.{StreamFault}
use Rattle.sn_osc.specs.declared.fault.StreamFault.TheVariants.{Packet, FrameSize, FrameCut}
use Rattle.sn_osc.specs.declared.frame.NoFrame.{NoFrame}
use Rattle.sn_osc.specs.declared.frame.NoFrame.TheVariants as noframe
use Rattle.sn_osc.specs.Shape.{Shape}
use Rattle.sn_osc.specs.Bytes.{frame_bytes}
use Rattle.sn_osc.specs.Grammar.{Spells}
use Rattle.sn_osc.specs.Reading.{int_in, size_in}
use Rattle.sn_osc.specs.Faults.{FirstFault}

-- from 4 on to the bytes of the longest packet, a multiple of 4
abbrev pub is_frame_size : ℕ → Bool
is_frame_size n = nat_le 4 n && nat_le n most_packet && n % 4 == 0

-- The bytes are the joined frames of the packets.
abbrev pub Frames : List Shape → List ℕ → Type 0
Frames [] bytes = bytes ≡ []
Frames (x ∷ xs) bytes = (packet : List ℕ) × (rest : List ℕ) × IsTrue (is_frame_size (length packet)) × Spells x packet × Frames xs rest × (bytes ≡ frame_bytes packet ++ rest)

-- What stands first in a stream: no whole frame, a bad size, or a packet's bytes with what follows them.
pub data FirstFrame : Type 0 where
  cut : FirstFrame
  bad_size : ℤ → FirstFrame
  frame : List ℕ → List ℕ → FirstFrame

abbrev pub first_frame : List ℕ → FirstFrame
first_frame bytes =
    if nat_lt (length bytes) 4 then cut else
    if not (is_frame_size (size_in bytes)) then bad_size (int_in bytes) else
    if nat_lt (length (drop 4 bytes)) (size_in bytes) then cut else
    frame (take (size_in bytes) (drop 4 bytes)) (drop (size_in bytes) (drop 4 bytes))

-- what stands first if no whole frame does
abbrev pub instead : NoFrame → FirstFrame
instead noframe.Cut = cut
instead (noframe.BadSize size) = bad_size size

-- ---- the first fault of a stream

-- Why no packet stands at the start of the bytes, which begin at a place of the stream: the first that applies of a cut
-- size, a bad size, a cut packet and a fault of the packet.
abbrev pub FrameFault : ℕ → List ℕ → ℕ → StreamFault → Type 0
FrameFault at bytes place FrameCut = (place ≡ at) × (0 < length bytes) × (first_frame bytes ≡ cut)
FrameFault at bytes place FrameSize = (size : ℤ) × (place ≡ at) × (first_frame bytes ≡ bad_size size)
FrameFault at bytes place (Packet kind) = (packet : List ℕ) × (rest : List ℕ) × (p : ℕ) × (place ≡ at + 4 + p) × (first_frame bytes ≡ frame packet rest) × FirstFault packet kind p

-- Bytes that begin at a place of the stream are frames, as many as the number says, and then comes no packet.
pub record FaultFrom (base : ℕ) (bytes : List ℕ) (number place : ℕ) (fault : StreamFault) : Type 0 where
  pub before : List Shape
  pub front : List ℕ
  pub rest : List ℕ
  pub frames : Frames before front
  pub parts : bytes ≡ front ++ rest
  pub count : length before ≡ number
  pub why : FrameFault (base + length front) rest place fault

-- the first fault of a stream: the number of the packet that is at fault, from 0, and the place in the stream
abbrev pub StreamFaultAt : List ℕ → ℕ → ℕ → StreamFault → Type 0
StreamFaultAt bytes number place fault = FaultFrom 0 bytes number place fault
