-- Packets that could come as a stream.
use Rattle.std.specs.Prelude.{◌≤◌, ℕ, List, length}
use Rattle.sn_ports.specs.Limits.{most_stream}
use Rattle.sn_osc.specs.Shape.{Shape}
use Rattle.sn_osc.specs.Frames.{Frames}

-- they are framed in at most 16,777,216 bytes
abbrev pub HasStream : List Shape → Type 0
HasStream packets = (bytes : List ℕ) × Frames packets bytes × (length bytes ≤ most_stream)
