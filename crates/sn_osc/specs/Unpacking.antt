-- The whole frames at the start of bytes that came over a connection.
use Rattle.std.specs.Prelude.{◌≡◌, ℕ, zero, suc, List, [], ◌∷◌, ◌++◌, length, IsTrue}
use Rattle.std.specs.List.{AllByRecursion}
use Rattle.sn_osc.specs.Bytes.{frame_bytes}
use Rattle.sn_osc.specs.Framed.{HasNoFrame}
use Rattle.sn_osc.specs.Frames.{FirstFrame, cut, bad_size, frame, is_frame_size, first_frame}

-- the packets' bytes of the frames, and the bytes after the last frame
pub record Unpacked : Type 0 where
  pub packets : List (List ℕ)
  pub rest : List ℕ

abbrev pub no_frame : List ℕ → Unpacked
no_frame bytes = record { packets = []; rest = bytes }

abbrev pub one_more : List ℕ → Unpacked → Unpacked
one_more packet u = record { packets = packet ∷ u.packets; rest = u.rest }

-- the first frame, if there is one, and then those after it
abbrev pub after_first : FirstFrame → List ℕ → (List ℕ → Unpacked) → Unpacked
after_first cut bytes more = no_frame bytes
after_first (bad_size size) bytes more = no_frame bytes
after_first (frame packet rest) bytes more = one_more packet (more rest)

-- the first frames, at most so many
abbrev pub first_frames : ℕ → List ℕ → Unpacked
first_frames zero bytes = no_frame bytes
first_frames (suc most) bytes = after_first (first_frame bytes) bytes (first_frames most)

-- all whole frames at the start; there are fewer than bytes
abbrev pub unpacked : List ℕ → Unpacked
unpacked bytes = first_frames (length bytes) bytes

-- more bytes come after what is left
abbrev pub joined_to : Unpacked → List ℕ → Unpacked
joined_to u more = record { packets = u.packets ++ (unpacked (u.rest ++ more)).packets; rest = (unpacked (u.rest ++ more)).rest }

-- the joined frames of packets
abbrev pub joined_frames : List (List ℕ) → List ℕ
joined_frames [] = []
joined_frames (packet ∷ packets) = frame_bytes packet ++ joined_frames packets

-- The frames of the packets are the first of the bytes. Each packet has a size that it may have in a stream, and no
-- whole frame stands first in the rest.
pub record AreWholeFrames (bytes : List ℕ) (u : Unpacked) : Type 0 where
  pub whole : bytes ≡ joined_frames u.packets ++ u.rest
  pub sized : AllByRecursion (λ packet. IsTrue (is_frame_size (length packet))) u.packets
  pub over : HasNoFrame u.rest
