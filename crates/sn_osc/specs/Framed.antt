-- What a framer does with a stream that is fed in pieces.
use Rattle.std.specs.Prelude.{◌+◌, ◌≡◌, ℕ, List, [], ◌∷◌, ◌++◌, length, Option, Some, None, Result, Ok, Err, IsTrue}
use Rattle.sn_ports.specs.Octets.{Octets}
use Rattle.sn_ports.specs.declared.failed.NoMemory.{NoMemory}
use Rattle.sn_osc.specs.declared.frame.Frame.{Frame}
use Rattle.sn_osc.specs.declared.frame.Unframed.{Unframed}
use Rattle.sn_osc.specs.declared.frame.Unframed.TheVariants as unframed
use Rattle.sn_osc.specs.Bytes.{frame_bytes}
use Rattle.sn_osc.specs.Framing.{Framing, kept_place}
use Rattle.sn_osc.specs.Frames.{cut, bad_size, is_frame_size, first_frame}

-- the piece was put after what is kept
abbrev pub fed_with : List ℕ → Framing → Framing
fed_with piece f = record { kept = f.kept ++ piece; fed = f.fed + length piece }

abbrev pub packet_of : Frame → List ℕ
packet_of f = f.bytes.bytes

-- no whole frame stands at the start
abbrev pub HasNoFrame : List ℕ → Type 0
HasNoFrame bytes = (packet rest : List ℕ) → IsTrue (is_frame_size (length packet)) → bytes ≡ frame_bytes packet ++ rest → ⊥

-- What asking for the next frame answers, and what it leaves. Of the first three cases exactly one applies to what is
-- kept.
abbrev pub Next : Framing → Framing → Result (Option Frame) Unframed → Type 0
Next old new (Ok None) = (first_frame old.kept ≡ cut) × (new ≡ old)
Next old new (Ok (Some f)) = IsTrue (is_frame_size (length (packet_of f))) × (old.kept ≡ frame_bytes (packet_of f) ++ new.kept) × (new.fed ≡ old.fed) × (f.place ≡ kept_place old + 4)
Next old new (Err (unframed.Bad size place)) = (first_frame old.kept ≡ bad_size size) × (place ≡ kept_place old) × (new ≡ old)
Next old new (Err unframed.NoMemory) = new ≡ old

-- the same, if a bad size counts as no frame
abbrev pub NextWhole : Framing → Framing → Result (Option Frame) NoMemory → Type 0
NextWhole old new (Ok None) = HasNoFrame old.kept × (new ≡ old)
NextWhole old new (Ok (Some f)) = Next old new (Ok (Some f))
NextWhole old new (Err e) = new ≡ old

-- the joined frames
abbrev pub joined : List Frame → List ℕ
joined [] = []
joined (f ∷ fs) = frame_bytes (packet_of f) ++ joined fs

-- Frames that stand one after the other from a byte of the stream on: each has a size that a frame may have, and the
-- place of its packet's first byte.
abbrev pub StandAt : ℕ → List Frame → Type 0
StandAt at [] = Unit {0}
StandAt at (f ∷ fs) = IsTrue (is_frame_size (length (packet_of f))) × (f.place ≡ at + 4) × StandAt (at + 4 + length (packet_of f)) fs

-- The frames are the first of the stream, in order, and the framer keeps the rest of it.
pub record AreFirst (stream : List ℕ) (frames : List Frame) (framer : Framing) : Type 0 where
  pub whole : stream ≡ joined frames ++ framer.kept
  pub stand : StandAt 0 frames
  pub count : framer.fed ≡ length stream

-- the joined pieces
abbrev pub joined_pieces : List Octets → List ℕ
joined_pieces [] = []
joined_pieces (piece ∷ pieces) = piece.bytes ++ joined_pieces pieces
