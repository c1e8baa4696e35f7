-- Replies as they are kept: their frames one after the other, and a mark for each.
use Rattle.std.specs.Prelude.{◌≡◌, ℕ, List, [], ◌∷◌, ◌++◌, length, map, take, drop, Result, Ok, Err}
use Rattle.sn_osc.specs.declared.fault.PacketFault.{PacketFault}
use Rattle.sn_osc.specs.Shape.{MessageShape, bare}
use Rattle.sn_osc.specs.Bytes.{message_bytes, frame_bytes}
use Rattle.sn_osc.specs.Reading.{message_in}
use Rattle.sn_reply.specs.declared.replies.Mark.{Mark}
use Rattle.sn_reply.specs.Replies.{ReplyShape}
use Rattle.sn_reply.specs.Sending.{AllSendable}

-- the frame of a reply's message
abbrev pub frame_of : ReplyShape → List ℕ
frame_of r = frame_bytes (message_bytes r.message)

-- to whom a reply goes, and how long its frame is
abbrev pub mark_of : ReplyShape → Mark
mark_of r = record { to = r.to; len = length (frame_of r) }

-- the frames of replies, one after the other
abbrev pub joined : List ReplyShape → List ℕ
joined [] = []
joined (r ∷ rs) = frame_of r ++ joined rs

-- the message that was read, or one that says nothing
abbrev pub or_blank : Result MessageShape PacketFault → MessageShape
or_blank (Ok m) = m
or_blank (Err e) = record { address = []; body = bare }

-- the message that a frame holds after its size
abbrev pub message_framed : List ℕ → MessageShape
message_framed frame = or_blank (message_in 0 (drop 4 frame))

-- the replies whose frames are so long, one after the other
abbrev pub replies_in : List ℕ → List Mark → List ReplyShape
replies_in bytes [] = []
replies_in bytes (m ∷ ms) = record { to = m.to; message = message_framed (take m.len bytes) } ∷ replies_in (drop m.len bytes) ms

-- The bytes are the frames of the replies that are read in them, and each of these can be sent.
pub record AreFramed (bytes : List ℕ) (marks : List Mark) : Type 0 where
  pub sendable : AllSendable (replies_in bytes marks)
  pub frames : bytes ≡ joined (replies_in bytes marks)
  pub marks_are : marks ≡ map mark_of (replies_in bytes marks)
