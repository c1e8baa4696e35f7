-- Bytes that are no packet are answered.
use Rattle.std.specs.Prelude.{ℕ, [], ◌∷◌, codes}
use Rattle.sn_reply.specs.Failing.{fail_message}
use Rattle.sn_reply.specs.Frames.{with_frames}
use Rattle.sn_reply.specs.Replies.{ReplyShape}
use Rattle.sn_reply.specs.declared.reason.Reason.TheVariants.{BadPacket}
use Rattle.sn_reply.specs.declared.replies.To.TheVariants.{Client}
use Rattle.sn_engine.specs.Running.{Running}

-- what a client is told whose bytes are no packet
abbrev pub bad_packet : ℕ → ReplyShape
bad_packet from = record { to = Client from; message = fail_message (codes "packet") BadPacket }

-- that is said
abbrev pub with_bad_packet : ℕ → Running → Running
with_bad_packet from r = record r { replies = with_frames 0 (bad_packet from ∷ []) r.replies }
