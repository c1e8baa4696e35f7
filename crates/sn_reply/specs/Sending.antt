-- Which messages can be sent, and which can be answered.
use Rattle.std.specs.Prelude.{ℕ, ◌+◌, ◌*◌, ◌^◌, ◌<◌, ◌≤◌, List, length, IsTrue}
use Rattle.std.specs.List.{AllByRecursion}
use Rattle.sn_osc.specs.Shape.{MessageShape}
use Rattle.sn_osc.specs.Bytes.{is_message, has_no_null, message_bytes}
use Rattle.sn_reply.specs.Replies.{ReplyShape}

-- a message with a spelling, of a size that its frame can say
pub record IsSendable (m : MessageShape) : Type 0 where
  pub valid : IsTrue (is_message m)
  pub short : length (message_bytes m) < 2 ^ 31

-- a text without a null byte, and short, as the words of a reason
pub record IsShortText (text : List ℕ) : Type 0 where
  pub clean : IsTrue (has_no_null text)
  pub short : length text ≤ 26

-- each reply can be sent
abbrev pub AllSendable : List ReplyShape → Type 0
AllSendable = AllByRecursion (λ r. IsSendable r.message)

-- A reply has at most four times the bytes of the message that it answers and 2 ^ 20 more, so it can be sent.
pub record IsAnswerable (m : MessageShape) : Type 0 where
  pub valid : IsTrue (is_message m)
  pub short : 4 * length (message_bytes m) + 2 ^ 20 < 2 ^ 31
