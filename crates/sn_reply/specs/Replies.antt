-- What a reply is, without where it lies in memory.
use Rattle.sn_osc.specs.Shape.{MessageShape}
use Rattle.sn_reply.specs.declared.replies.To.{To}

-- a message, and to whom it goes
pub record ReplyShape : Type 0 where
  pub to : To
  pub message : MessageShape
