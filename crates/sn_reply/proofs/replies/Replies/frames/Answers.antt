use Rattle.std.proofs.Common.{ap, ◌∙◌}
use Rattle.sn_reply.specs.Framed.{joined}
use Rattle.sn_reply.proofs.replies.Replies.frames.Goals as goal

pub returns : goal.returns
returns c = c.as_slice.ensures ∙ c.self.invariant.frames ∙ ap joined c.self.view_is
