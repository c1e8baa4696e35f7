use Rattle.std.proofs.Common.{ap, sym, ◌∙◌, length}
use Rattle.sn_reply.proofs.Framed.{as_many_read}
use Rattle.sn_reply.proofs.replies.Replies.len.Goals as goal

pub returns : goal.returns
returns c = c.len.ensures ∙ c.self.inside.marks.ok.0 ∙ sym (as_many_read c.self.inside.frames.bytes c.self.inside.marks.items) ∙ ap length c.self.view_is
