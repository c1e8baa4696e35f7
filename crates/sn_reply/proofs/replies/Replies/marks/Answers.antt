use Rattle.std.proofs.Common.{◌≡◌, map, ap, ◌∙◌, subst, rules}
use Rattle.sn_reply.specs.Framed.{mark_of}
use Rattle.sn_reply.specs.Sending.{AllSendable}
use Rattle.sn_reply.proofs.replies.Replies.marks.Goals as goal

pub returns-clause-marks : goal.returns-clause-marks
returns-clause-marks c =
    let is : c.deref.result.now ≡ c.self.inside.marks.items = search rules in
    is ∙ c.self.invariant.marks_are ∙ ap (map mark_of) c.self.view_is

pub returns-clause-sendable : goal.returns-clause-sendable
returns-clause-sendable c = subst AllSendable c.self.view_is c.self.invariant.sendable
