use Rattle.std.proofs.Common.{◌≡◌, map, subst, sym, rules}
use Rattle.sn_osc.specs.Shape.{MessageShape, arguments, argument_of}
use Rattle.sn_reply.specs.Sending.{IsSendable}
use Rattle.sn_reply.proofs.Sending.{sendable_long}
use Rattle.sn_reply.proofs.answer.Answer.into_long_message.Goals as goal

pub returns-clause-sendable : goal.returns-clause-sendable
returns-clause-sendable c =
    let made : MessageShape = record { address = c.in_ok-from_slice.field-0.bytes; body = arguments (map argument_of c.from_vec.result) } in
    let shape : MessageShape = record { address = c.args.address.now; body = arguments c.args.self } in
    let same : made ≡ shape = search rules in
    subst IsSendable (sym same) (sendable_long c.args.address.now c.args.self c.requires.address (subst Rattle.sn_reply.specs.Answering.AreShort (search rules) c.self.invariant) c.requires.few)
