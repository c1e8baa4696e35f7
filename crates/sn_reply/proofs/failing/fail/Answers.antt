use Rattle.std.proofs.Common.{◌≡◌, [], ◌∷◌, map, subst, sym, rules}
use Rattle.std.specs.Prelude.{codes}
use Rattle.sn_osc.specs.Shape.{MessageShape, string, arguments, argument_of}
use Rattle.sn_reply.specs.Sending.{IsSendable}
use Rattle.sn_reply.proofs.Sending.{sendable-fail}
use Rattle.sn_reply.proofs.failing.fail.Goals as goal

pub returns-clause-sendable : goal.returns-clause-sendable
returns-clause-sendable c = λ clean short.
    let found : MessageShape = record { address = c.in_ok-from_slice-2.field-0.bytes; body = arguments (map argument_of c.from_vec.result) } in
    let wanted : MessageShape = record { address = codes "/fail"; body = arguments (string c.args.address.now.bytes ∷ string c.in_ok-reason_text.field-0.bytes ∷ []) } in
    let same : found ≡ wanted = search rules in
    subst IsSendable (sym same) (sendable-fail c.args.address.now.bytes c.in_ok-reason_text.field-0.bytes c.in_ok-reason_text.ensures.short clean short)
