use Rattle.std.proofs.Common.{rules}
use Rattle.sn_osc.specs.Shape.{body_of}
use Rattle.sn_osc.specs.Bytes.{string_bytes, body_bytes}
use Rattle.sn_osc.proofs.Octets.{octets_joined}
use Rattle.sn_osc.proofs.lengths.message_len.Goals as goal

pub returns-clause-octets : goal.returns-clause-octets
returns-clause-octets c =
    let m = c.args.message.now in
    octets_joined (string_bytes m.address.bytes) (body_bytes (body_of m.body)) (search rules) (search rules)
