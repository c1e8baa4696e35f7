use Rattle.std.proofs.Common.{rules, ◌≡◌, subst, sym}
use Rattle.sn_osc.specs.Shape.{shape}
use Rattle.sn_osc.specs.Bytes.{packet_bytes}
use Rattle.sn_osc.specs.Grammar.{Spells}
use Rattle.sn_osc.proofs.Encoded.{few_bytes, is_spelled}
use Rattle.sn_osc.proofs.encoding.encode.Goals as goal

pub put_packet-requires : goal.put_packet-requires
put_packet-requires c = few_bytes (shape c.args.packet.now) c.requires

pub returns-clause-spelled : goal.returns-clause-spelled
returns-clause-spelled c =
    let bytes : c.put_packet.new.out.bytes ≡ packet_bytes (shape c.args.packet.now) = search rules in
    subst (Spells (shape c.args.packet.now)) (sym bytes) (is_spelled (shape c.args.packet.now) c.requires)
