use Rattle.std.proofs.Common.{arith}
use Rattle.sn_osc.specs.Shape.{shape}
use Rattle.sn_osc.specs.Bytes.{packet_bytes}
use Rattle.sn_score.proofs.Packets.{fits_tests}
use Rattle.sn_score.proofs.Streaming.{few_where}
use Rattle.sn_score.proofs.stream.spelling.Goals as goal

pub encode-requires : goal.encode-requires
encode-requires c = (c.requires.bytes, c.requires.spelled, omega (arith, c.requires.few))

pub returns-clause-few : goal.returns-clause-few
returns-clause-few c = few_where (λ t. t.bytes) (packet_bytes (shape c.args.packet.now)) 65536 c.encode.result c.encode.ensures.bytes (fits_tests (shape c.args.packet.now) c.requires).few
