use Rattle.sn_fixed.proofs.LiteralBytes.{literal_bytes}
use Rattle.sn_fixed.proofs.laws.literal_bytes.Goals as goal

pub returns : goal.returns
returns c = literal_bytes
