use Rattle.std.proofs.Common.{◌++◌}
use Rattle.sn_def.proofs.Complete.{is_read}
use Rattle.sn_def.proofs.Prefix.{nothing_more}
use Rattle.sn_def.proofs.laws.no_prefix.Goals as goal

pub returns : goal.returns
returns c = λ text more d e a b. nothing_more text more d e (is_read c.literal_bytes.ensures text d a) (is_read c.literal_bytes.ensures (text ++ more) e b)
