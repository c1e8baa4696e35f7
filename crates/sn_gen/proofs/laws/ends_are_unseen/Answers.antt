use Rattle.sn_gen.proofs.Unseen.{line_unseen, linen_unseen}
use Rattle.sn_gen.proofs.laws.ends_are_unseen.Goals as goal

pub returns : goal.returns
returns c = record { line = line_unseen; linen = linen_unseen }
