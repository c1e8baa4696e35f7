use Rattle.std.proofs.Common.{arith}
use Rattle.sn_def.proofs.Layouts.{fewer}
use Rattle.sn_def.proofs.layout.words_at.Goals as goal

pub total_words-requires : goal.total_words-requires
total_words-requires c = rw c.first_units.ensures (omega (arith, fewer c.args.rate c.args.units.now c.args.number, c.requires))
