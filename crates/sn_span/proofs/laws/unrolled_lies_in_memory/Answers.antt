use Rattle.sn_span.proofs.Rounding.{inside}
use Rattle.sn_span.proofs.laws.unrolled_lies_in_memory.Goals as goal

pub returns : goal.returns
returns c = inside
