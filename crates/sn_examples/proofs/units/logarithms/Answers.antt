use Rattle.std.proofs.Common.{refl}
use lib.Count.{count_leading_zeros}
use Rattle.sn_fixed.specs.Literal.{literal}
use Rattle.sn_mem.specs.Blocks.{table}
use Rattle.sn_def.specs.Reading.{defaults_at}
use Rattle.sn_def.specs.Units.{row_of}
use Rattle.sn_filt.specs.Arithmetic.{arithmetic}
use Rattle.sn_filt.specs.Filters.{filter}
use Rattle.sn_examples.proofs.units.logarithms.Goals as goal

pub returns : goal.returns
unfolding count_leading_zeros literal table defaults_at row_of arithmetic filter
returns c = refl
