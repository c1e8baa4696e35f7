-- Those of the numbers so far are put.
use Rattle.std.proofs.Common.{◌≡◌, ◌++◌}
use Rattle.std.specs.List.{filter}
use Rattle.sn_mem.specs.Blocks.{table}
use Rattle.sn_foot.specs.Footprints.{is_there}
use Rattle.sn_foot.specs.Putting.{resource}
use Rattle.sn_foot.specs.Uses.{footprint_in}
use Rattle.sn_report.specs.Visits.{used_so}
use Rattle.sn_report.proofs.resources.push_bank.Given as goal

abbrev pub invariant-loop-number : goal.invariant-loop-number
invariant-loop-number l = l.used.items ≡ l.fn.used.items ++ filter (used_so l.role (footprint_in (is_there l.buffers) l.uses)) (table (λ n. resource l.bank n) l.number)
