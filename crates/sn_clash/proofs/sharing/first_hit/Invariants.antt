-- The uses that are left give, with the first resource so far, that of all.
use Rattle.std.proofs.Common.{◌≡◌, None, drop}
use Rattle.sn_foot.specs.Footprints.{is_there}
use Rattle.sn_clash.specs.Marking.{first_hit}
use Rattle.sn_clash.proofs.sharing.first_hit.Given as goal

abbrev pub invariant-loop-used : goal.invariant-loop-used
invariant-loop-used l = first_hit (is_there l.buffers) l.marks (drop l.used-index l.uses) l.least ≡ first_hit (is_there l.buffers) l.marks l.uses None
