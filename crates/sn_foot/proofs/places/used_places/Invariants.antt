-- What was put, and what the uses that are left put.
use Rattle.std.proofs.Common.{◌≡◌, ◌++◌, drop}
use Rattle.sn_foot.specs.Uses.{places_of}
use Rattle.sn_foot.proofs.places.used_places.Given as goal

abbrev pub invariant-loop-used : goal.invariant-loop-used
invariant-loop-used l = l.places.items ++ places_of l.buffers l.role (drop l.used-index l.uses) ≡ places_of l.buffers l.role l.uses
