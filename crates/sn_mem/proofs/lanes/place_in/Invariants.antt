-- The moves that are left say where the word stands.
use Rattle.std.proofs.Common.{◌≡◌, drop}
use Rattle.sn_mem.specs.Lanes.{place_in}
use Rattle.sn_mem.proofs.lanes.place_in.Given as goal

abbrev pub invariant-loop-moved : goal.invariant-loop-moved
invariant-loop-moved l = place_in (drop l.moved-index l.moves) l.at ≡ place_in l.moves l.at
