-- The notes so far have been put, and the next are drawn from a number of the seed.
use Rattle.std.proofs.Common.{◌≡◌, ◌*◌, ◌++◌, map}
use Rattle.sn_osc.specs.Shape.{shape}
use Rattle.sn_drill.specs.Stream.{number_at, notes}
use Rattle.sn_drill.proofs.stream.put_notes.Given as goal

abbrev pub invariant-loop-index : goal.invariant-loop-index
invariant-loop-index l = record {
  put : map shape l.packets.items ≡ map shape l.fn.packets.items ++ notes l.seed l.rate l.index;
  drawn : l.number ≡ number_at l.seed (2 * l.index);
}
