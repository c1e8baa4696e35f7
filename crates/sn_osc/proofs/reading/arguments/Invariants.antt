use Rattle.std.proofs.Common.{◌≡◌, ◌≤◌, map, drop, length}
use Rattle.sn_osc.specs.Shape.{argument_of}
use Rattle.sn_osc.specs.Reading.{arguments_at}
use Rattle.sn_osc.proofs.ArgumentLoop.{with_front}
use Rattle.sn_osc.proofs.reading.arguments.Given as goal

abbrev pub invariant-loop-tag : goal.invariant-loop-tag
invariant-loop-tag l = record {
  read : with_front (map argument_of l.items.items) (arguments_at l.end (drop l.tag-index l.tags) l.rest) ≡ arguments_at l.end l.tags l.bytes;
  shorter : length l.rest ≤ length l.bytes;
}
