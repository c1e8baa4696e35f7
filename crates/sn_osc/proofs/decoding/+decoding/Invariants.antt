use Rattle.std.proofs.Common.{◌≡◌, ◌≤◌, ◌+◌, ◌*◌, ℕ, map, length}
use Rattle.sn_osc.specs.Shape.{shape}
use Rattle.sn_osc.specs.Reading.{elements_in, packet_in}
use Rattle.sn_osc.proofs.ElementLoop.{with_front}
use Rattle.sn_osc.proofs.decoding.+decoding.Given as goal

abbrev pub decreases-bundle : goal.decreases-bundle
decreases-bundle l = 3 * l.deep + 4

abbrev pub decreases-elements : goal.decreases-elements
decreases-elements l = 3 * l.deep + 3

abbrev pub decreases-packet : goal.decreases-packet
decreases-packet l = 3 * l.deep + 2

abbrev pub invariant-elements-loop-rest : goal.invariant-elements-loop-rest
invariant-elements-loop-rest l = record {
  fuel : ℕ;
  enough : length l.rest ≤ fuel;
  shorter : length l.rest ≤ length l.bytes;
  read : with_front (map shape l.elements.items) (elements_in (packet_in l.deep l.around) l.end fuel l.rest) ≡ elements_in (packet_in l.deep l.around) l.end (length l.bytes) l.bytes;
}

abbrev pub decreases-elements-loop-rest : goal.decreases-elements-loop-rest
decreases-elements-loop-rest l = length l.rest
