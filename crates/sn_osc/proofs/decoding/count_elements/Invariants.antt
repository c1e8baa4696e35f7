use Rattle.std.proofs.Common.{◌≤◌, ◌+◌, length}
use Rattle.sn_osc.proofs.decoding.count_elements.Given as goal

abbrev pub invariant-loop-after : goal.invariant-loop-after
invariant-loop-after l = record {
  shorter : length l.rest ≤ length l.bytes;
  few : l.count + length l.rest ≤ length l.bytes;
}

abbrev pub decreases-loop-after : goal.decreases-loop-after
decreases-loop-after l = length l.rest
