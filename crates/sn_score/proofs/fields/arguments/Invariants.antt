use Rattle.std.proofs.Common.{◌≡◌, ◌≤◌, ◌++◌, ℕ, length, map}
use Rattle.sn_osc.specs.Shape.{argument_of}
use Rattle.sn_score.specs.Fields.{arguments_at}
use Rattle.sn_score.proofs.fields.arguments.Given as goal

abbrev pub invariant-loop-rest : goal.invariant-loop-rest
invariant-loop-rest l = record {
  fuel : ℕ;
  enough : length l.rest ≤ fuel;
  read : map argument_of l.items.items ++ arguments_at fuel l.rest ≡ arguments_at (length l.bytes) l.bytes;
}

abbrev pub decreases-loop-rest : goal.decreases-loop-rest
decreases-loop-rest l = length l.rest
