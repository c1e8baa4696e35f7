use Rattle.std.proofs.Common.{◌≡◌, ◌≤◌, ◌++◌, ℕ, length}
use Rattle.sn_score.specs.Fields.{bytes_at, unquoted}
use Rattle.sn_score.proofs.fields.unquoted.Given as goal

abbrev pub invariant-loop-rest : goal.invariant-loop-rest
invariant-loop-rest l = record {
  fuel : ℕ;
  enough : length l.rest ≤ fuel;
  shorter : length l.rest ≤ length l.bytes;
  text : l.text.bytes ++ (bytes_at fuel l.rest).0 ≡ (unquoted l.bytes).0;
  after : (bytes_at fuel l.rest).1 ≡ (unquoted l.bytes).1;
}

abbrev pub decreases-loop-rest : goal.decreases-loop-rest
decreases-loop-rest l = length l.rest
