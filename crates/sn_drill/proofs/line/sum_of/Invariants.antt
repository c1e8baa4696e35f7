-- The bytes so far have been added.
use Rattle.std.proofs.Common.{◌≡◌, ◌+◌, ◌%◌, ◌^◌, drop}
use Rattle.std.specs.Prelude.{sum}
use Rattle.sn_drill.specs.Line.{sum_of}
use Rattle.sn_drill.proofs.line.sum_of.Given as goal

abbrev pub invariant-loop-byte : goal.invariant-loop-byte
invariant-loop-byte l = (l.total + sum (drop l.byte-index l.bytes)) % 2 ^ 32 ≡ sum_of l.bytes
