-- What was put, and the samples that are left, are all of them.
use Rattle.std.proofs.Common.{◌≡◌, ◌≤◌, ◌*◌, ◌++◌, length}
use Rattle.std.specs.List.{flat_map}
use Rattle.sn_osc.specs.Bytes.{int_bytes}
use Rattle.sn_shelf.specs.Waves.{samples_of}
use Rattle.sn_shelf.proofs.parts.put_samples.Given as goal

abbrev pub invariant-loop-left : goal.invariant-loop-left
invariant-loop-left l = record {
  put : l.out.bytes ++ flat_map int_bytes (samples_of l.left l.width l.rest) ≡ l.fn.out.bytes ++ flat_map int_bytes (samples_of l.count l.width l.bytes);
  there : l.left * l.width ≤ length l.rest;
}

abbrev pub decreases-loop-left : goal.decreases-loop-left
decreases-loop-left l = l.left
