use Rattle.std.proofs.Common.{◌≡◌, ◌≤◌, ◌<◌, ◌+◌, ◌^◌, ◌++◌, map, drop, length}
use Rattle.sn_osc.specs.Shape.{argument_of}
use Rattle.sn_osc.specs.Bytes.{arguments_bytes}
use Rattle.sn_osc.proofs.encoding.put_arguments.Given as goal

abbrev pub invariant-loop-argument : goal.invariant-loop-argument
invariant-loop-argument l = record {
  put : l.out.bytes ++ arguments_bytes (map argument_of (drop l.argument-index l.arguments)) ≡ l.fn.out.bytes ++ arguments_bytes (map argument_of l.arguments);
  few : length (arguments_bytes (map argument_of (drop l.argument-index l.arguments))) < 2 ^ 31;
  room : length (arguments_bytes (map argument_of (drop l.argument-index l.arguments))) ≤ l.out.spare;
  left : l.fn.out.spare + length (arguments_bytes (map argument_of (drop l.argument-index l.arguments))) ≤ l.out.spare + length (arguments_bytes (map argument_of l.arguments));
}
