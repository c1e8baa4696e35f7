use Rattle.std.proofs.Common.{◌≡◌, ◌≤◌, ◌+◌, ◌^◌, map, drop, length, min, true}
use Rattle.sn_osc.specs.Shape.{argument_of}
use Rattle.sn_osc.specs.Bytes.{are_octets, arguments_bytes}
use Rattle.sn_osc.proofs.lengths.arguments_len.Given as goal

abbrev pub invariant-loop-argument : goal.invariant-loop-argument
invariant-loop-argument l = record {
  whole : min (l.len + length (arguments_bytes (map argument_of (drop l.argument-index l.arguments)))) (2 ^ 31) ≡ min (length (arguments_bytes (map argument_of l.arguments))) (2 ^ 31);
  few : l.len ≤ 2 ^ 31;
  octets : are_octets (arguments_bytes (map argument_of (drop l.argument-index l.arguments))) ≡ true → are_octets (arguments_bytes (map argument_of l.arguments)) ≡ true;
}
