use Rattle.std.proofs.Common.{◌≡◌, ◌≤◌, ◌+◌, ◌++◌, map, take, length}
use Rattle.sn_osc.specs.Shape.{argument_of}
use Rattle.sn_osc.specs.Bytes.{tag_of}
use Rattle.sn_osc.proofs.encoding.put_each_tag.Given as goal

abbrev pub invariant-loop-argument : goal.invariant-loop-argument
invariant-loop-argument l = record {
  put : l.out.bytes ≡ l.fn.out.bytes ++ map tag_of (map argument_of (take l.argument-index l.arguments));
  so_far : l.argument-index ≤ length l.arguments;
  room : length l.arguments ≤ l.out.spare + l.argument-index;
  left : l.fn.out.spare ≤ l.out.spare + l.argument-index;
}
