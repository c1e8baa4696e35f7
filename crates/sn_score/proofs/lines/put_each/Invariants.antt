use Rattle.std.proofs.Common.{◌≡◌, ◌++◌, drop, map}
use Rattle.sn_osc.specs.Shape.{argument_of}
use Rattle.sn_score.specs.Lines.{argument_word, fields}
use Rattle.sn_score.proofs.lines.put_each.Given as goal

abbrev pub invariant-loop-argument : goal.invariant-loop-argument
invariant-loop-argument l = l.out.bytes ++ fields (map argument_word (map argument_of (drop l.argument-index l.arguments))) ≡ l.fn.out.bytes ++ fields (map argument_word (map argument_of l.arguments))
