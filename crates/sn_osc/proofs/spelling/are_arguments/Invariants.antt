use Rattle.std.proofs.Common.{◌≡◌, map, drop}
use Rattle.std.specs.List.{list_all}
use Rattle.sn_osc.specs.Shape.{argument_of}
use Rattle.sn_osc.specs.Bytes.{is_argument}
use Rattle.sn_osc.proofs.spelling.are_arguments.Given as goal

abbrev pub invariant-loop-argument : goal.invariant-loop-argument
invariant-loop-argument l = list_all is_argument (map argument_of (drop l.argument-index l.arguments)) ≡ list_all is_argument (map argument_of l.arguments)
