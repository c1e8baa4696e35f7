use Rattle.std.proofs.Common.{◌≡◌, map, drop}
use Rattle.sn_osc.specs.Shape.{argument_of}
use Rattle.sn_world.specs.Rows.{singles}
use Rattle.sn_world.proofs.Parsing.{after}
use Rattle.sn_world.proofs.arguments.singles.Given as goal

abbrev pub invariant-loop-argument : goal.invariant-loop-argument
invariant-loop-argument g l = after l.found.items (singles g.R.Single.from_one (map argument_of (drop l.argument-index l.arguments))) ≡ singles g.R.Single.from_one (map argument_of l.arguments)
