use Rattle.std.proofs.Common.{◌≡◌, ◌++◌, drop}
use Rattle.sn_nodecmd.specs.Covering.{uncovered}
use Rattle.sn_nodecmd.proofs.latest.uncovered.Given as goal

abbrev pub invariant-loop-one : goal.invariant-loop-one
invariant-loop-one g l = l.left.items ++ uncovered (drop l.one-index l.judged) ≡ uncovered l.judged
