use Rattle.std.proofs.Common.{◌≡◌, ◌++◌, drop}
use Rattle.sn_engine.specs.Clashing.{told_clashes}
use Rattle.sn_engine.proofs.clashing.tell_each.Given as goal

abbrev pub invariant-loop-clash : goal.invariant-loop-clash
invariant-loop-clash l = l.said ++ told_clashes l.before (drop l.clash-index l.found) ≡ l.fn.said ++ told_clashes l.before l.found
