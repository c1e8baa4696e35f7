use Rattle.std.proofs.Common.{◌≡◌, ◌++◌, drop}
use Rattle.sn_nodecmd.specs.Covering.{items_in}
use Rattle.sn_nodecmd.proofs.LatestLemmas.{Unmarked}
use Rattle.sn_nodecmd.proofs.latest.unjudged.Given as goal

abbrev pub invariant-loop-one : goal.invariant-loop-one
invariant-loop-one g l = record {
  none : Unmarked l.judged.items;
  items : items_in l.judged.items ++ drop l.one-index l.items ≡ l.items;
}
